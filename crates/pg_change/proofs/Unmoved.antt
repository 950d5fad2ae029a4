-- What is noted of the strings of pages, but for those that stand where they stood.
use Rattle.std.specs.Prelude.{IfSome}
use Rattle.std.proofs.Common.{Box, Global, ◌≡◌, ◌⊎◌, inl, inr, ⊎_elim, ℕ, suc, ◌+◌, ◌-◌, ◌≤◌, ◌<◌, List, [], ◌∷◌, ◌++◌, length, get_or, Option, Some, None, refl, sym, ap, subst, ◌∙◌, append-nil, arith}
use Rattle.std.specs.List.{Contains}
use Rattle.std.specs.Option.{option_map}
use Rattle.std.specs.FinMap.{insert}
use Rattle.std.proofs.lemmas.Bool.{cases_lt}
use Rattle.std.proofs.lemmas.List.Elements.{Contains-append_left, Contains-append_right, Contains-append_cases}
use Rattle.pg_page.specs.declared.pages.Page.{Page}
use Rattle.pg_page.specs.Pages.{number_at, string_at}
use Rattle.pg_page.specs.laws.Reading.{count_of_page, slot_read}
use Rattle.pg_map.specs.Kinds.{Each, Kind, Free, Slotted, Long, bytes_of_kind, strings_of}
use Rattle.pg_map.specs.PageStrings.{string_key}
use Rattle.pg_journal.specs.Pages.{Numbered}
use Rattle.pg_cache.specs.Caches.{bytes_at}
use Rattle.pg_directory.specs.Keeping.{IsKeptPage}
use Rattle.pg_directory.specs.declared.entries.EntryAt.{EntryAt}
use Rattle.pg_directory.specs.Pages.{Leaf, Inner, directory_bytes}
use Rattle.pg_directory.specs.Trees.{StorePage, Plain, Directory, bytes_of_page, IsPage, kind_of, page_at}
use Rattle.pg_directory.specs.laws.Listing.{none_in, in_more, first_in}
use Rattle.pg_directory.specs.laws.Pages.{each_at}
use Rattle.pg_window.specs.Sheets.{sheet_kind}
use Rattle.pg_window.specs.declared.sheets.Sheet.{Sheet}
use Rattle.pg_window.specs.declared.sheets.Sheet.TheVariants.{Free as FreeSheet, Away as AwaySheet, Slotted as SlottedSheet, Long as LongSheet}
use Rattle.pg_leaves.specs.Editing.{KeyEdit}
use Rattle.pg_change.specs.KeyEdits.{strings_on, HasStringOn, key_on}
use Rattle.pg_change.specs.NotedEdits.{EditMap, with_edits, slot_edit, slot_edits, page_edits, pages_edits}
use Rattle.pg_change.specs.Unmoved.{HasKeyIn, HadKeyIn, HadKeyAt, IsNotedUnlessThere, AreSlotsNoted, IsPageNoted, ArePagesNoted}

-- ---- a key on the bytes of a page of a store

-- The page has strings, and the one in the slot has the key.
had_on : (p : StorePage) (bytes : List ℕ) (slot : ℕ) (key : List ℕ) → IsPage p → bytes ≡ bytes_of_page p → HasKeyIn bytes slot key
    → (slot < length (strings_of (kind_of p ∷ []))) × (string_key (get_or (strings_of (kind_of p ∷ [])) slot []) ≡ key)
unfolding bytes_of_kind directory_bytes
had_on (Plain Free) bytes slot key good is has = let wrong : 0 ≡ 1 = sym (ap (λ (l : List ℕ). get_or l 0 0) is) ∙ has.kind in absurd (omega (arith, wrong))
had_on (Plain (Long next part)) bytes slot key good is has = let wrong : 2 ≡ 1 = sym (ap (λ (l : List ℕ). get_or l 0 0) is) ∙ has.kind in absurd (omega (arith, wrong))
had_on (Directory (Leaf es)) bytes slot key good is has = let wrong : 3 ≡ 1 = sym (ap (λ (l : List ℕ). get_or l 0 0) is) ∙ has.kind in absurd (omega (arith, wrong))
had_on (Directory (Inner level cs)) bytes slot key good is has = let wrong : 3 ≡ 1 = sym (ap (λ (l : List ℕ). get_or l 0 0) is) ∙ has.kind in absurd (omega (arith, wrong))
had_on (Plain (Slotted ss)) bytes slot key good is has =
    let count : number_at bytes 2 ≡ length ss = ap (λ (l : List ℕ). number_at l 2) is ∙ count_of_page ss good in
    let l = has.less in
    let less : slot < length ss = omega (arith, l, count) in
    let own : string_key (get_or ss slot []) ≡ key = ap string_key (sym (slot_read ss slot good less).string) ∙ ap (λ (b : List ℕ). string_key (string_at b slot)) (sym is) ∙ has.own in
    subst (λ (l : List (List ℕ)). (slot < length l) × (string_key (get_or l slot []) ≡ key)) (sym (append-nil ss)) (less, own)

had_at : (pages : List StorePage) (number slot : ℕ) (bytes key : List ℕ) → Each IsPage pages → 3 ≤ number → number < 3 + length pages → bytes ≡ bytes_of_page (page_at pages number) → HasKeyIn bytes slot key
    → HadKeyAt pages (record { page = number; slot = slot }) key
had_at pages number slot bytes key are low within is has =
    let h = had_on (page_at pages number) bytes slot key (each_at IsPage pages (number - 3) (Plain Free) are (omega (arith, low, within))) is has in
    (record { low = low; less = h.0 }, h.1)

-- ---- one edit after the other

pub with_more : (us : List KeyEdit) (u : KeyEdit) (m : EditMap) → with_edits (us ++ u ∷ []) m ≡ insert (with_edits us m) u.0 u.1
with_more [] u m = refl
with_more (v ∷ us) u m = with_more us u (insert m v.0 v.1)

pub with_both : (us vs : List KeyEdit) (m : EditMap) → with_edits (us ++ vs) m ≡ with_edits vs (with_edits us m)
with_both [] vs m = refl
with_both (u ∷ us) vs m = with_both us vs (insert m u.0 u.1)

-- ---- slot by slot

pub slots_none : (page : Option (List ℕ)) (number : ℕ) (ss : List (List ℕ)) (m : EditMap) → AreSlotsNoted page number ss 0 m m
slots_none page number ss m = record { noted = []; is = refl; from = λ u has. absurd (none_in u has); all = λ slot less. absurd (omega (arith, less)) }

module _ (page : Option (List ℕ)) (number slot : ℕ) (ss : List (List ℕ)) (old mid new : EditMap) (before : AreSlotsNoted page number ss slot old mid) where
  one : KeyEdit
  one = slot_edit number ss slot

  -- each of so many is noted, or stood there, and so is the next one
  next_slot : (noted : List KeyEdit) → ((i : ℕ) → i < slot → Contains noted (slot_edit number ss i) ⊎ HadKeyIn page i (string_key (get_or ss i [])))
      → Contains noted (slot_edit number ss slot) ⊎ HadKeyIn page slot (string_key (get_or ss slot []))
      → (i : ℕ) → i < suc slot → Contains noted (slot_edit number ss i) ⊎ HadKeyIn page i (string_key (get_or ss i []))
  next_slot noted each last i less = ⊎_elim
      (λ early. each i early)
      (λ late.
      let same_ : slot ≡ i = omega (arith, less, late) in
      subst (λ (k : ℕ). Contains noted (slot_edit number ss k) ⊎ HadKeyIn page k (string_key (get_or ss k []))) same_ last)
      (cases_lt i slot)

  slot_put : new ≡ insert mid (string_key (get_or ss slot [])) (Some (record { page = number; slot = slot })) → AreSlotsNoted page number ss (suc slot) old new
  slot_put put = record {
    noted = before.noted ++ slot_edit number ss slot ∷ [];
    is = put ∙ ap (λ (m : EditMap). insert m (string_key (get_or ss slot [])) (Some (record { page = number; slot = slot }))) before.is ∙ sym (with_more before.noted (slot_edit number ss slot) old);
    from = λ u has. ⊎_elim
        (λ early. Contains-append_left (slot_edits number ss slot) (slot_edit number ss slot ∷ []) u (before.from u early))
        (λ last. Contains-append_right (slot_edits number ss slot) (slot_edit number ss slot ∷ []) u last)
        (Contains-append_cases before.noted (slot_edit number ss slot ∷ []) u has);
    all = next_slot (before.noted ++ slot_edit number ss slot ∷ [])
        (λ i less. ⊎_elim (λ there. inl (Contains-append_left before.noted (slot_edit number ss slot ∷ []) (slot_edit number ss i) there)) (λ had. inr had) (before.all i less))
        (inl (Contains-append_right before.noted (slot_edit number ss slot ∷ []) (slot_edit number ss slot) (first_in (slot_edit number ss slot) [])));
  }

  slot_left : new ≡ mid → HadKeyIn page slot (string_key (get_or ss slot [])) → AreSlotsNoted page number ss (suc slot) old new
  slot_left is had = record {
    noted = before.noted;
    is = is ∙ before.is;
    from = λ u has. Contains-append_left (slot_edits number ss slot) (slot_edit number ss slot ∷ []) u (before.from u has);
    all = next_slot before.noted before.all (inr had);
  }

  -- one string more
  pub slot_more : (at : EntryAt) → at ≡ record { page = number; slot = slot } → IsNotedUnlessThere page at (string_key (get_or ss at.slot [])) mid new → AreSlotsNoted page number ss (slot + 1) old new
  slot_more at is step =
      let n : suc slot ≡ slot + 1 = omega arith in
      subst (λ (k : ℕ). AreSlotsNoted page number ss k old new) n
      (⊎_elim slot_put (λ p. slot_left p.0 p.1) (subst (λ (x : EntryAt). IsNotedUnlessThere page x (string_key (get_or ss x.slot [])) mid new) is step))

-- ---- page by page

-- a page that was read, or that there was none
pub page_noted : (pages : List StorePage) (number : ℕ) (page : Option (List ℕ)) (ss : List (List ℕ)) (old new : EditMap) → Each IsPage pages → 3 ≤ number
    → ((bytes : List ℕ) → page ≡ Some bytes → (number < 3 + length pages) × (bytes ≡ bytes_of_page (page_at pages number)))
    → AreSlotsNoted page number ss (length ss) old new → IsPageNoted pages number ss old new
page_noted pages number page ss old new are low read n = record { noted = n.noted; is = n.is; from = n.from; all = λ slot less. ⊎_elim (λ there. inl there) (λ had. inr (of page refl slot (string_key (get_or ss slot [])) had)) (n.all slot less) }
  where
    of : (p : Option (List ℕ)) → page ≡ p → (slot : ℕ) (key : List ℕ) → HadKeyIn page slot key → HadKeyAt pages (record { page = number; slot = slot }) key
    of None is slot key had = absurd (subst (λ (o : Option (List ℕ)). HadKeyIn o slot key) is had)
    of (Some bytes) is slot key had =
        let r = read bytes is in
        had_at pages number slot bytes key are low r.0 r.1 (subst (λ (o : Option (List ℕ)). HadKeyIn o slot key) is had)

-- its strings as those of a page in memory
pub sheet_noted : (pages : List StorePage) (number : ℕ) (ss : List (List ℕ)) (kind : Kind) (old new : EditMap) → kind ≡ Slotted ss → IsPageNoted pages number ss old new → IsPageNoted pages number (strings_of (kind ∷ [])) old new
sheet_noted pages number ss kind old new is n =
    subst (λ (k : Kind). IsPageNoted pages number (strings_of (k ∷ [])) old new) (sym is) (subst (λ (l : List (List ℕ)). IsPageNoted pages number l old new) (sym (append-nil ss)) n)

-- a page without strings
pub no_strings : (sheet : Sheet) → ((x : Box Page Global) → sheet ≡ SlottedSheet x → ⊥) → strings_of (sheet_kind sheet ∷ []) ≡ []
no_strings FreeSheet other = refl
no_strings AwaySheet other = refl
no_strings (SlottedSheet page) other = absurd (other page refl)
no_strings (LongSheet next bytes) other = refl

pub none_noted : (pages : List StorePage) (number : ℕ) (ss : List (List ℕ)) (m : EditMap) → ss ≡ [] → IsPageNoted pages number ss m m
none_noted pages number ss m is = record {
  noted = [];
  is = refl;
  from = λ u has. absurd (none_in u has);
  all = λ slot less. let none = ap (λ (l : List (List ℕ)). length l) is in absurd (omega (arith, less, none));
}

pub pages_none : (pages : List StorePage) (kinds : List Kind) (m : EditMap) → ArePagesNoted pages kinds [] m m
pages_none pages kinds m = record { noted = []; is = refl; from = λ u has. has; all = λ e there has. absurd (none_in e.page there) }

-- one page more
pub pages_more : (pages : List StorePage) (kinds : List Kind) (number : ℕ) (later : List ℕ) (kind : Kind) (old mid new : EditMap) → kind ≡ get_or kinds (number - 3) Free
    → IsPageNoted pages number (strings_of (kind ∷ [])) old mid → ArePagesNoted pages kinds later mid new → ArePagesNoted pages kinds (number ∷ later) old new
pages_more pages kinds number later kind old mid new is first rest = record {
  noted = own.noted ++ rest.noted;
  is = rest.is ∙ ap (with_edits rest.noted) own.is ∙ sym (with_both own.noted rest.noted old);
  from = λ u has. ⊎_elim
      (λ early. Contains-append_left (page_edits kinds number) (pages_edits kinds later) u (own.from u early))
      (λ late. Contains-append_right (page_edits kinds number) (pages_edits kinds later) u (rest.from u late))
      (Contains-append_cases own.noted rest.noted u has);
  all = λ e there has. ⊎_elim
      (λ here. here_all e here has)
      (λ more. ⊎_elim (λ listed. inl (Contains-append_right own.noted rest.noted (key_on kinds e, Some e) listed)) (λ had. inr had) (rest.all e more has))
      (in_more number e.page later there);
}
  where
    own : IsPageNoted pages number (strings_on kinds number) old mid
    own = subst (λ (k : Kind). IsPageNoted pages number (strings_of (k ∷ [])) old mid) is first

    here_all : (e : EntryAt) → number ≡ e.page → HasStringOn kinds e → Contains (own.noted ++ rest.noted) (key_on kinds e, Some e) ⊎ HadKeyAt pages e (key_on kinds e)
    here_all e here has =
        let less : e.slot < length (strings_on kinds number) = subst (λ (n : ℕ). e.slot < length (strings_on kinds n)) (sym here) has.less in
        subst (λ (n : ℕ). Contains (own.noted ++ rest.noted) (string_key (get_or (strings_on kinds n) e.slot []), Some (record { page = n; slot = e.slot })) ⊎ HadKeyAt pages (record { page = n; slot = e.slot }) (string_key (get_or (strings_on kinds n) e.slot []))) here
        (⊎_elim (λ listed. inl (Contains-append_left own.noted rest.noted (slot_edit number (strings_on kinds number) e.slot) listed)) (λ had. inr had) (own.all e.slot less))

-- the bytes of a page that was found in a place of the cache
pub found_behind : (pages : List StorePage) (number homes : ℕ) (found : Option ℕ) (cache : List Numbered) → homes ≡ 3 + length pages
    → IfSome found (λ at. (3 ≤ number) × (number < homes) × (at < length cache)) → (number < homes → IsKeptPage found cache (bytes_of_page (page_at pages number)))
    → (bytes : List ℕ) → option_map (bytes_at cache) found ≡ Some bytes → (number < 3 + length pages) × (bytes ≡ bytes_of_page (page_at pages number))
found_behind pages number homes None cache count behind kept bytes is = absurd (cc is)
found_behind pages number homes (Some at) cache count behind kept bytes is =
    let less = behind.1 in
    let one : bytes ≡ bytes_at cache at = cc in
    (omega (arith, less, count), one ∙ kept less)

-- a place that was found is one of the cache
pub within_cache : (found : Option ℕ) (number homes : ℕ) (cache : List Numbered) → IfSome found (λ at. (3 ≤ number) × (number < homes) × (at < length cache)) → IfSome found (λ at. at < length cache)
within_cache None number homes cache behind = tt
within_cache (Some at) number homes cache behind = behind.2
