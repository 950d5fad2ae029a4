-- A directory names the entries of the map that the pages hold, in order: so what is found through it is what the map has.
use Rattle.std.specs.Prelude.{map}
use Rattle.std.proofs.Common.{◌≡◌, ◌⊎◌, inl, inr, ⊎_elim, ℕ, zero, suc, ◌+◌, ◌-◌, ◌<◌, true, List, [], ◌∷◌, length, get_or, Option, Some, None, refl, sym, ap, subst, ◌∙◌, arith}
use Rattle.std.specs.List.{Contains}
use Rattle.std.proofs.lemmas.List.Elements.{Contains-append_left, Contains-append_right, Contains-push, Contains-push_cases, Contains-append_cases, Contains-get_or, at_from_Contains}
use Rattle.std.proofs.lemmas.Bool.{and_from}
use Rattle.std.proofs.lemmas.Cmp.{nat_list_cmp_total}
use Rattle.std.proofs.lemmas.Map.Lookups.{exact_bytes}
use Rattle.std.specs.Ordering.{nat_cmp, is_lt}
use Rattle.std.specs.Cmp.Lexicographic.{slice_cmp}
use Rattle.std.specs.FinMap.{get, entries, find, from_sorted, get-from_sorted, entries-from_sorted}
use Rattle.ct_base.specs.laws.Bools.{T_from_true}
use Rattle.ct_keep.specs.Content.{Content}
use Rattle.ct_keep.specs.laws.Content.{same_content}
use Rattle.ct_keep.specs.laws.Rising.{Entry, below, is_rising, sorted_from_rises}
use Rattle.ct_keep.specs.laws.FoundKeys.{pair_found, found_pair}
use Rattle.pg_map.specs.Kinds.{Each, Kind, Free, strings_of, StringItem, Short, Far, item_bytes, IsStringItem, key_in_item}
use Rattle.pg_map.specs.Holding.{Placed, StandsFor, IsLayout, bytes_of, entries_of}
use Rattle.pg_map.specs.Loose.{Stand}
use Rattle.pg_map.specs.MapReading.{entry_in, behind_root}
use Rattle.pg_map.specs.PageStrings.{string_key}
use Rattle.pg_map.specs.laws.MapReading.{entry_read, strings-cons}
use Rattle.pg_map.specs.laws.PageStrings.{item_key}
use Rattle.pg_directory.specs.declared.entries.EntryAt.{EntryAt}
use Rattle.pg_directory.specs.Trees.{StorePage, Plain, IsPage, kind_of, string_at, key_at, HasString, IsBelow, Rise, IsDirectory}
use Rattle.pg_directory.specs.Listing.{entry_at, entries_at}
use Rattle.pg_directory.specs.laws.Holding.{kinds_are}

-- ---- elements

pub none_in : {X : Type 0} (x : X) → Contains [] x → ⊥
none_in x has = let at = at_from_Contains [] x has in omega (arith, at.1)

pub in_more : {X : Type 0} (x y : X) (xs : List X) → Contains (x ∷ xs) y → (x ≡ y) ⊎ Contains xs y
in_more x y xs has = ⊎_elim (λ one. ⊎_elim (λ no_. absurd (none_in y no_)) (λ is. inl is) (Contains-push_cases [] x y one)) (λ more. inr more) (Contains-append_cases (x ∷ []) xs y has)

pub first_in : {X : Type 0} (x : X) (xs : List X) → Contains (x ∷ xs) x
first_in x xs = Contains-append_left (x ∷ []) xs x (Contains-push [] x)

pub later_in : {X : Type 0} (x y : X) (xs : List X) → Contains xs y → Contains (x ∷ xs) y
later_in x y xs has = Contains-append_right (x ∷ []) xs y has

pub mapped_in : {X Y : Type 0} (f : X → Y) (xs : List X) (x : X) → Contains xs x → Contains (map f xs) (f x)
mapped_in f [] x has = absurd (none_in x has)
mapped_in f (y ∷ ys) x has = ⊎_elim (λ is. subst (λ z. Contains (map f (y ∷ ys)) (f z)) is (first_in (f y) (map f ys))) (λ more. later_in (f y) (f x) (map f ys) (mapped_in f ys x more)) (in_more y x ys has)

pub each_in : {X : Type 0} (P : X → Type 0) (xs : List X) (x : X) → Each P xs → Contains xs x → P x
each_in P [] x each has = absurd (none_in x has)
each_in P (y ∷ ys) x each has = ⊎_elim (λ is. subst P is each.0) (λ more. each_in P ys x each.1 more) (in_more y x ys has)

-- ---- strings of pages

pub string_in : (pages : List StorePage) (n slot : ℕ) → slot < length (strings_of (kind_of (get_or pages n (Plain Free)) ∷ [])) → Contains (strings_of (map kind_of pages)) (get_or (strings_of (kind_of (get_or pages n (Plain Free)) ∷ [])) slot [])
string_in [] n slot less = absurd (omega (arith, less))
string_in (p ∷ ps) zero slot less =
    let s = get_or (strings_of (kind_of p ∷ [])) slot [] in
    subst (λ (l : List (List ℕ)). Contains l s) (sym (strings-cons (kind_of p) (map kind_of ps)))
    (Contains-append_left (strings_of (kind_of p ∷ [])) (strings_of (map kind_of ps)) s (Contains-get_or (strings_of (kind_of p ∷ [])) slot [] less))
string_in (p ∷ ps) (suc n) slot less =
    let s = get_or (strings_of (kind_of (get_or ps n (Plain Free)) ∷ [])) slot [] in
    subst (λ (l : List (List ℕ)). Contains l s) (sym (strings-cons (kind_of p) (map kind_of ps)))
    (Contains-append_right (strings_of (kind_of p ∷ [])) (strings_of (map kind_of ps)) s (string_in ps n slot less))

-- where a string stands
pub record StandsAt (pages : List StorePage) (s : List ℕ) : Type 0 where
  pub page : ℕ
  pub slot : ℕ
  pub less : slot < length (strings_of (kind_of (get_or pages page (Plain Free)) ∷ []))
  pub is : get_or (strings_of (kind_of (get_or pages page (Plain Free)) ∷ [])) slot [] ≡ s

place_of : (pages : List StorePage) (s : List ℕ) → Contains (strings_of (map kind_of pages)) s → StandsAt pages s
place_of [] s has = absurd (none_in s has)
place_of (p ∷ ps) s has = ⊎_elim
    (λ here. let at = at_from_Contains (strings_of (kind_of p ∷ [])) s here in record { page = 0; slot = at.0; less = at.1; is = at.2 [] })
    (λ more. let r = place_of ps s more in record { page = suc r.page; slot = r.slot; less = r.less; is = r.is })
    (Contains-append_cases (strings_of (kind_of p ∷ [])) (strings_of (map kind_of ps)) s (subst (λ (l : List (List ℕ)). Contains l s) (strings-cons (kind_of p) (map kind_of ps)) has))

-- ---- entries of a layout

-- the entry that a string stands for
pub record IsPlacedAs (ks : List Kind) (ps : List Placed) (s : List ℕ) : Type 0 where
  pub placed : Placed
  pub has : Contains ps placed
  pub good : IsStringItem placed.item
  pub stands : StandsFor ks placed.item placed.entry placed.chain
  pub is : item_bytes placed.item ≡ s

pub placed_as : (ks : List Kind) (ps : List Placed) (s : List ℕ) → Each (λ (p : Placed). IsStringItem p.item) ps → Stand ks ps → Contains (bytes_of ps) s → IsPlacedAs ks ps s
placed_as ks [] s items stand has = absurd (none_in s has)
placed_as ks (p ∷ ps) s items stand has = ⊎_elim
    (λ here. record { placed = p; has = first_in p ps; good = items.0; stands = stand.0; is = here })
    (λ more. let r = placed_as ks ps s items.1 stand.1 more in record { placed = r.placed; has = later_in p r.placed ps r.has; good = r.good; stands = r.stands; is = r.is })
    (in_more (item_bytes p.item) s (bytes_of ps) has)

-- what of an entry is on a list of placed ones
entry_placed : (ps : List Placed) (e : Entry) → Contains (entries_of ps) e → (p : Placed) × Contains ps p × (p.entry ≡ e)
entry_placed [] e has = absurd (none_in e has)
entry_placed (p ∷ ps) e has = ⊎_elim
    (λ here. (p, first_in p ps, here))
    (λ more. let r = entry_placed ps e more in (r.0, later_in p r.0 ps r.1, r.2))
    (in_more p.entry e (entries_of ps) has)

pub key_stands : (ks : List Kind) (item : StringItem) (entry : Entry) (chain : List ℕ) → StandsFor ks item entry chain → key_in_item item ≡ entry.0
key_stands ks (Short key value) entry chain stands = sym (ap (λ (e : Entry). e.0) stands.0)
key_stands ks (Far key count first) entry chain stands = sym stands.0

module _ (pages : List StorePage) (m : Content) (are : Each IsPage pages) (layout : IsLayout (map kind_of pages) m) where
  -- The string at the place is that of an item, which stands for the entry.
  pub record HasItemAt (e : EntryAt) : Type 0 where
    pub item : StringItem
    pub entry : Entry
    pub chain : List ℕ
    pub good : IsStringItem item
    pub stands : StandsFor (map kind_of pages) item entry chain
    pub is : string_at pages e ≡ item_bytes item
    pub read : entry_at pages e ≡ entry

  pub has_item : (e : EntryAt) → HasString pages e → HasItemAt e
  has_item e has =
      let ks = map kind_of pages in
      let there : Contains (bytes_of layout.placed) (string_at pages e) = subst (λ (l : List (List ℕ)). Contains l (string_at pages e)) layout.strings (string_in pages (e.page - 3) e.slot has.less) in
      let p = placed_as ks layout.placed (string_at pages e) layout.items layout.stand there in
      record {
        item = p.placed.item;
        entry = p.placed.entry;
        chain = p.placed.chain;
        good = p.good;
        stands = p.stands;
        is = sym p.is;
        read = ap (entry_in (behind_root ks)) (sym p.is) ∙ entry_read ks p.placed.item p.placed.entry p.placed.chain (kinds_are pages are) p.good p.stands;
      }

  -- An entry of the map stands at the place.
  pub record HasEntryAt (e : EntryAt) : Type 0 where
    pub key : (entry_at pages e).0 ≡ key_at pages e
    pub value : get m (key_at pages e) ≡ Some (entry_at pages e).1

  pub has_entry : (e : EntryAt) → HasString pages e → HasEntryAt e
  has_entry e has =
      let ks = map kind_of pages in
      let there : Contains (bytes_of layout.placed) (string_at pages e) = subst (λ (l : List (List ℕ)). Contains l (string_at pages e)) layout.strings (string_in pages (e.page - 3) e.slot has.less) in
      let p = placed_as ks layout.placed (string_at pages e) layout.items layout.stand there in
      let read : entry_at pages e ≡ p.placed.entry =
      ap (entry_in (behind_root ks)) (sym p.is) ∙ entry_read ks p.placed.item p.placed.entry p.placed.chain (kinds_are pages are) p.good p.stands in
      let key : key_at pages e ≡ p.placed.entry.0 = ap string_key (sym p.is) ∙ item_key p.placed.item p.good ∙ key_stands ks p.placed.item p.placed.entry p.placed.chain p.stands in
      record {
        key = ap (λ (x : Entry). x.0) read ∙ sym key;
        value = ap (get m) key ∙ layout.entries.each p.placed.entry (mapped_in (λ (x : Placed). x.entry) layout.placed p.placed p.has) ∙ ap (λ (x : Entry). Some x.1) (sym read);
      }

  -- Each entry of the map stands somewhere.
  pub record IsSomewhere (key : List ℕ) : Type 0 where
    pub place : EntryAt
    pub has : HasString pages place
    pub is : key_at pages place ≡ key

  pub somewhere : (key value : List ℕ) → get m key ≡ Some value → IsSomewhere key
  somewhere key value got =
      let ks = map kind_of pages in
      let r = entry_placed layout.placed (key, value) (layout.entries.all key value got) in
      let good = each_in (λ (p : Placed). IsStringItem p.item) layout.placed r.0 layout.items r.1 in
      let stands = each_in (λ (p : Placed). StandsFor ks p.item p.entry p.chain) layout.placed r.0 layout.stand r.1 in
      let there : Contains (strings_of ks) (item_bytes r.0.item) = subst (λ (l : List (List ℕ)). Contains l (item_bytes r.0.item)) (sym layout.strings) (mapped_in (λ (x : Placed). item_bytes x.item) layout.placed r.0 r.1) in
      let at = place_of pages (item_bytes r.0.item) there in
      let n : (3 + at.page) - 3 ≡ at.page = omega arith in
      record {
        place = record { page = 3 + at.page; slot = at.slot };
        has = record { low = omega arith; less = subst (λ (k : ℕ). at.slot < length (strings_of (kind_of (get_or pages k (Plain Free)) ∷ []))) (sym n) at.less };
        is =
            ap (λ (k : ℕ). string_key (get_or (strings_of (kind_of (get_or pages k (Plain Free)) ∷ [])) at.slot [])) n
            ∙ ap string_key at.is ∙ item_key r.0.item good ∙ key_stands ks r.0.item r.0.entry r.0.chain stands ∙ ap (λ (x : Entry). x.0) r.2;
      }

  -- ---- in order

  below_all : (k : List ℕ) (es : List EntryAt) → Each (HasString pages) es → Each (λ (f : EntryAt). IsBelow k (key_at pages f)) es → below k (entries_at pages es) ≡ true
  below_all k [] has each = refl
  below_all k (e ∷ es) has each =
      and_from _ _ (ap (λ (x : List ℕ). is_lt (slice_cmp nat_cmp k x)) (has_entry e has.0).key ∙ ap is_lt each.0) (below_all k es has.1 each.1)

  rising : (es : List EntryAt) → Each (HasString pages) es → Rise (key_at pages) es → is_rising (entries_at pages es) ≡ true
  rising [] has rise = refl
  rising (e ∷ es) has rise =
      and_from _ _ (ap (λ (k : List ℕ). below k (entries_at pages es)) (has_entry e has.0).key ∙ below_all (key_at pages e) es has.1 rise.0) (rising es has.1 rise.1)

  -- a place of an entry that is listed
  from_list : (es : List EntryAt) (x : Entry) → Contains (entries_at pages es) x → (e : EntryAt) × Contains es e × (entry_at pages e ≡ x)
  from_list [] x has = absurd (none_in x has)
  from_list (e ∷ es) x has = ⊎_elim
      (λ here. (e, first_in e es, here))
      (λ more. let r = from_list es x more in (r.0, later_in e r.0 es r.1, r.2))
      (in_more (entry_at pages e) x (entries_at pages es) has)

  -- Places of all entries, in order, are those of the entries of the map, in order.
  pub places_list : (es : List EntryAt) → Each (HasString pages) es → Rise (key_at pages) es → ((e : EntryAt) → HasString pages e → Contains es e) → entries m ≡ entries_at pages es
  places_list es strings order all =
      let rises_ = rising es strings order in
      let sorted = T_from_true _ (sorted_from_rises (entries_at pages es) rises_) in
      ap entries (same_content m (from_sorted (entries_at pages es)) (λ q. at_key q rises_ (find (slice_cmp nat_cmp) q (entries_at pages es)) refl (get m q) refl ∙ sym (get-from_sorted (slice_cmp nat_cmp) (entries_at pages es) q sorted)))
      ∙ entries-from_sorted (slice_cmp nat_cmp) (entries_at pages es) sorted
    where
      at_key : (q : List ℕ) → is_rising (entries_at pages es) ≡ true → (o : Option (List ℕ)) → find (slice_cmp nat_cmp) q (entries_at pages es) ≡ o → (g : Option (List ℕ)) → get m q ≡ g → get m q ≡ find (slice_cmp nat_cmp) q (entries_at pages es)
      at_key q rises_ (Some v) found g got =
          let r = from_list es (q, v) (found_pair (slice_cmp nat_cmp) exact_bytes (entries_at pages es) q v found) in
          let h = has_entry r.0 (each_in (HasString pages) es r.0 strings r.1) in
          let key : key_at pages r.0 ≡ q = sym h.key ∙ ap (λ (x : Entry). x.0) r.2 in
          ap (get m) (sym key) ∙ h.value ∙ ap (λ (x : Entry). Some x.1) r.2 ∙ sym found
      at_key q rises_ None found None got = got ∙ sym found
      at_key q rises_ None found (Some v) got =
          let s = somewhere q v got in
          let h = has_entry s.place s.has in
          let there = mapped_in (entry_at pages) es s.place (all s.place s.has) in
          let is : find (slice_cmp nat_cmp) (entry_at pages s.place).0 (entries_at pages es) ≡ Some (entry_at pages s.place).1 = pair_found (slice_cmp nat_cmp) nat_list_cmp_total (entries_at pages es) (entry_at pages s.place) rises_ there in
          let key : (entry_at pages s.place).0 ≡ q = h.key ∙ s.is in
          let wrong : None ≡ Some (entry_at pages s.place).1 = sym found ∙ ap (λ (k : List ℕ). find (slice_cmp nat_cmp) k (entries_at pages es)) (sym key) ∙ is in
          absurd (cc wrong)

  -- The directory names the entries of the map, in order.
  pub directory_lists : (top : ℕ) (es : List EntryAt) → IsDirectory pages top es → entries m ≡ entries_at pages es
  directory_lists top es dir = places_list es dir.strings dir.order dir.all
