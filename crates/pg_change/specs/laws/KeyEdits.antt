-- The edits that a batch asks for are those from the pages before it to the pages after it.
use Rattle.std.specs.Prelude.{map, unwrap_or}
use Rattle.std.proofs.Common.{◌≡◌, ◌≢◌, ◌==◌, ◌⊎◌, inl, inr, ⊎_elim, ℕ, ◌≤◌, ◌<◌, Bool, true, false, List, [], ◌∷◌, length, get_or, Option, Some, None, refl, sym, ap, subst, ◌∙◌}
use Rattle.std.specs.List.{Contains}
use Rattle.std.specs.FinMap.{get}
use Rattle.std.specs.Ordering.{nat_cmp}
use Rattle.std.specs.Cmp.Lexicographic.{slice_cmp}
use Rattle.std.proofs.lemmas.Bool.{eq-eqb, eqb-true, false≢true}
use Rattle.std.proofs.lemmas.Map.Lookups.{exact_bytes}
use Rattle.ct_keep.specs.Content.{Content, Change, after}
use Rattle.ct_keep.specs.laws.Content.{same, same_keys, same_itself}
use Rattle.ct_keep.specs.laws.FoundKeys.{found_pair}
use Rattle.pg_map.specs.Holding.{IsLayout}
use Rattle.pg_map.specs.Kinds.{Each, Kind}
use Rattle.pg_map.specs.PageStrings.{string_key}
use Rattle.pg_batch.specs.ByKey.{KeysRise, said_under}
use Rattle.pg_batch.specs.laws.Rising.{get_rising, get_changed}
use Rattle.pg_directory.specs.declared.entries.EntryAt.{EntryAt}
use Rattle.pg_directory.specs.Listing.{entry_at}
use Rattle.pg_directory.specs.Trees.{StorePage, IsPage, kind_of, strings_at, key_at, HasString}
use Rattle.pg_directory.specs.laws.Listing.{none_in, in_more, first_in, later_in, each_in, has_entry, somewhere}
use Rattle.pg_leaves.specs.Editing.{KeyEdit, IsUnedited}
use Rattle.pg_leaves.specs.Relisting.{ListStrings, AreEdited}
use Rattle.pg_change.specs.KeyEdits.{HasStringOn, key_on, strings_on, AreEditsOf, AreStringsNow}
use Rattle.pg_change.specs.laws.OnePlace.{one_place}

-- ---- what is in a list, and what isn't

-- a number is in a list, or isn't
pub is_listed : (n : ℕ) (ns : List ℕ) → Contains ns n ⊎ (Contains ns n → ⊥)
is_listed n [] = inr (λ has. none_in n has)
is_listed n (k ∷ ns) = of (k == n) (eqb-true k n) (λ e is. false≢true (sym e ∙ eq-eqb k n is)) (is_listed n ns)
  where
    of : (b : Bool) → (b ≡ true → k ≡ n) → (b ≡ false → k ≢ n) → Contains ns n ⊎ (Contains ns n → ⊥) → Contains (k ∷ ns) n ⊎ (Contains (k ∷ ns) n → ⊥)
    of true one other rest = inl (subst (Contains (k ∷ ns)) (one refl) (first_in k ns))
    of false one other rest = ⊎_elim (λ more. inl (later_in k n ns more)) (λ none. inr (λ has. ⊎_elim (λ is. other refl is) (λ more. none more) (in_more k n ns has))) rest

-- ---- pages after a batch

slot_there : (xs ys : List (List ℕ)) (slot : ℕ) → xs ≡ ys → slot < length ys → slot < length xs
slot_there xs ys slot is less = subst (λ (l : List (List ℕ)). slot < length l) (sym is) less

key_there : (xs ys : List (List ℕ)) (slot : ℕ) → xs ≡ ys → string_key (get_or xs slot []) ≡ string_key (get_or ys slot [])
key_there xs ys slot is = ap (λ (l : List (List ℕ)). string_key (get_or l slot [])) is

module _ (pages next : List StorePage) (now : List Kind) (numbers : List ℕ) (strings : AreStringsNow pages next now numbers) (e : EntryAt) where
  -- of a page that was touched
  to_next : Contains numbers e.page → HasStringOn now e → HasString next e
  to_next touched has = record { low = has.low; less = slot_there (strings_at next e.page) (strings_on now e.page) e.slot (strings.are e.page touched) has.less }

  from_next : Contains numbers e.page → HasString next e → HasStringOn now e
  from_next touched has = record { low = has.low; less = slot_there (strings_on now e.page) (strings_at next e.page) e.slot (sym (strings.are e.page touched)) has.less }

  key_now : Contains numbers e.page → key_at next e ≡ key_on now e
  key_now touched = key_there (strings_at next e.page) (strings_on now e.page) e.slot (strings.are e.page touched)

  -- and of one that wasn't
  to_stay : (Contains numbers e.page → ⊥) → HasString pages e → HasString next e
  to_stay other has = record { low = has.low; less = slot_there (strings_at next e.page) (strings_at pages e.page) e.slot (strings.stay e.page has.low other) has.less }

  from_stay : (Contains numbers e.page → ⊥) → HasString next e → HasString pages e
  from_stay other has = record { low = has.low; less = slot_there (strings_at pages e.page) (strings_at next e.page) e.slot (sym (strings.stay e.page has.low other)) has.less }

  key_stays : (Contains numbers e.page → ⊥) → 3 ≤ e.page → key_at next e ≡ key_at pages e
  key_stays other low = key_there (strings_at next e.page) (strings_at pages e.page) e.slot (strings.stay e.page low other)

-- ---- the edits

-- an edit has this key
record IsEdited (us : List KeyEdit) (k : List ℕ) : Type 0 where
  what : Option EntryAt
  is : Contains us (k, what)

-- one has it, or none does
edit_of : (us : List KeyEdit) (k : List ℕ) → IsEdited us k ⊎ IsUnedited us k
edit_of [] k = inr (λ u there is. none_in u there)
edit_of (v ∷ us) k = of (same v.0 k) refl (edit_of us k)
  where
    of : (b : Bool) → same v.0 k ≡ b → IsEdited us k ⊎ IsUnedited us k → IsEdited (v ∷ us) k ⊎ IsUnedited (v ∷ us) k
    of true one rest = inl (record { what = v.1; is = subst (λ (x : List ℕ). Contains (v ∷ us) (x, v.1)) (same_keys v.0 k one) (first_in v us) })
    of false two (inl more) = inl (record { what = more.what; is = later_in v (k, more.what) us more.is })
    of false two (inr none) = inr (λ u there is. ⊎_elim
        (λ own. false≢true (sym two ∙ ap (λ (x : List ℕ). same v.0 x) (sym is) ∙ ap (λ (x : KeyEdit). same v.0 x.0) (sym own) ∙ same_itself v.0))
        (λ more. none u more is)
        (in_more v u us there))

-- what changes whose keys rise make of an entry that was there: it is there still, or one of them takes it away
stays_or_goes : (ws : List Change) (m n : Content) (key was : List ℕ) → KeysRise ws → n ≡ after ws m → get m key ≡ Some was → ((v : List ℕ) × (get n key ≡ Some v)) ⊎ Contains ws (key, None)
stays_or_goes ws m n key was rise makes got = of (said_under key ws) refl (ap (λ (x : Content). get x key) makes ∙ get_rising ws m key rise)
  where
    of : (said : Option (Option (List ℕ))) → said_under key ws ≡ said → get n key ≡ unwrap_or (said_under key ws) (get m key) → ((v : List ℕ) × (get n key ≡ Some v)) ⊎ Contains ws (key, None)
    of None is then_ = inl (was, then_ ∙ ap (λ (o : Option (Option (List ℕ))). unwrap_or o (get m key)) is ∙ got)
    of (Some (Some v)) is then_ = inl (v, then_ ∙ ap (λ (o : Option (Option (List ℕ))). unwrap_or o (get m key)) is)
    of (Some None) is then_ = inr (found_pair (slice_cmp nat_cmp) exact_bytes ws key None is)

-- Where the pages before a batch hold a map, and those after it what the batch makes of that, the edits that it asks for are those from the
-- one to the other.
pub are_edited : (pages next : List StorePage) (m n : Content) (ws : List Change) (now : List Kind) (numbers : List ℕ) (es : List EntryAt) (us : List KeyEdit)
    → Each IsPage pages → IsLayout (map kind_of pages) m → Each IsPage next → IsLayout (map kind_of next) n → n ≡ after ws m → KeysRise ws
    → AreStringsNow pages next now numbers → ListStrings pages es → AreEditsOf pages now numbers ws us → AreEdited pages next es us
are_edited pages next m n ws now numbers es us are layout are_next layout_next makes rise strings list edits = record { put = put; from = from; kept = kept }
  where
    put : (k : List ℕ) (e : EntryAt) → Contains us (k, Some e) → HasString next e × (key_at next e ≡ k)
    put k e has = let p = edits.put k e has in (to_next pages next now numbers strings e p.0 p.1, key_now pages next now numbers strings e p.0 ∙ p.2)

    -- An entry that is there has a key that no edit takes away.
    none_gone : (e : EntryAt) → HasString next e → (k : List ℕ) → Contains us (k, None) → k ≡ key_at next e → ⊥
    none_gone e has k there is =
        let gone : get n k ≡ None = ap (λ (x : Content). get x k) makes ∙ get_changed ws m (k, None) rise (edits.none k there) in
        let stands : get n k ≡ Some (entry_at next e).1 = ap (get n) is ∙ (has_entry next n are_next layout_next e has).value in
        let wrong : None ≡ Some (entry_at next e).1 = sym gone ∙ stands in
        absurd (cc wrong)

    -- An entry that stands on a page that wasn't touched has a key that no edit has.
    no_edit : (e : EntryAt) → HasString next e → (Contains numbers e.page → ⊥) → (k : List ℕ) (o : Option EntryAt) → Contains us (k, o) → k ≡ key_at next e → ⊥
    no_edit e has other k (Some f) there is =
        let p = edits.put k f there in
        let q = put k f there in
        let one = one_place next n layout_next f e q.0 has (q.1 ∙ is) in
        other (subst (λ (x : EntryAt). Contains numbers x.page) one p.0)
    no_edit e has other k None there is = none_gone e has k there is

    -- A string that stood where it stands has an edit, or no edit has its key.
    stood : (e : EntryAt) → HasString next e → IsEdited us (key_at next e) ⊎ IsUnedited us (key_at next e) → HasString pages e → key_at next e ≡ key_at pages e
        → Contains us (key_at next e, Some e) ⊎ (HasString pages e × (key_at next e ≡ key_at pages e) × IsUnedited us (key_at pages e))
    stood e has (inr free) was key = inr (was, key, subst (IsUnedited us) key free)
    stood e has (inl edit) was key = of edit.what edit.is
      where
        of : (o : Option EntryAt) → Contains us (key_at next e, o) → Contains us (key_at next e, Some e) ⊎ (HasString pages e × (key_at next e ≡ key_at pages e) × IsUnedited us (key_at pages e))
        of None there = absurd (none_gone e has (key_at next e) there refl)
        of (Some f) there =
            let q = put (key_at next e) f there in
            inl (subst (λ (x : EntryAt). Contains us (key_at next e, Some x)) (one_place next n layout_next f e q.0 has q.1) there)

    from : (e : EntryAt) → HasString next e → Contains us (key_at next e, Some e) ⊎ (HasString pages e × (key_at next e ≡ key_at pages e) × IsUnedited us (key_at pages e))
    from e has = ⊎_elim
        (λ touched.
        let key = key_now pages next now numbers strings e touched in
        ⊎_elim
        (λ there. inl (subst (λ (k : List ℕ). Contains us (k, Some e)) (sym key) there))
        (λ same_. stood e has (edit_of us (key_at next e)) same_.0 (key ∙ sym same_.1))
        (edits.all e touched (from_next pages next now numbers strings e touched has)))
        (λ other.
        let key = key_stays pages next now numbers strings e other has.low in
        inr (from_stay pages next now numbers strings e other has, key, λ u there is. no_edit e has other u.0 u.1 there (is ∙ sym key)))
        (is_listed e.page numbers)

    -- A string whose key no edit has stood where it stands.
    stands : (f : EntryAt) → HasString next f → IsUnedited us (key_at next f) → HasString pages f × (key_at next f ≡ key_at pages f)
    stands f has free = ⊎_elim
        (λ touched.
        let key = key_now pages next now numbers strings f touched in
        ⊎_elim
        (λ there. absurd (free (key_on now f, Some f) there (sym key)))
        (λ same_. (same_.0, key ∙ sym same_.1))
        (edits.all f touched (from_next pages next now numbers strings f touched has)))
        (λ other. (from_stay pages next now numbers strings f other has, key_stays pages next now numbers strings f other has.low))
        (is_listed f.page numbers)

    kept : (e : EntryAt) → Contains es e → IsUnedited us (key_at pages e) → HasString next e × (key_at next e ≡ key_at pages e)
    kept e there free =
        let has = each_in (HasString pages) es e list.strings there in
        ⊎_elim
        (λ stays.
        let f = somewhere next n are_next layout_next (key_at pages e) stays.0 stays.1 in
        let was = stands f.place f.has (subst (IsUnedited us) (sym f.is) free) in
        let one = one_place pages m layout f.place e was.0 has (sym was.1 ∙ f.is) in
        (subst (HasString next) one f.has, ap (key_at next) (sym one) ∙ f.is))
        (λ goes. absurd (edits.gone (key_at pages e) goes free))
        (stays_or_goes ws m n (key_at pages e) (entry_at pages e).1 rise makes (has_entry pages m are layout e has).value)
