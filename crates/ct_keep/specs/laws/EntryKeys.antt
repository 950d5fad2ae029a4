-- Entries whose keys fit: of changes, and of a key that has more bytes than any of them.
use Rattle.std.proofs.Common.{◌≡◌, ◌≤◌, ℕ, Bool, true, false, cond, List, [], ◌∷◌, Some, None, length, refl, sym, ap, subst, ◌∙◌, arith}
use Rattle.std.specs.declared.cmp.Ordering.TheVariants.{Less, Equal, Greater}
use Rattle.std.specs.Ordering.{nat_cmp, match_ordering}
use Rattle.std.specs.Cmp.Lexicographic.{slice_cmp}
use Rattle.std.specs.Map.{remove_entry, set_value}
use Rattle.std.specs.BTreeMap.{BTreeMap, IsOrdered, insert_entry, is_at}
use Rattle.ct_keep.specs.declared.entry_keys.EntryKey.{EntryKey}
use Rattle.ct_keep.specs.EntryKeys.{key_bytes, entry_key_order, found_at, AllFit, AreKeyed}
use Rattle.ct_keep.specs.laws.Content.{same, same_keys}

-- a key that has more bytes than there is room for
other_key : (r : ℕ) (q b : List ℕ) → length b ≤ r → (length q ≤ r → ⊥) → same q b ≡ false
other_key r q b fits long = of (same q b) refl
  where
    of : (s : Bool) → same q b ≡ s → same q b ≡ false
    of true is = absurd (long (subst (λ (l : List ℕ). length l ≤ r) (sym (same_keys q b is)) fits))
    of false is = is

module _ {V : Type 0} where
  fits_more : (r s : ℕ) → r ≤ s → (es : List (EntryKey × V)) → AllFit r es → AllFit s es
  fits_more r s le [] all = tt
  fits_more r s le (e ∷ es) all = (omega (arith, all.0, le), fits_more r s le es all.1)

  fits_insert : (r : ℕ) (es : List (EntryKey × V)) (k : EntryKey) (v : V) → length (key_bytes k) ≤ r → AllFit r es → AllFit r (insert_entry entry_key_order es k v)
  fits_insert r [] k v fits all = (fits, tt)
  fits_insert r (e ∷ es) k v fits all =
      elim (entry_key_order k e.0) as (λ o. AllFit r (match_ordering o ((k, v) ∷ e ∷ es) ((e.0, v) ∷ es) (e ∷ insert_entry entry_key_order es k v))) [
        | Less ↦ (fits, all)
        | Equal ↦ all
        | Greater ↦ (all.0, fits_insert r es k v fits all.1)
      ]

  fits_remove : (r : ℕ) (test : EntryKey → Bool) (es : List (EntryKey × V)) → AllFit r es → AllFit r (remove_entry test es)
  fits_remove r test [] all = tt
  fits_remove r test (e ∷ es) all =
      elim (test e.0) as (λ b. AllFit r (cond b es (e ∷ remove_entry test es))) [
        | true ↦ all.1
        | false ↦ (all.0, fits_remove r test es all.1)
      ]

  fits_set_value : (r : ℕ) (test : EntryKey → Bool) (es : List (EntryKey × V)) (v : V) → AllFit r es → AllFit r (set_value test es v)
  fits_set_value r test [] v all = tt
  fits_set_value r test (e ∷ es) v all =
      elim (test e.0) as (λ b. AllFit r (cond b ((e.0, v) ∷ es) (e ∷ set_value test es v))) [
        | true ↦ all
        | false ↦ (all.0, fits_set_value r test es v all.1)
      ]

  -- a map that is keyed so, after each change, and with more room
  pub keyed_none : (m : BTreeMap EntryKey V) (room : ℕ) → IsOrdered entry_key_order m → m.entries ≡ [] → AreKeyed m room
  keyed_none m room ordered none = record { ordered = ordered; fits = subst (λ (l : List (EntryKey × V)). AllFit room l) (sym none) tt }

  module _ (old : BTreeMap EntryKey V) (r s : ℕ) (more : r ≤ s) (was : AreKeyed old r) where
    keyed_as : (m : BTreeMap EntryKey V) (es : List (EntryKey × V)) → IsOrdered entry_key_order m → m.entries ≡ es → AllFit s es → AreKeyed m s
    keyed_as m es ordered is fits = record { ordered = ordered; fits = subst (λ (l : List (EntryKey × V)). AllFit s l) (sym is) fits }

    pub keyed_more : AreKeyed old s
    keyed_more = record { ordered = was.ordered; fits = fits_more r s more old.entries was.fits }

    pub keyed_same : (new : BTreeMap EntryKey V) → IsOrdered entry_key_order new → new.entries ≡ old.entries → AreKeyed new s
    keyed_same new ordered is = keyed_as new old.entries ordered is keyed_more.fits

    pub keyed_insert : (new : BTreeMap EntryKey V) (k : EntryKey) (v : V) → IsOrdered entry_key_order new → new.entries ≡ insert_entry entry_key_order old.entries k v → length (key_bytes k) ≤ s → AreKeyed new s
    keyed_insert new k v ordered is fits = keyed_as new (insert_entry entry_key_order old.entries k v) ordered is (fits_insert s old.entries k v fits keyed_more.fits)

    pub keyed_remove : (new : BTreeMap EntryKey V) (test : EntryKey → Bool) → IsOrdered entry_key_order new → new.entries ≡ remove_entry test old.entries → AreKeyed new s
    keyed_remove new test ordered is = keyed_as new (remove_entry test old.entries) ordered is (fits_remove s test old.entries keyed_more.fits)

    pub keyed_set_value : (new : BTreeMap EntryKey V) (test : EntryKey → Bool) (v : V) → IsOrdered entry_key_order new → new.entries ≡ set_value test old.entries v → AreKeyed new s
    keyed_set_value new test v ordered is = keyed_as new (set_value test old.entries v) ordered is (fits_set_value s test old.entries v keyed_more.fits)

  -- of a key that has more bytes than there is room for
  pub none_long : (r : ℕ) (q : List ℕ) (es : List (EntryKey × V)) → AllFit r es → (length q ≤ r → ⊥) → found_at q es ≡ None
  none_long r q [] all long = refl
  none_long r q (e ∷ es) all long = ap (λ (b : Bool). cond b (Some e.1) (found_at q es)) (other_key r q (key_bytes e.0) all.0 long) ∙ none_long r q es all.1 long

  pub kept_long : (r : ℕ) (q : List ℕ) (es : List (EntryKey × V)) → AllFit r es → (length q ≤ r → ⊥) → es ≡ remove_entry (is_at (λ x. slice_cmp nat_cmp q (key_bytes x))) es
  kept_long r q [] all long = refl
  kept_long r q (e ∷ es) all long =
      let rest = remove_entry (is_at (λ (x : EntryKey). slice_cmp nat_cmp q (key_bytes x))) es in
      ap (λ (l : List (EntryKey × V)). e ∷ l) (kept_long r q es all.1 long) ∙ ap (λ (b : Bool). cond b es (e ∷ rest)) (sym (other_key r q (key_bytes e.0) all.0 long))
