-- The entries of a map in memory above a key, and what its look-ups lend, against the content that they are.
use Rattle.std.proofs.Common.{◌≡◌, ℕ, true, false, cond, List, [], ◌∷◌, Option, Some, None, Vec, refl, sym, ap, ◌∙◌}
use Rattle.std.specs.Prelude.{◌&&◌, filter, is_some}
use Rattle.std.specs.Option.{option_map, option_copied, MatchOption}
use Rattle.std.specs.Borrow.{Bor}
use Rattle.std.specs.declared.alloc.Global.{Global}
use Rattle.std.specs.Ordering.{nat_cmp, is_lt}
use Rattle.std.specs.Cmp.Lexicographic.{slice_cmp}
use Rattle.std.specs.List.Sorted.{IsStrictlySortedBy}
use Rattle.std.specs.Map.{keys_of}
use Rattle.std.specs.BTreeMap.Range.{entries_between}
use Rattle.std.specs.declared.ops.Bound.TheVariants.{Excluded, Unbounded}
use Rattle.ct_keep.specs.Content.{entries_above, first_entry}
use Rattle.ct_keep.specs.declared.entry_keys.EntryKey.{EntryKey}
use Rattle.ct_keep.specs.EntryKeys.{key_bytes, entry_key_order}
use Rattle.ct_keep.specs.Pairs.{pairs, content_of, HeldEntry}
use Rattle.ct_keep.specs.laws.Pairs.{entries-content_of}

-- the entries above a key
pairs-between : (k : EntryKey) (es : List HeldEntry) → pairs (entries_between entry_key_order (Excluded k) Unbounded es) ≡ filter (λ e. is_lt (slice_cmp nat_cmp (key_bytes k) e.0)) (pairs es)
pairs-between k [] = refl
pairs-between k (e ∷ es) =
    elim (is_lt (slice_cmp nat_cmp (key_bytes k) (key_bytes e.0))) as (λ b. pairs (cond (b && true) (e ∷ entries_between entry_key_order (Excluded k) Unbounded es) (entries_between entry_key_order (Excluded k) Unbounded es)) ≡ cond b ((key_bytes e.0, e.1.items) ∷ filter (λ e. is_lt (slice_cmp nat_cmp (key_bytes k) e.0)) (pairs es)) (filter (λ e. is_lt (slice_cmp nat_cmp (key_bytes k) e.0)) (pairs es))) [
      | true ↦ ap (λ (x : List (List ℕ × List ℕ)). (key_bytes e.0, e.1.items) ∷ x) (pairs-between k es)
      | false ↦ pairs-between k es
    ]

pub entries_above-content_of : (k : EntryKey) (es : List HeldEntry) → IsStrictlySortedBy entry_key_order (keys_of es) → pairs (entries_between entry_key_order (Excluded k) Unbounded es) ≡ entries_above (key_bytes k) (content_of es)
entries_above-content_of k es s = pairs-between k es ∙ ap (λ (l : List (List ℕ × List ℕ)). filter (λ e. is_lt (slice_cmp nat_cmp (key_bytes k) e.0)) l) (sym (entries-content_of es s))

-- what a look-up lends, as lists of bytes
pub copied_items : (r : Option (Bor (Vec ℕ Global))) → option_map (λ v. v.now.items) r ≡ option_map (λ v. v.items) (option_copied r)
copied_items None = refl
copied_items (Some v) = refl

pub first_pair : (r : Option (Bor EntryKey × Bor (Vec ℕ Global))) (s t : List HeldEntry) → MatchOption r ((s ≡ []) × (t ≡ [])) (λ x. s ≡ (x.0.now, x.1.now) ∷ t)
    → option_map (λ e. (key_bytes e.0.now, e.1.now.items)) r ≡ first_entry (pairs s)
first_pair None s t h = ap (λ (l : List HeldEntry). first_entry (pairs l)) (sym h.0)
first_pair (Some x) s t h = ap (λ (l : List HeldEntry). first_entry (pairs l)) (sym h)

pub is_some_lent : (r : Option (Bor (Vec ℕ Global))) → is_some (option_map (λ v. v.now.items) r) ≡ is_some r
is_some_lent None = refl
is_some_lent (Some v) = refl
