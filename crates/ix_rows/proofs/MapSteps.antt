-- Rows of terms in memory, against the finite map that they are.
use Rattle.std.proofs.Common.{◌≡◌, ℕ, List, Option, Some, None, refl, sym, ap, ◌∙◌}
use Rattle.std.specs.Prelude.{is_some}
use Rattle.std.specs.Option.{option_map}
use Rattle.std.specs.Ordering.{nat_cmp}
use Rattle.std.specs.Cmp.Lexicographic.{slice_cmp}
use Rattle.std.specs.List.Sorted.{IsStrictlySortedBy}
use Rattle.std.specs.Map.{keys_of, lookup, set_value}
use Rattle.std.specs.BTreeMap.{insert_entry, is_at}
use Rattle.std.specs.FinMap.{get, insert, entries}
use Rattle.std.proofs.lemmas.Cmp.{nat_list_cmp_total}
use Rattle.std.proofs.lemmas.Map.Lookups.{exact_bytes}
use Rattle.ct_base.specs.laws.SortedMaps.{entries-seen, seen-insert, lookup-seen, seen-set_value}
use Rattle.ix_rows.specs.Growing.{Growing, nothing_yet}
use Rattle.ix_rows.specs.RowMaps.{TermRowsView, HeldRows, or_nothing, growing_at, row_map_of, seen_terms}

abbrev term_of : List ℕ → List ℕ
term_of t = t

abbrev itself : Growing → Growing
itself g = g

option_itself : (o : Option Growing) → option_map itself o ≡ o
option_itself None = refl
option_itself (Some g) = refl

pub entries-row_map : (es : List HeldRows) → IsStrictlySortedBy (slice_cmp nat_cmp) (keys_of es) → entries (row_map_of es) ≡ seen_terms es
entries-row_map es s = entries-seen (slice_cmp nat_cmp) term_of itself es s

pub get-row_map : (es : List HeldRows) (t : List ℕ) → IsStrictlySortedBy (slice_cmp nat_cmp) (keys_of es) → lookup (is_at (λ x. slice_cmp nat_cmp t x)) es ≡ get (row_map_of es) t
get-row_map es t s = sym (option_itself (lookup (is_at (λ x. slice_cmp nat_cmp t x)) es)) ∙ lookup-seen (slice_cmp nat_cmp) term_of itself es t s

-- what came to a term that has rows makes them grow so
pub rows_there : (old new : List HeldRows) (t : List ℕ) (g h : Growing) (m : TermRowsView) (grow : Growing → Growing)
    → IsStrictlySortedBy (slice_cmp nat_cmp) (keys_of old) → IsStrictlySortedBy (slice_cmp nat_cmp) (keys_of new)
    → row_map_of old ≡ m → lookup (is_at (λ x. slice_cmp nat_cmp t x)) old ≡ Some g → new ≡ set_value (is_at (λ x. slice_cmp nat_cmp t x)) old h → h ≡ grow g → row_map_of new ≡ insert m t (grow (growing_at m t))
rows_there old new t g h m grow s u seen found is grows =
    let there : get (row_map_of old) t ≡ Some g = sym (get-row_map old t s) ∙ found in
    seen-set_value (slice_cmp nat_cmp) term_of itself nat_list_cmp_total exact_bytes old new t h s u (ap (λ (o : Option Growing). is_some o) there) is
    ∙ ap (λ (k : Growing). insert (row_map_of old) t k) (grows ∙ ap (λ (o : Option Growing). grow (or_nothing o)) (sym there))
    ∙ ap (λ (n : TermRowsView). insert n t (grow (growing_at n t))) seen

-- and to one that is new, from nothing
pub rows_new : (old new : List HeldRows) (k t : List ℕ) (h : Growing) (m : TermRowsView) (grow : Growing → Growing)
    → IsStrictlySortedBy (slice_cmp nat_cmp) (keys_of old) → IsStrictlySortedBy (slice_cmp nat_cmp) (keys_of new)
    → row_map_of old ≡ m → lookup (is_at (λ x. slice_cmp nat_cmp t x)) old ≡ None → k ≡ t → new ≡ insert_entry (slice_cmp nat_cmp) old k h → h ≡ grow nothing_yet → row_map_of new ≡ insert m t (grow (growing_at m t))
rows_new old new k t h m grow s u seen found same is begins =
    let none : get (row_map_of old) t ≡ None = sym (get-row_map old t s) ∙ found in
    seen-insert (slice_cmp nat_cmp) term_of itself nat_list_cmp_total old new k h s u is
    ∙ ap (λ (l : List ℕ). insert (row_map_of old) l h) same
    ∙ ap (λ (g : Growing). insert (row_map_of old) t g) (begins ∙ ap (λ (o : Option Growing). grow (or_nothing o)) (sym none))
    ∙ ap (λ (n : TermRowsView). insert n t (grow (growing_at n t))) seen
