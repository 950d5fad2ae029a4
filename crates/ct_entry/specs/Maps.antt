-- Finite maps from names and from row keys, and what is made of them.
use Rattle.std.specs.Prelude.{ℕ, ◌≡◌, ◌+◌, [], ◌∷◌, map, Option, Some, None, codes, refl}
use Rattle.std.specs.Ordering.{nat_cmp, int_cmp}
use Rattle.std.specs.Cmp.Lexicographic.{slice_cmp}
use Rattle.std.specs.declared.cmp.Ordering.{Ordering}
use Rattle.std.specs.FinMap.{FinMap, get, insert, entries, from_entries, from_sorted, get-from_sorted, get-insert}
use Rattle.std.proofs.Common.{ap, ◌∙◌}
use Rattle.std.proofs.lemmas.Cmp.{nat_list_cmp_total}

-- from names, in the order of their bytes
abbrev pub Names : Type 0 → Type 0
Names X = FinMap (slice_cmp nat_cmp) X

-- from row keys, in the order of the numbers
abbrev pub Rows : Type 0 → Type 0
Rows X = FinMap int_cmp X

abbrev pub altered : {K X : Type 0} {R : K → K → Ordering} → FinMap R X → K → (X → X) → Option X → FinMap R X
altered m k f None = m
altered m k f (Some x) = insert m k (f x)

-- with f of what the key has, if it has anything
abbrev pub alter : {K X : Type 0} {R : K → K → Ordering} → FinMap R X → K → (X → X) → FinMap R X
alter m k f = altered m k f (get m k)

-- with f of each value
abbrev pub each_value : {K X Y : Type 0} {R : K → K → Ordering} → (X → Y) → FinMap R X → FinMap R Y
each_value f m = from_entries (map (λ e. (e.0, f e.1)) (entries m))

-- with f of each key and its value
abbrev pub each_at : {K X Y : Type 0} {R : K → K → Ordering} → (K → X → Y) → FinMap R X → FinMap R Y
each_at f m = from_entries (map (λ e. (e.0, f e.0 e.1)) (entries m))

-- computed examples: a map from a name to a number
abbrev one_name : Names ℕ
one_name = from_sorted ((codes "di", 1) ∷ [])

two_added : get (alter one_name (codes "di") (λ n. n + 2)) (codes "di") ≡ Some 3
two_added =
    ap (λ (o : Option ℕ). get (altered one_name (codes "di") (λ n. n + 2) o) (codes "di")) (get-from_sorted (slice_cmp nat_cmp) ((codes "di", 1) ∷ []) (codes "di") tt)
    ∙ get-insert nat_list_cmp_total one_name (codes "di") 3 (codes "di")

-- what a name has is put as it was altered
put_as_altered : (m : Names ℕ) → altered m (codes "di") (λ n. n + 2) (Some 1) ≡ insert m (codes "di") 3
put_as_altered m = refl

-- a name that isn't there gets nothing
nothing_added : alter one_name (codes "dj") (λ n. n + 2) ≡ one_name
nothing_added = ap (λ (o : Option ℕ). altered one_name (codes "dj") (λ n. n + 2) o) (get-from_sorted (slice_cmp nat_cmp) ((codes "di", 1) ∷ []) (codes "dj") tt)
