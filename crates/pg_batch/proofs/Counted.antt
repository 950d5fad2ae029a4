-- The counts by owner, change by change.
use Rattle.std.specs.Prelude.{map, min}
use Rattle.std.proofs.Common.{◌≡◌, ℕ, zero, suc, ◌+◌, ◌-◌, ◌≤◌, ◌<◌, List, [], ◌∷◌, length, take, get_or, Option, refl, ap, ◌∙◌, arith}
use Rattle.ct_keep.specs.Content.{Change}
use Rattle.ct_keep.specs.Counting.{PrefixCounts, prefix_count}
use Rattle.ct_keep.specs.SeenChanges.{change_of}
use Rattle.ct_keep.specs.declared.batches.Change.{Change as OwnChange}
use Rattle.pg_directory.specs.declared.entries.EntryAt.{EntryAt}
use Rattle.pg_batch.specs.Counts.{counted_over}

-- what the first so many changes count
abbrev pub first_counted : (Change → Option EntryAt → ℕ) → ℕ → List OwnChange → List (Option EntryAt) → ℕ
first_counted count i ws os = counted_over count (map change_of (take i ws)) (take i os)

next_counted : (count : Change → Option EntryAt → ℕ) (ws : List OwnChange) (os : List (Option EntryAt)) (i : ℕ) (d : OwnChange) (e : Option EntryAt) → i < length ws → i < length os
    → first_counted count (suc i) ws os ≡ first_counted count i ws os + count (change_of (get_or ws i d)) (get_or os i e)
next_counted count [] os i d e less less_too = absurd (omega (arith, less))
next_counted count (w ∷ ws) [] i d e less less_too = absurd (omega (arith, less_too))
next_counted count (w ∷ ws) (o ∷ os) zero d e less less_too = omega arith
next_counted count (w ∷ ws) (o ∷ os) (suc i) d e less less_too =
    let rest = next_counted count ws os i d e (omega (arith, less)) (omega (arith, less_too)) in
    omega (arith, rest)

-- one more
pub more_counted : (count : Change → Option EntryAt → ℕ) (ws : List OwnChange) (os : List (Option EntryAt)) (i : ℕ) (w : OwnChange) (e : Option EntryAt)
    → i < length ws → i < length os → w ≡ get_or ws i w
    → first_counted count (i + 1) ws os ≡ first_counted count i ws os + counted_over count (change_of w ∷ []) (get_or os i e ∷ [])
more_counted count ws os i w e less less_too is =
    let n : suc i ≡ i + 1 = omega arith in
    let all = ap (λ (k : ℕ). first_counted count k ws os) n in
    let one = next_counted count ws os i w e less less_too in
    let own = ap (λ (v : OwnChange). count (change_of v) (get_or os i e)) is in
    omega (arith, all, one, own)

-- all of them
all_counted : (count : Change → Option EntryAt → ℕ) (ws : List OwnChange) (os : List (Option EntryAt)) (i : ℕ) → min (length ws) (length os) ≤ i
    → first_counted count i ws os ≡ counted_over count (map change_of ws) os
all_counted count [] os zero all = refl
all_counted count [] os (suc i) all = refl
all_counted count (w ∷ ws) [] zero all = refl
all_counted count (w ∷ ws) [] (suc i) all = refl
all_counted count (w ∷ ws) (o ∷ os) zero all = absurd (omega (arith, all))
all_counted count (w ∷ ws) (o ∷ os) (suc i) all = ap (λ (n : ℕ). count (change_of w) o + n) (all_counted count ws os i (omega (arith, all)))

-- after one more, where it counts away
pub one_out : (count : Change → Option EntryAt → ℕ) (p : List ℕ) (ws : List OwnChange) (os : List (Option EntryAt)) (i : ℕ) (w : OwnChange) (e : Option EntryAt) (old mid new : PrefixCounts) → i < min (length ws) (length os) → w ≡ get_or ws i w
    → prefix_count p mid ≡ prefix_count p old - first_counted count i ws os
    → prefix_count p new ≡ prefix_count p mid - counted_over count (change_of w ∷ []) (get_or os i e ∷ []) → prefix_count p new ≡ prefix_count p old - first_counted count (i + 1) ws os
one_out count p ws os i w e old mid new less is before step = let more = more_counted count ws os i w e (omega (arith, less)) (omega (arith, less)) is in omega (arith, more, before, step)

-- at the end of the changes all of them count
pub all_in : (count : Change → Option EntryAt → ℕ) (p : List ℕ) (ws : List OwnChange) (os : List (Option EntryAt)) (i : ℕ) (old now : PrefixCounts) → min (length ws) (length os) ≤ i
    → prefix_count p now ≡ prefix_count p old + first_counted count i ws os → prefix_count p now ≡ prefix_count p old + counted_over count (map change_of ws) os
all_in count p ws os i old now all is = is ∙ ap (λ (n : ℕ). prefix_count p old + n) (all_counted count ws os i all)

pub all_out : (count : Change → Option EntryAt → ℕ) (p : List ℕ) (ws : List OwnChange) (os : List (Option EntryAt)) (i : ℕ) (old now : PrefixCounts) → min (length ws) (length os) ≤ i
    → prefix_count p now ≡ prefix_count p old - first_counted count i ws os → prefix_count p now ≡ prefix_count p old - counted_over count (map change_of ws) os
all_out count p ws os i old now all is = is ∙ ap (λ (n : ℕ). prefix_count p old - n) (all_counted count ws os i all)
