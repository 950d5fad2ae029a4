use Rattle.std.proofs.Common.{rules, of_calls}
use Rattle.std.specs.Ordering.{nat_cmp, is_lt}
use Rattle.std.specs.Cmp.Lexicographic.{slice_cmp}
use Rattle.std.proofs.lemmas.Cmp.{nat_list_cmp_total}
use Rattle.std.proofs.lemmas.Fn.{always_returns_same}
use Rattle.std.proofs.lemmas.List.Sorted.{ranks_by}
use Rattle.pg_directory.specs.declared.placing.KeyPlace.{KeyPlace}
use Rattle.pg_directory.proofs.placing.sort_keys.Goals as goal

pub returns-clause-sorted : goal.returns-clause-sorted
returns-clause-sorted c =
    c.sort_unstable_by.ensures.sorted (λ x y. is_lt (slice_cmp nat_cmp x.key.items y.key.items)) (ranks_by nat_list_cmp_total (λ (k : KeyPlace). k.key.items)) (always_returns_same _ _ _ (λ a r f k. search (rules, of_calls)))
