use Rattle.std.proofs.Common.{rules, ℕ, Bool, List, ◌∙◌, ap, drop, not}
use Rattle.std.proofs.lemmas.List.Sorted.{IsPartitionPoint-from_clause}
use Rattle.cat_walk.specs.Places.{comes_before}
use Rattle.cat_walk.proofs.Listing.{point_is, those_up_to}
use Rattle.cat_walk.proofs.listed.behind.Goals as goal

pub returns : goal.returns
returns c =
    let ps = c.args.places.now in
    let test : List ℕ → Bool = λ p. not (comes_before c.args.after.now p) in
    let point = IsPartitionPoint-from_clause test ps c.partition_point-up_to.result c.partition_point-up_to.ensures.partitioned (those_up_to ps c.requires c.args.after.now) (λ a r q k. search rules) in
    c.without_first.ensures ∙ ap (λ n. drop n ps) (point_is test ps c.partition_point-up_to.result c.partition_point-up_to.ensures.bound point)
