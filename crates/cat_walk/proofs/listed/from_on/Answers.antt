use Rattle.std.proofs.Common.{rules, ℕ, Bool, List, ◌∙◌, ap, drop}
use Rattle.std.proofs.lemmas.List.Sorted.{IsPartitionPoint-from_clause}
use Rattle.cat_walk.specs.Places.{comes_before}
use Rattle.cat_walk.proofs.Listing.{point_is, those_before}
use Rattle.cat_walk.proofs.listed.from_on.Goals as goal

pub returns : goal.returns
returns c =
    let ps = c.args.places.now in
    let test : List ℕ → Bool = λ p. comes_before p c.args.place.now in
    let point = IsPartitionPoint-from_clause test ps c.partition_point-before.result c.partition_point-before.ensures.partitioned (those_before ps c.requires c.args.place.now) (λ a r q k. search rules) in
    c.without_first.ensures ∙ ap (λ n. drop n ps) (point_is test ps c.partition_point-before.result c.partition_point-before.ensures.bound point)
