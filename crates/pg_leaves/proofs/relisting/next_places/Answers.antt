use Rattle.std.specs.Prelude.{IfSome}
use Rattle.std.proofs.Common.{List, Option, ◌≤◌, length, ap, subst, ◌∙◌, arith}
use Rattle.std.proofs.lemmas.List.{length-map}
use Rattle.ct_site.specs.laws.Calls.{same_then}
use Rattle.pg_directory.specs.declared.entries.Child.{Child}
use Rattle.pg_directory.specs.declared.entries.EntryAt.{EntryAt}
use Rattle.pg_leaves.specs.declared.finding.NextLeaf.{NextLeaf}
use Rattle.pg_leaves.specs.Editing.{edits_of}
use Rattle.pg_leaves.proofs.Calls.{holds_still}
use Rattle.pg_leaves.proofs.Steps.{cut, leaf_found, least_strings, least_rise, next_made}
use Rattle.pg_leaves.proofs.relisting.next_places.Goals as goal

pub returns-clause-next : goal.returns-clause-next
returns-clause-next g c = λ top pages es holds are strings rise rising.
    let leaves = c.args.leaves.now in
    let least = c.args.leasts.now in
    let leasts = c.requires.leasts in
    let found = c.in-Ok.ensures.next top pages holds (least_strings pages least leaves es leasts are strings) (least_rise pages least leaves es leasts are rise) in
    let next = leaf_found pages least leaves (edits_of c.args.edits.now) c.in-Ok.found c.in-Some.next leasts found c.in-Some.is in
    let within = subst (λ (o : Option NextLeaf). IfSome o (λ n. (n.at ≤ length c.args.leasts.now) × (1 ≤ n.edits) × (n.edits ≤ length c.args.edits.now))) c.in-Some.is c.in-Ok.ensures.within in
    let many = ap (λ (l : List EntryAt). length l) leasts ∙ length-map leaves (λ (x : Child). x.least) in
    let ends = c.min-end.ensures in
    let k = cut pages leaves es (edits_of c.args.edits.now) c.in-Some.next c.min-end.result rise rising next (omega (arith, ends, within.0, many)) (omega (arith, ends)) (λ less. omega (arith, ends, less)) are in
    let own = c.deref.ensures.value ∙ c.in-Ok-read_leaf.ensures.places top pages k.own (holds_still _ _ _ _ pages c.next_leaf.ensures.same holds) k.here in
    let same = same_then _ _ _ c.next_leaf.ensures.same c.read_leaf.ensures.same in
    next_made pages leaves es c.args.edits.now _ k c.deref.result.now own strings rise (λ s r. c.in-Ok-edit_places.ensures.edited top pages (holds_still _ _ _ _ pages same holds) s r)
