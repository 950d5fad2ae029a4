use Rattle.std.specs.Prelude.{map}
use Rattle.std.proofs.Common.{ℕ, List, ap, ◌∙◌, subst}
use Rattle.pg_directory.specs.Leaves.{leaf_at}
use Rattle.pg_leaves.specs.Relisting.{made_count, written_now}
use Rattle.pg_leaves.specs.declared.parting.LeafNow.{LeafNow}
use Rattle.pg_change.specs.Rebuilding.{PlansOn}
use Rattle.pg_change.proofs.Directories.{leaves_taken}
use Rattle.pg_change.proofs.rebuilding.take_leaves.Goals as goal

pub returns-clause-goes : goal.returns-clause-goes
returns-clause-goes c =
    let count = c.in-Ok.ensures.count ∙ c.count_made.ensures ∙ ap (λ (ls : List LeafNow). made_count ls) c.deref.ensures.value in
    leaves_taken c.args.draft.now c.take_numbers.new.draft c.args.leaves.items c.in-Ok.numbers.items (map leaf_at c.in-Ok-place_leaves.placed.written.items) count
    (c.in-Ok-place_leaves.ensures.written ∙ ap (λ (ns : List ℕ). written_now c.args.leaves.items ns) c.deref-2.ensures.value) c.in-Ok.ensures.goes

pub returns-clause-plan : goal.returns-clause-plan
returns-clause-plan c =
    let is = c.count_made.ensures ∙ ap (λ (ls : List LeafNow). made_count ls) c.deref.ensures.value in
    subst (λ (n : ℕ). PlansOn c.args.draft.now c.take_numbers.new.draft c.take_numbers.new.hints.free n) is c.in-Ok.ensures.plan
