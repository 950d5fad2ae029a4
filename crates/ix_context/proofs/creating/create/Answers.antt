use Rattle.std.proofs.Common.{◌++◌, ap, ◌∙◌}
use Rattle.ct_entry.specs.Shapes.{AreShaped}
use Rattle.ix_context.specs.Shapes.{HasContextValue}
use Rattle.ix_context.specs.laws.Shapes.{shaped_added}
use Rattle.ix_context.proofs.SyncSteps.{none_says, some_says}
use Rattle.ix_context.proofs.creating.create.Goals as goal

pub returns-in_default-clause-many : goal.returns-in_default-clause-many
returns-in_default-clause-many g c = λ m ts holds told many. none_says _ _ _ c.in_default.is (c.in-Ok.ensures.changes m ts holds told)

pub returns-clause-changes : goal.returns-clause-changes
returns-clause-changes g c = λ m ts holds told.
    let says = some_says _ _ _ c.in-Some.changes c.in-Some.is (c.in-Ok.ensures.changes m ts holds told) in
    c.in_ok-append.ensures.ok ∙ ap (λ w. c.args.batch.now ++ w) says.1

pub returns-clause-room : goal.returns-clause-room
returns-clause-room g c = λ m ts holds told. (some_says _ _ _ c.in-Some.changes c.in-Some.is (c.in-Ok.ensures.changes m ts holds told)).0

pub returns-clause-shaped : goal.returns-clause-shaped
returns-clause-shaped g c =
    shaped_added c.args.batch.now c.append.new.self c.in-Some.changes c.in_ok-append.ensures.ok (some_says _ (AreShaped HasContextValue) _ c.in-Some.changes c.in-Some.is c.in-Ok.ensures.shaped)
