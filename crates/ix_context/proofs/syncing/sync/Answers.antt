use Rattle.std.proofs.Common.{◌++◌, [], sym, ap, ◌∙◌, append-nil}
use Rattle.std.proofs.lemmas.Option.{same_Some}
use Rattle.ct_entry.specs.Shapes.{AreShaped}
use Rattle.ix_context.specs.Shapes.{HasContextValue}
use Rattle.ix_context.specs.laws.Shapes.{shaped_added}
use Rattle.ix_context.proofs.SyncSteps.{none_says, some_says}
use Rattle.ix_context.proofs.syncing.sync.Goals as goal

pub returns-in_default-clause-many : goal.returns-in_default-clause-many
returns-in_default-clause-many g c = λ m ts x holds told many. none_says _ _ _ c.in_default.is (c.in-Ok.ensures.changes m ts x holds told)

pub returns-clause-changes : goal.returns-clause-changes
returns-clause-changes g c = λ m ts x holds told.
    let says = some_says _ _ _ c.in-Some.changes c.in-Some.is (c.in-Ok.ensures.changes m ts x holds told) in
    c.in_ok-append.ensures.ok ∙ ap (λ w. c.args.batch.now ++ w) says.1

pub returns-clause-room : goal.returns-clause-room
returns-clause-room g c = λ m ts x holds told. (some_says _ _ _ c.in-Some.changes c.in-Some.is (c.in-Ok.ensures.changes m ts x holds told)).0

pub returns-clause-shaped : goal.returns-clause-shaped
returns-clause-shaped g c =
    shaped_added c.args.batch.now c.append.new.self c.in-Some.changes c.in_ok-append.ensures.ok (some_says _ (AreShaped HasContextValue) _ c.in-Some.changes c.in-Some.is c.in-Ok.ensures.shaped)

pub returns-clause-no_entry : goal.returns-clause-no_entry
returns-clause-no_entry g c = λ m holds none.
    let empty = same_Some c.in-Some.changes [] (sym c.in-Some.is ∙ c.in-Ok.ensures.no_entry m holds none) in
    c.in_ok-append.ensures.ok ∙ ap (λ w. c.args.batch.now ++ w) empty ∙ append-nil c.args.batch.now
