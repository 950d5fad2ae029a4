use Rattle.std.proofs.Common.{sym, subst, ◌∙◌, arith}
use Rattle.ct_entry.specs.Shapes.{AreShaped}
use Rattle.ix_context.specs.Shapes.{HasContextValue}
use Rattle.ix_context.specs.Indexes.{target_text}
use Rattle.ix_context.specs.Places.{place_bytes}
use Rattle.ix_context.proofs.SyncSteps.{settled_added}
use Rattle.ix_context.proofs.syncing.settled_changes.Goals as goal

pub returns-clause-changes : goal.returns-clause-changes
returns-clause-changes g c = λ m ts holds told.
    let behind = c.in-Some.ensures in (
      let is = behind.0 in let fits = behind.1 in omega arith,
      settled_added c.args.index.now c.args.target.now c.args.prefs.now (place_bytes c.args.place.now) (target_text ts c.args.target.now) c.args.first c.in-Some.next c.args.rows.now _ c.settle_rows.new.changes c.put_index.new.batch
          (sym c.is_empty.ensures ∙ c.if-is_empty.false) c.new-changes.ensures (c.in_ok-settle_rows.ensures.changes m ts holds told) c.in_ok-put_index.ensures.ok behind.0,
    )

pub returns-clause-shaped : goal.returns-clause-shaped
returns-clause-shaped g c =
    let none : AreShaped HasContextValue c.new-changes.result = subst (AreShaped HasContextValue) (sym c.new-changes.ensures) tt in
    c.in_ok-put_index.ensures.shaped (c.in_ok-settle_rows.ensures.shaped none)
