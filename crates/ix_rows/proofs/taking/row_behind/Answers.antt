use Rattle.std.proofs.Common.{subst, sym, arith}
use Rattle.ix_posting.specs.Rows.{DocumentsRise}
use Rattle.ix_rows.proofs.BehindSteps.{last_behind, rises_behind, not_behind}
use Rattle.ix_rows.proofs.taking.row_behind.Goals as goal

pub returns-in_default : goal.returns-in_default
returns-in_default g c = λ row is spelt rise. c.in_default.ensures.none row is spelt

pub returns-then-first-before : goal.returns-then-first-before
returns-then-first-before g c = λ row is spelt rise.
    not_behind g.P.Place.form c.args.before c.first-first.result c.in-Some.row c.first-first.ensures c.if-first-before.true (subst (DocumentsRise g.P.Place.form c.args.before) (sym (c.in-Some.ensures.one row is spelt)) rise)

pub returns : goal.returns
returns g c = (
  rises_behind g.P.Place.form c.args.before c.first-first.result c.in-Some.row c.first-first.ensures (omega (arith, c.if-first-before.false)) c.in-Some.ensures.row.0.rise,
  last_behind c.args.before c.first-first.result c.last-last.result c.in-Some.row c.first-first.ensures c.last-last.ensures.value,
  c.in-Some.ensures.one,
)
