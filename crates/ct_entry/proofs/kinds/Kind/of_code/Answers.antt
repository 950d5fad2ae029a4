use Rattle.std.proofs.Common.{sym, ◌∙◌, arith, subst}
use Rattle.std.specs.List.{All}
use Rattle.std.proofs.lemmas.List.{take_all}
use Rattle.std.proofs.lemmas.List.Elements.{All-more}
use Rattle.ct_entry.proofs.KeySteps.{IsOther, every_kind, other_than_all}
use Rattle.ct_entry.proofs.kinds.Kind.of_code.Goals as goal

pub loop-kind-preserved : goal.loop-kind-preserved
loop-kind-preserved c = All-more (IsOther c.args.code) every_kind c.loop-kind.kind-index _ c.loop-kind-test.true c.loop-kind.invariant (λ e. c.if-code.false (c.code.ensures ∙ sym e))

pub returns : goal.returns
returns c = other_than_all c.args.code (subst (All (IsOther c.args.code)) (take_all c.loop-kind.kind-index every_kind (omega arith)) c.loop-kind.invariant)
