use Rattle.std.proofs.Common.{Some, sym, subst, ◌∙◌}
use Rattle.std.proofs.lemmas.Bool.{false≢true}
use Rattle.db_names.specs.Heads.{SpellsHead}
use Rattle.db_names.proofs.ReadSteps.{pair_unnamed, pair_elsewhere}
use Rattle.db_names.proofs.reading.pair_of.Goals as goal

pub returns-in_default : goal.returns-in_default
returns-in_default c = pair_unnamed c.args.table.now c.args.rest.now c.args.value.now (sym c.in_ok-index.ensures ∙ c.in_default.is)

pub returns-else-is_same : goal.returns-else-is_same
returns-else-is_same c =
    pair_elsewhere c.args.table.now c.args.rest.now c.args.value.now c.in-Some-2.head
    (subst (SpellsHead (Some c.args.value.now)) c.in-Some-2.is c.in_ok-head.ensures)
    (λ same. false≢true (sym c.if-is_same.false ∙ c.is_same.ensures.1 same))
