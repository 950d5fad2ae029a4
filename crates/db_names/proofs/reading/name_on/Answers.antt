use Rattle.std.proofs.lemmas.Result.{IfOk-weaker}
use Rattle.db_names.proofs.ReadSteps.{named_on}
use Rattle.db_names.proofs.reading.name_on.Goals as goal

pub returns-then-is_on : goal.returns-then-is_on
returns-then-is_on c =
    IfOk-weaker c.owner_in.result _ _
    (λ r is. named_on (record { kind = c.args.kind; target = c.args.target.now }) c.args.rest.now c.args.value.now r is (c.is_on.ensures.0 c.if-is_on.true))
    c.owner_in.ensures
