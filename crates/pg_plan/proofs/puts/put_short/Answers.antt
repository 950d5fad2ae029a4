use Rattle.std.proofs.Common.{subst, ◌∙◌, List, ℕ}
use Rattle.std.proofs.lemmas.Result.{IfOk-weaker}
use Rattle.pg_plan.specs.Planned.{IsPut}
use Rattle.pg_plan.proofs.Stepping.{short_made}
use Rattle.pg_plan.proofs.puts.put_short.Goals as goal

pub returns-clause-put : goal.returns-clause-put
returns-clause-put c = λ m done none.
    let bytes = c.deref.ensures.value ∙ c.in-Ok.ensures in
    IfOk-weaker c.put_string.result _ _
    (λ at put. short_made c.args.draft.now.now c.put_string.new.draft.now m c.args.key.now c.args.value.now at done (subst (λ (s : List ℕ). IsPut c.args.draft.now.now c.put_string.new.draft.now s at) bytes put) c.requires.short none)
    c.put_string.ensures.put
