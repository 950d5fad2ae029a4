use Rattle.std.proofs.Common.{rules, refl, subst, ◌∙◌, List, ℕ, length}
use Rattle.std.proofs.lemmas.Result.{IfOk-weaker, on_ok_weaker}
use Rattle.pg_plan.specs.Planned.{IsPut}
use Rattle.pg_batch.specs.BatchPages.{long_pages}
use Rattle.pg_plan.proofs.Stepping.{far_made}
use Rattle.pg_plan.specs.laws.Away.{stays_then}
use Rattle.pg_plan.specs.laws.Needs.{takes_then}
use Rattle.pg_plan.proofs.puts.put_far.Goals as goal

pub returns-clause-put : goal.returns-clause-put
returns-clause-put c = λ m done none.
    let bytes = c.deref.ensures.value ∙ c.in-Ok.ensures in
    let chain = c.in_ok-first.ensures.laid m done in
    IfOk-weaker c.put_string.result _ _
    (λ at put. far_made c.args.draft.now.now c.put_long.new.draft.now c.put_string.new.draft.now m c.args.key.now c.args.value.now _ c.in_ok-first.first at done c.put_long.ensures.keys chain
    (subst (λ (s : List ℕ). IsPut c.put_long.new.draft.now c.put_string.new.draft.now s at) bytes put) refl c.requires.key c.requires.value (search rules) c.requires.long none)
    c.put_string.ensures.put

pub returns-clause-takes : goal.returns-clause-takes
returns-clause-takes c =
    takes_then c.args.draft.now c.put_long.new.draft c.put_string.new.draft (long_pages (length c.args.value.now)) 1 c.put_long.ensures.takes c.put_string.ensures.takes

pub returns-clause-stays : goal.returns-clause-stays
returns-clause-stays c = on_ok_weaker c.put_string.result (λ second. stays_then c.args.draft.now c.put_long.new.draft c.put_string.new.draft c.in_ok-first.ensures.stays second) c.put_string.ensures.stays
