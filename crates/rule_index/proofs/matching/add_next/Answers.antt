use Rattle.std.proofs.Common.{sym, ◌∙◌}
use Rattle.std.proofs.lemmas.Result.{on_ok_weaker}
use Rattle.rule_index.proofs.FoundSteps.{adds_first, same_next}
use Rattle.rule_index.proofs.matching.add_next.Goals as goal

pub returns-then-begins_with-clause-rows : goal.returns-then-begins_with-clause-rows
returns-then-begins_with-clause-rows g c = λ m holds. same_next c.args.index.now m c.args.key.now c.args.later.now c.args.rows.now (sym c.begins_with.ensures ∙ c.if-begins_with.true)

pub returns-clause-rows : goal.returns-clause-rows
returns-clause-rows g c = λ m holds.
    on_ok_weaker c.add_filed.result (λ adds. adds_first c.args.index.now m c.args.key.now c.args.later.now c.args.rows.now c.add_filed.new.rows adds) (c.add_filed.ensures.rows m holds)
