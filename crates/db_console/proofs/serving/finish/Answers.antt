use Rattle.std.proofs.Common.{sym, ◌∙◌}
use Rattle.db_console.proofs.ViewLaws.{finishes_statement, breaks_last, finishes_rest, breaks_rest}
use Rattle.db_console.proofs.serving.finish.Goals as goal

pub returns-then-is_ending-clause-served : goal.returns-then-is_ending-clause-served
returns-then-is_ending-clause-served g c = finishes_statement _ _ c.args.cutter.now c.statement.result (sym c.is_ending.ensures ∙ c.if-is_ending.true) c.statement.ensures c.answer.result c.answer.ensures.all

pub returns-then-is_ending-clause-broke : goal.returns-then-is_ending-clause-broke
returns-then-is_ending-clause-broke g c = breaks_last _ _ c.args.cutter.now c.statement.result (sym c.is_ending.ensures ∙ c.if-is_ending.true) c.statement.ensures c.answer.result c.answer.ensures.part

pub returns-clause-served : goal.returns-clause-served
returns-clause-served g c = finishes_rest _ _ c.args.cutter.now c.rest.result (sym c.is_ending.ensures ∙ c.if-is_ending.false) c.rest.ensures c.answer_rest.result c.answer_rest.ensures.all

pub returns-clause-broke : goal.returns-clause-broke
returns-clause-broke g c = breaks_rest _ _ c.args.cutter.now c.rest.result (sym c.is_ending.ensures ∙ c.if-is_ending.false) c.rest.ensures c.answer_rest.result c.answer_rest.ensures.part
