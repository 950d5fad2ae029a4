use Rattle.std.proofs.Common.{sym, ◌∙◌}
use Rattle.std.proofs.lemmas.Result.{IfOk-weaker}
use Rattle.pg_journal.specs.Pages.{page}
use Rattle.pg_journal.proofs.BatchPages.{root_put_on, root_left}
use Rattle.pg_journal.proofs.batch_reading.root_with.Goals as goal

pub returns-in-Some-clause-is : goal.returns-in-Some-clause-is
returns-in-Some-clause-is g c = λ image end told between. root_put_on end _ (page image) _ between (sym c.root_image.ensures ∙ c.in-Some.is)

pub returns-in-None-clause-is : goal.returns-in-None-clause-is
returns-in-None-clause-is g c = λ image end told between.
    IfOk-weaker c.read.result _ _ (λ bytes is. is ∙ root_left end _ (page image) between (sym c.root_image.ensures ∙ c.in-None.is)) (c.read.ensures.bytes image told)
