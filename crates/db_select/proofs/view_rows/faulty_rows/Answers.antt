use Rattle.std.proofs.Common.{◌∙◌}
use Rattle.rule_index.specs.Listed.{listed_errors}
use Rattle.db_select.proofs.ViewSteps.{faults_shown}
use Rattle.db_select.proofs.view_rows.faulty_rows.Goals as goal

pub returns-clause-rows : goal.returns-clause-rows
returns-clause-rows g c = λ m k holds stands.
    c.in_ok-rows.ensures ∙ faults_shown m k stands c.args.index.now (listed_errors c.in_ok-errors.errors.items) (c.in_ok-errors.ensures.listed k holds)
