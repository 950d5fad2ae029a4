use Rattle.db_console.proofs.TableLaws.{completes_by, tells_past}
use Rattle.db_console.proofs.running.serve.Goals as goal

pub returns-clause-past : goal.returns-clause-past
returns-clause-past g c = rw c.status.ensures (tells_past c.serve_script.result _ _ _ _ c.serve_script.ensures.outcome)

pub returns-clause-complete : goal.returns-clause-complete
returns-clause-complete g c = rw c.status.ensures (completes_by c.serve_script.result _ _ _ _ c.serve_script.ensures.outcome)
