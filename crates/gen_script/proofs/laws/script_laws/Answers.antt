use Rattle.gen_script.specs.laws.Scripts.{statement_count}
use Rattle.gen_script.proofs.laws.script_laws.Goals as goal

pub returns : goal.returns
returns c = statement_count
