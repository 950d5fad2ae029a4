use Rattle.st_cut.proofs.Cutting.{whole_cut, whole_once}
use Rattle.st_cut.proofs.scripts.one_cut.Goals as goal

pub returns-clause-one : goal.returns-clause-one
returns-clause-one c script = whole_cut script

pub returns-clause-only : goal.returns-clause-only
returns-clause-only c script items others = whole_once script items others
