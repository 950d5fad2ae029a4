use Rattle.ct_bytes.specs.laws.Varints.{text_apart, text_at_one, text_placed}
use Rattle.ct_bytes.proofs.laws.texts_are_exact.Goals as goal

pub returns-clause-apart : goal.returns-clause-apart
returns-clause-apart c = text_apart

pub returns-clause-one : goal.returns-clause-one
returns-clause-one c = text_at_one

pub returns-clause-read_back : goal.returns-clause-read_back
returns-clause-read_back c = text_placed
