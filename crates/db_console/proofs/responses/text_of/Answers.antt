use Rattle.db_console.proofs.Texts.{text_given}
use Rattle.db_console.proofs.responses.text_of.Goals as goal

pub returns : goal.returns
returns c = rw c.ok.ensures.value (text_given _ _ _ c.from_utf8.ensures.cases)
