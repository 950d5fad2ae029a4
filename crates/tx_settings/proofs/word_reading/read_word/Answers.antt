use Rattle.ct_base.specs.laws.Options.{match_none}
use Rattle.tx_settings.proofs.WordSteps.{no_utf8}
use Rattle.tx_settings.proofs.word_reading.read_word.Goals as goal

pub returns-in_default-2 : goal.returns-in_default-2
returns-in_default-2 c = no_utf8 c.args.bytes.now c.args.at c.in-Some.bytes.now c.in-Some.next c.in-Some.ensures.some c.in-Some.ensures.within (match_none c.in_ok-text.field-0 _ _ c.in_default-2.is c.in_ok-text.ensures)
