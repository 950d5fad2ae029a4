use Rattle.std.proofs.Common.{arith}
use Rattle.ct_base.specs.laws.Options.{match_none}
use Rattle.ct_bytes.specs.Varints.{text_bytes}
use Rattle.ct_bytes.specs.laws.Varints.{text_apart}
use Rattle.tx_settings.specs.PrefsBytes.{is_text}
use Rattle.tx_settings.specs.laws.Standing.{no_count, stuck}
use Rattle.tx_settings.proofs.word_reading.read_words.Goals as goal

pub returns-in_default : goal.returns-in_default
returns-in_default c = no_count is_text text_bytes text_apart c.args.bytes.now c.args.at c.in_default.ensures.none

pub returns-in_default-2 : goal.returns-in_default-2
returns-in_default-2 c =
    stuck is_text text_bytes text_apart c.args.bytes.now c.args.at c.in-Some.count c.in-Some.start c.words.place c.words.words.items c.in-Some.ensures.some c.words.invariant.read (omega arith)
    (match_none c.in_ok-word.field-0 _ _ c.in_default-2.is c.in_ok-word.ensures)
