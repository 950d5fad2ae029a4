use Rattle.std.proofs.Common.{sym, ◌∙◌, ap}
use Rattle.ct_base.specs.laws.Options.{match_none, match_some}
use Rattle.tx_stop.specs.StopKeys.{are_stop_keys}
use Rattle.tx_settings.proofs.PrefsSteps.{no_keys, not_keys}
use Rattle.tx_settings.proofs.reading.read_stop.Goals as goal

pub returns-in_default : goal.returns-in_default
returns-in_default c = no_keys c.args.bytes.now c.args.at (match_none c.in_ok-words.field-0 _ _ c.in_default.is c.in_ok-words.ensures)

pub returns-in_default-read_keys : goal.returns-in_default-read_keys
returns-in_default-read_keys c =
    not_keys c.args.bytes.now c.args.at c.in-Some.words.items c.in-Some.next (match_some c.in_ok-words.field-0 _ _ (c.in-Some.words, c.in-Some.next) c.in-Some.is c.in_ok-words.ensures)
    (ap are_stop_keys (sym c.in_ok-keys.ensures) ∙ sym c.in_default-read_keys.ensures.rules)
