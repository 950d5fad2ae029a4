use Rattle.std.proofs.Common.{arith}
use Rattle.ct_base.specs.laws.Options.{match_none}
use Rattle.tx_settings.specs.PrefsBytes.{has_text, setting_bytes}
use Rattle.tx_settings.specs.laws.Apart.{setting_apart}
use Rattle.tx_settings.specs.laws.Standing.{no_count, stuck}
use Rattle.tx_settings.proofs.setting_reading.read_each.Goals as goal

pub returns-in_default : goal.returns-in_default
returns-in_default c = no_count has_text setting_bytes setting_apart c.args.bytes.now c.args.at c.in_default.ensures.none

pub returns-in_default-2 : goal.returns-in_default-2
returns-in_default-2 c =
    stuck has_text setting_bytes setting_apart c.args.bytes.now c.args.at c.in-Some.count c.in-Some.start c.settings.place c.settings.settings.items c.in-Some.ensures.some c.settings.invariant.read (omega arith)
    (match_none c.in_ok-setting.field-0 _ _ c.in_default-2.is c.in_ok-setting.ensures)
