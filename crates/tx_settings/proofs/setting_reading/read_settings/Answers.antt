use Rattle.std.proofs.Common.{sym, ◌∙◌, ap}
use Rattle.ct_base.specs.laws.Options.{match_none, match_some}
use Rattle.tx_settings.specs.PrefsBytes.{rise_from}
use Rattle.tx_settings.proofs.SettingSteps.{no_order, no_settings}
use Rattle.tx_settings.proofs.setting_reading.read_settings.Goals as goal

pub returns-in_default : goal.returns-in_default
returns-in_default c = no_settings c.args.bytes.now c.args.at (match_none c.in_ok-settings.field-0 _ _ c.in_default.is c.in_ok-settings.ensures)

pub returns-else-are_in_order : goal.returns-else-are_in_order
returns-else-are_in_order c =
    no_order c.args.bytes.now c.args.at c.in-Some.settings.items c.in-Some.next (match_some c.in_ok-settings.field-0 _ _ (c.in-Some.settings, c.in-Some.next) c.in-Some.is c.in_ok-settings.ensures)
    (ap (rise_from 0) (sym c.as_slice.ensures.value) ∙ sym c.are_in_order.ensures ∙ c.if-are_in_order.false)
