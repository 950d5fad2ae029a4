use Rattle.ct_base.specs.laws.Options.{match_none}
use Rattle.ct_bytes.specs.Varints.{text_bytes}
use Rattle.tx_settings.specs.declared.attributes.Setting.{Setting}
use Rattle.tx_settings.specs.PrefsBytes.{always, has_text, is_text, name_bytes, setting_bytes}
use Rattle.tx_settings.specs.laws.Standing.{no_first, no_second}
use Rattle.tx_settings.proofs.SettingSteps.{names_apart, setting_is_both}
use Rattle.tx_settings.proofs.setting_reading.read_setting.Goals as goal

pub returns-in_default : goal.returns-in_default
returns-in_default c = no_first always name_bytes is_text text_bytes has_text setting_bytes (λ (s : Setting). s.attribute) (λ (s : Setting). s.value) setting_is_both c.args.bytes.now c.args.at c.in_default.ensures

pub returns-in_default-2 : goal.returns-in_default-2
returns-in_default-2 c =
    no_second always name_bytes is_text text_bytes has_text setting_bytes (λ (s : Setting). s.attribute) (λ (s : Setting). s.value) setting_is_both names_apart c.args.bytes.now c.args.at c.in-Some.attribute c.in-Some.start c.in-Some.ensures
    (match_none c.in_ok-value.field-0 _ _ c.in_default-2.is c.in_ok-value.ensures)
