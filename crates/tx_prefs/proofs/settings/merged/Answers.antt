use Rattle.std.proofs.Common.{◌++◌, List, ap, ◌∙◌}
use Rattle.tx_settings.specs.declared.attributes.Setting.{Setting}
use Rattle.tx_prefs.specs.Preferences.{with_setting}
use Rattle.tx_prefs.proofs.settings.merged.Goals as goal

pub loop-next-init : goal.loop-next-init
loop-next-init c =
    ap (λ (l : List Setting). l ++ with_setting c.args.setting c.into_iter-next-iterator.result.rest.items) c.new-more.ensures.items
    ∙ ap (with_setting c.args.setting) c.into_iter-next-iterator.ensures.into_iter_gives.0
