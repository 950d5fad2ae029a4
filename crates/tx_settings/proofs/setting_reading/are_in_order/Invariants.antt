use Rattle.std.proofs.Common.{◌≡◌, ◌≤◌, length}
use Rattle.tx_settings.specs.PrefsBytes.{rise_from}
use Rattle.tx_settings.proofs.setting_reading.are_in_order.Given as goal

abbrev pub invariant-loop-rest : goal.invariant-loop-rest
invariant-loop-rest l = record {
  rises : rise_from l.least l.rest ≡ rise_from 0 l.settings;
  small : l.least ≤ 11;
}

abbrev pub decreases-loop-rest : goal.decreases-loop-rest
decreases-loop-rest l = length l.rest
