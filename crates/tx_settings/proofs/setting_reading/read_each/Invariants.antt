use Rattle.std.proofs.Common.{◌≤◌, ◌-◌, length}
use Rattle.tx_settings.specs.PrefsBytes.{has_text, setting_bytes}
use Rattle.tx_settings.specs.laws.Standing.{AreRead}
use Rattle.tx_settings.proofs.setting_reading.read_each.Given as goal

abbrev pub invariant-settings : goal.invariant-settings
invariant-settings l = record {
  read : AreRead has_text setting_bytes l.bytes l.start l.place l.settings.items;
  few : length l.settings.items ≤ l.count;
}

abbrev pub decreases-settings : goal.decreases-settings
decreases-settings l = l.count - length l.settings.items
