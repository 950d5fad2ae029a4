use Rattle.std.proofs.Common.{◌≤◌, ◌-◌, length}
use Rattle.tx_settings.specs.PrefsBytes.{is_section, section_bytes}
use Rattle.tx_settings.specs.laws.Standing.{AreRead}
use Rattle.tx_settings.proofs.group_reading.read_sections.Given as goal

abbrev pub invariant-sections : goal.invariant-sections
invariant-sections l = record {
  read : AreRead is_section section_bytes l.bytes l.start l.place l.sections.items;
  few : length l.sections.items ≤ l.count;
}

abbrev pub decreases-sections : goal.decreases-sections
decreases-sections l = l.count - length l.sections.items
