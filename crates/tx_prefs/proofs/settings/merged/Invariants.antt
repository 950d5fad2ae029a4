use Rattle.std.proofs.Common.{◌≡◌, ◌++◌}
use Rattle.tx_prefs.specs.Preferences.{with_setting, with_waiting}
use Rattle.tx_prefs.proofs.settings.merged.Given as goal

abbrev pub invariant-loop-next : goal.invariant-loop-next
invariant-loop-next l = l.more.items ++ with_waiting l.waiting l.next-iterator.rest.items ≡ with_setting l.fn.setting l.fn.settings.items
