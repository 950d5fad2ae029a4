use Rattle.std.proofs.Common.{◌≡◌, ◌++◌, true, length}
use Rattle.std.specs.List.{flat_map}
use Rattle.tx_settings.specs.PrefsBytes.{are_short, listed, setting_bytes}
use Rattle.tx_settings.proofs.writing.add_settings.Given as goal

abbrev pub invariant-loop-rest : goal.invariant-loop-rest
invariant-loop-rest l = record {
  bytes : l.out.items ++ flat_map setting_bytes l.rest ≡ l.fn.out.items ++ listed setting_bytes l.settings;
  short : are_short l.rest ≡ true;
}

abbrev pub decreases-loop-rest : goal.decreases-loop-rest
decreases-loop-rest l = length l.rest
