use Rattle.std.proofs.Common.{◌≡◌, ◌++◌, true, length}
use Rattle.std.specs.List.{flat_map, list_all}
use Rattle.ct_bytes.specs.Varints.{text_bytes}
use Rattle.tx_settings.specs.PrefsBytes.{is_short, listed}
use Rattle.tx_settings.proofs.writing.add_keys.Given as goal

abbrev pub invariant-loop-rest : goal.invariant-loop-rest
invariant-loop-rest l = record {
  bytes : l.out.items ++ flat_map text_bytes l.rest ≡ l.fn.out.items ++ listed text_bytes l.keys;
  short : list_all is_short l.rest ≡ true;
}

abbrev pub decreases-loop-rest : goal.decreases-loop-rest
decreases-loop-rest l = length l.rest
