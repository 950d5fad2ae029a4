use Rattle.std.proofs.Common.{◌≡◌, ◌++◌, true, length}
use Rattle.std.specs.List.{flat_map, list_all}
use Rattle.tx_settings.specs.PrefsBytes.{has_short_tags, listed, section_bytes}
use Rattle.tx_settings.proofs.writing.add_sections.Given as goal

abbrev pub invariant-loop-rest : goal.invariant-loop-rest
invariant-loop-rest l = record {
  bytes : l.out.items ++ flat_map section_bytes l.rest ≡ l.fn.out.items ++ listed section_bytes l.sections;
  short : list_all has_short_tags l.rest ≡ true;
}

abbrev pub decreases-loop-rest : goal.decreases-loop-rest
decreases-loop-rest l = length l.rest
