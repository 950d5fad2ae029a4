use Rattle.std.proofs.Common.{◌≡◌, ◌++◌, true, length, map}
use Rattle.std.specs.List.{list_all}
use Rattle.ct_entry.specs.Changes.{spell}
use Rattle.q_tree.specs.Soundness.{is_key}
use Rattle.rule_index.specs.Changes.{filing_change}
use Rattle.rule_index.proofs.filing.file_keys.Given as goal

abbrev pub invariant-loop-rest : goal.invariant-loop-rest
invariant-loop-rest l = record {
  keys : list_all is_key l.rest ≡ true;
  changes : l.changes ++ spell (map (filing_change l.filed l.index l.row.0) l.rest) ≡ l.fn.changes ++ spell (map (filing_change l.filed l.index l.row.0) l.keys);
}

abbrev pub decreases-loop-rest : goal.decreases-loop-rest
decreases-loop-rest l = length l.rest
