use Rattle.std.proofs.Common.{◌≡◌, ◌+◌, ◌≤◌, ◌++◌, length}
use Rattle.ct_base.specs.Limits.{column_limit}
use Rattle.ct_entry.specs.Changes.{spell}
use Rattle.tb_table.specs.Spelling.{text_places_from, text_places, drop_texts}
use Rattle.tb_table.proofs.removals.remove_texts.Given as goal

abbrev pub invariant-columns : goal.invariant-columns
invariant-columns l = record {
  changes : l.batch ++ spell (drop_texts l.table l.key.0 (text_places_from l.place l.left)) ≡ l.fn.batch ++ spell (drop_texts l.table l.key.0 (text_places l.columns));
  few : l.place + length l.left ≤ column_limit;
}

abbrev pub decreases-columns : goal.decreases-columns
decreases-columns l = length l.left
