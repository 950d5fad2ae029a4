use Rattle.std.proofs.Common.{◌≡◌, ◌≤◌, ◌+◌, ◌++◌, length}
use Rattle.ct_base.specs.Limits.{sub_index_limit}
use Rattle.ct_entry.specs.Changes.{spell}
use Rattle.cat_index.specs.Changes.{set_changes, set_from}
use Rattle.cat_index.proofs.rows.set_row.Given as goal

abbrev pub invariant-each : goal.invariant-each
invariant-each l = record {
  changes : l.changes ++ spell (set_from l.index l.row.0 l.sub l.old.words l.new.words l.before l.after) ≡ spell (set_changes l.index l.row.0 l.old l.new);
  few : l.sub + length l.before ≤ sub_index_limit + 1;
}

abbrev pub decreases-each : goal.decreases-each
decreases-each l = length l.before
