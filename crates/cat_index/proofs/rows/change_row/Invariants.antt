use Rattle.std.proofs.Common.{◌≡◌, ◌≤◌, ◌+◌, ◌++◌, length}
use Rattle.ct_base.specs.Limits.{sub_index_limit}
use Rattle.ct_entry.specs.Changes.{spell}
use Rattle.cat_index.specs.Changes.{filing_changes, in_each, words_change}
use Rattle.cat_index.proofs.rows.change_row.Given as goal

abbrev pub invariant-each : goal.invariant-each
invariant-each l = record {
  changes : l.changes ++ spell (in_each (λ sub v. words_change l.index l.row.0 sub l.filing.words l.there v) l.sub l.rest) ≡ spell (filing_changes l.index l.row.0 l.filing l.there);
  few : l.sub + length l.rest ≤ sub_index_limit + 1;
}

abbrev pub decreases-each : goal.decreases-each
decreases-each l = length l.rest
