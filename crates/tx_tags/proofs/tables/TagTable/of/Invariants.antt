use Rattle.std.proofs.Common.{◌≡◌, ◌+◌, ℕ, List, length}
use Rattle.tx_tags.specs.Groups.{tag_names}
use Rattle.tx_tags.specs.Tables.{tag_in_table, either_tag}
use Rattle.tx_tags.specs.Tags.{group_tags, tag_named}
use Rattle.tx_tags.proofs.tables.TagTable.of.Given as goal

abbrev pub invariant-loop-rest : goal.invariant-loop-rest
invariant-loop-rest l = record {
  count : l.number + length (tag_names l.rest) ≡ length (tag_names l.sections);
  same : (name : List ℕ) → either_tag (tag_in_table name l.table.places) (tag_named name l.number (group_tags l.rest)) ≡ tag_named name 0 (group_tags l.sections);
}

abbrev pub decreases-loop-rest : goal.decreases-loop-rest
decreases-loop-rest l = length l.rest
