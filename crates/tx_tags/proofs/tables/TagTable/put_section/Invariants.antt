use Rattle.std.proofs.Common.{◌≡◌, ◌+◌, ◌++◌, ℕ, List, length}
use Rattle.tx_tags.specs.Tables.{tag_in_table, either_tag, section_tags}
use Rattle.tx_tags.specs.Tags.{GroupTag, tag_named}
use Rattle.tx_tags.proofs.tables.TagTable.put_section.Given as goal

abbrev pub invariant-loop-rest : goal.invariant-loop-rest
invariant-loop-rest l = record {
  count : l.number + length l.rest ≡ l.first + length l.section.tags;
  same : (name : List ℕ) (more : List GroupTag) → either_tag (tag_in_table name l.self.places) (tag_named name l.number (section_tags l.section.name l.rest ++ more)) ≡ either_tag (tag_in_table name l.fn.self.places) (tag_named name l.first (section_tags l.section.name l.section.tags ++ more));
}

abbrev pub decreases-loop-rest : goal.decreases-loop-rest
decreases-loop-rest l = length l.rest
