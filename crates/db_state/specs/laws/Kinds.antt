-- Which kinds of entries are of tables, of indexes, and of the rows of documents: no kind is of two of these.
use Rattle.std.specs.Prelude.{◌≡◌, true, false, refl}
use Rattle.ct_entry.specs.declared.kinds.Kind.{Kind}
use Rattle.ct_entry.specs.declared.kinds.Kind.TheVariants as kind
use Rattle.tb_table.specs.laws.Changes.{is_of_tables}
use Rattle.ix_indexes.specs.laws.Noting.{is_noted}
use Rattle.ix_kinds.specs.Standing.{is_of_indexes}
use Rattle.ix_context.specs.Spelling.{is_of_context}
use Rattle.db_state.specs.States.{is_of_rows}

pub tables_no_indexes : (k : Kind) → is_of_tables k ≡ true → is_of_indexes k ≡ false
tables_no_indexes kind.Tables h = refl
tables_no_indexes kind.RowNumbers h = refl
tables_no_indexes kind.RowTexts h = refl
tables_no_indexes k h = cc

pub tables_no_context : (k : Kind) → is_of_tables k ≡ true → is_of_context k ≡ false
tables_no_context kind.Tables h = refl
tables_no_context kind.RowNumbers h = refl
tables_no_context kind.RowTexts h = refl
tables_no_context k h = cc

-- ---- what a change of a row puts for the indexes

pub tables_no_noted : (k : Kind) → is_of_tables k ≡ true → is_noted k ≡ false
tables_no_noted kind.Tables h = refl
tables_no_noted kind.RowNumbers h = refl
tables_no_noted kind.RowTexts h = refl
tables_no_noted k h = cc

pub noted_rows : (k : Kind) → is_of_rows k ≡ true → is_noted k ≡ false
noted_rows kind.Postings h = refl
noted_rows kind.Spans h = refl
noted_rows k h = cc
