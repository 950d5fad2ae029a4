-- The rules of a table and of an index keep it within the limits of a search.
use Rattle.std.proofs.Common.{◌≡◌, ℕ, zero, suc, List, Some, arith}
use Rattle.std.specs.FinMap.{get}
use Rattle.std.specs.Str.{IsUtf8}
use Rattle.ct_base.specs.declared.lists.Value.{Value}
use Rattle.ct_base.specs.laws.Options.{and_then_some}
use Rattle.tb_table.specs.Tables.{Table, text_in_column}
use Rattle.tb_table.specs.declared.columns.Column.{Column}
use Rattle.tb_table.specs.Rules.{IsTable, FitColumns, others}
use Rattle.tb_table.specs.laws.Rules.{short_column}
use Rattle.tb_table.specs.laws.Reading.{texts_are_utf8}
use Rattle.ix_kinds.specs.Indextypes.{IndexOf}
use Rattle.ix_context.specs.Indexes.{ContextIndex}
use Rattle.ix_context.specs.Contexts.{IsContext}
use Rattle.ix_context.specs.Limits.{IsWithinLimits}
use Rattle.ix_context.specs.laws.ContextSyncs.{mark_is_row}

-- a text of a column is UTF-8
pub utf8_column : (cs : List Column) (vs : List Value) (column : ℕ) (text : List ℕ) → FitColumns cs vs → text_in_column vs column ≡ Some text → IsUtf8 text
utf8_column cs vs zero text fit is = cc
utf8_column cs vs (suc place) text fit is = texts_are_utf8 cs vs place text fit is

pub within_limits : (t : Table) (x : IndexOf ContextIndex) → IsTable t → IsContext t x → IsWithinLimits t x
within_limits t x is_t is = record {
  rows = mark_is_row t x is_t is;
  numbers = let l = is.numbers in omega (arith, l);
  texts = λ r text seen.
      let row = and_then_some (λ vs. text_in_column vs x.column) (get t.rows r) text seen in
      let l = short_column t.columns row.0 x.column text is_t.columns.each (is_t.rows r row.0 row.1) row.2 in
      omega (arith, l);
  utf8 = λ r text seen. let row = and_then_some (λ vs. text_in_column vs x.column) (get t.rows r) text seen in utf8_column (others t.columns) row.0 x.column text (is_t.rows r row.0 row.1) row.2;
}
