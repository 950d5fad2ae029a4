-- The texts that indexes see are short.
use Rattle.std.proofs.Common.{◌≡◌, ℕ, ℤ, Bool, true, false, cond, List, length, Option, Some, None, leb-true, leb-false, refl, sym, subst, arith}
use Rattle.std.specs.Prelude.{nat_le}
use Rattle.std.specs.Option.{option_and_then}
use Rattle.std.specs.Ordering.{int_cmp}
use Rattle.std.specs.FinMap.{get, get-empty}
use Rattle.ct_base.specs.declared.lists.Value.{Value}
use Rattle.ct_base.specs.laws.Options.{and_then_some}
use Rattle.tb_table.specs.declared.columns.Target.{Target}
use Rattle.tb_table.specs.Tables.{Table, Tables, text_in_column}
use Rattle.tb_table.specs.Rules.{IsTable, AreTables}
use Rattle.tb_table.specs.laws.Rules.{short_column}
use Rattle.ix_kinds.specs.Rows.{table_or_none}
use Rattle.ix_context.specs.Indexes.{texts_in, target_text}
use Rattle.ix_context.specs.Postings.{IsShortOrNone, if_short, indexed_text_limit}

-- the texts of the rows of a table
pub texts_short : (t : Table) → IsTable t → (column : ℕ) (r : ℤ) → IsShortOrNone (texts_in t column r)
texts_short t is column r = go (texts_in t column r) refl
  where
    go : (o : Option (List ℕ)) → texts_in t column r ≡ o → IsShortOrNone o
    go None e = tt
    go (Some text) e =
        let row = and_then_some (λ vs. text_in_column vs column) (get t.rows r) text e in
        let l = short_column t.columns row.0 column text is.columns.each (is.rows r row.0 row.1) row.2 in
        omega (arith, l)

-- and of the table of a name, which is one without rows where there is none
pub target_has_short : (ts : Tables) → AreTables ts → (target : Target) (r : ℤ) → IsShortOrNone (target_text ts target r)
target_has_short ts are target r = go (get ts target.table) refl
  where
    go : (o : Option Table) → get ts target.table ≡ o → IsShortOrNone (texts_in (table_or_none o) target.column r)
    go None is = subst (λ (row : Option (List Value)). IsShortOrNone (option_and_then (λ vs. text_in_column vs target.column) row)) (sym (get-empty int_cmp r)) tt
    go (Some x) is = texts_short x (are.each target.table x is) target.column r

-- ---- short texts

pub short_kept : (o : Option (List ℕ)) → IsShortOrNone o → if_short o ≡ o
short_kept None short = refl
short_kept (Some text) short = go (nat_le (length text) indexed_text_limit) refl
  where
    go : (b : Bool) → nat_le (length text) indexed_text_limit ≡ b → cond b (Some text) None ≡ Some text
    go true h = refl
    go false h = let over = leb-false (length text) indexed_text_limit h in absurd (omega (arith, over))

pub short_is_short : (o : Option (List ℕ)) → IsShortOrNone (if_short o)
short_is_short None = tt
short_is_short (Some text) = go (nat_le (length text) indexed_text_limit) refl
  where
    go : (b : Bool) → nat_le (length text) indexed_text_limit ≡ b → IsShortOrNone (cond b (Some text) None)
    go true h = leb-true _ _ h
    go false h = tt
