-- Whether rows meet conditions, as they are read.
use Rattle.std.proofs.Common.{◌≡◌, ◌<◌, ◌≤◌, ◌+◌, ℕ, ℤ, Bool, true, false, List, [], ◌∷◌, length, get_or, drop, Some, refl, sym, ap, ◌∙◌, add-one}
use Rattle.std.specs.Prelude.{◌&&◌}
use Rattle.std.specs.List.{list_all}
use Rattle.std.specs.FinMap.{get}
use Rattle.std.proofs.Math.Seq.{drop-cons}
use Rattle.std.proofs.lemmas.List.{drop_all}
use Rattle.std.proofs.lemmas.List.Folds.{list_all_at}
use Rattle.std.proofs.lemmas.Bool.{true_from_ne_false, both_ways}
use Rattle.ct_base.specs.declared.lists.Value.TheVariants.{Number as NumberValue}
use Rattle.db_cond.specs.Conditions.{holds}
use Rattle.db_rows.specs.declared.sources.Source.{Source}
use Rattle.db_rows.specs.declared.sources.Source.TheVariants.{Key, Number, Text, Nothing}
use Rattle.ct_base.specs.declared.lists.Value.{Value}
use Rattle.st_parse.specs.declared.statements.Cond.{Cond}
use Rattle.tb_table.specs.declared.columns.Column.{Column}
use Rattle.tb_table.specs.Tables.{Table, Tables}
use Rattle.tb_table.specs.Rules.{IsTable, AreTables}
use Rattle.db_rows.specs.Values.{value_of_column, values_behind_key, row_values}
use Rattle.db_rows.specs.Sources.{source_of, source_value, is_key_source}
use Rattle.db_rows.specs.Checking.{cond_column}
use Rattle.db_rows.specs.Meeting.{holds_of, key_meets}
use Rattle.db_rows.specs.Bounds.{meets_by}
use Rattle.db_rows.specs.Reading.{IsReadOf}
use Rattle.db_rows.specs.laws.Sources.{value_from, values_there}
use Rattle.db_rows.specs.declared.reading.RowRead.{RowRead}

-- whether one condition is met, by where the value comes from
abbrev pub met_by : List Column → ℤ → List Value → Cond → Bool
met_by columns r vs cond = holds_of cond (source_value r vs (source_of (cond_column cond) columns))

all_same : {X : Type 0} (p q : X → Bool) → ((x : X) → p x ≡ q x) → (xs : List X) → list_all p xs ≡ list_all q xs
all_same p q same [] = refl
all_same p q same (x ∷ xs) = ap (λ (b : Bool). b && list_all p xs) (same x) ∙ ap (λ (b : Bool). q x && b) (all_same p q same xs)

-- the values that are read are those of the columns
pub meets_read : (x : Table) → IsTable x → (conds : List Cond) (r : ℤ) → key_meets x conds r ≡ meets_by x.columns conds r (values_behind_key (get x.rows r))
meets_read x is conds r =
    let vs : List Value = values_behind_key (get x.rows r) in
    all_same (λ cond. holds_of cond (value_of_column x.columns r vs (cond_column cond))) (met_by x.columns r vs) (λ cond. ap (holds_of cond) (value_from x is r (cond_column cond))) conds

-- what was read so far, and that the first `i` conditions hold
pub record AreMet (columns : List Column) (conds : List Cond) (r : ℤ) (vs : List Value) (i : ℕ) (read : RowRead) : Type 0 where
  pub own : IsReadOf vs read
  pub rest : meets_by columns (drop i conds) r vs ≡ meets_by columns conds r vs

module _ (columns : List Column) (conds : List Cond) (r : ℤ) (vs : List Value) where
  pub none_met : (read : RowRead) → IsReadOf vs read → AreMet columns conds r vs 0 read
  none_met read is = record { own = is; rest = refl }

  -- the next condition is the first of the rest
  head : (i : ℕ) (d : Cond) → i < length conds → meets_by columns (drop i conds) r vs ≡ (met_by columns r vs (get_or conds i d) && meets_by columns (drop (i + 1) conds) r vs)
  head i d within = ap (list_all (met_by columns r vs)) (drop-cons conds i d within) ∙ ap (λ (j : ℕ). met_by columns r vs (get_or conds i d) && meets_by columns (drop j conds) r vs) (sym (add-one i))

  pub one_met : (i : ℕ) (old new : RowRead) (d : Cond) (b : Bool) → AreMet columns conds r vs i old → i < length conds → d ≡ get_or conds i d
      → b ≡ met_by columns r vs d → b ≡ true → IsReadOf vs new → AreMet columns conds r vs (i + 1) new
  one_met i old new d b met within at here holds is = record {
    own = is;
    rest = ap (λ (b : Bool). b && meets_by columns (drop (i + 1) conds) r vs) (sym holds ∙ here ∙ ap (met_by columns r vs) at) ∙ sym (head i d within) ∙ met.rest;
  }

  pub not_met : (i : ℕ) (read : RowRead) (d : Cond) (b : Bool) → AreMet columns conds r vs i read → i < length conds → d ≡ get_or conds i d
      → b ≡ met_by columns r vs d → b ≡ false → false ≡ meets_by columns conds r vs
  not_met i read d b met within at here fails = ap (λ (b : Bool). b && meets_by columns (drop (i + 1) conds) r vs) (sym fails ∙ here ∙ ap (met_by columns r vs) at) ∙ sym (head i d within) ∙ met.rest

  pub all_met : (i : ℕ) (read : RowRead) → AreMet columns conds r vs i read → length conds ≤ i → true ≡ meets_by columns conds r vs
  all_met i read met past = ap (list_all (met_by columns r vs)) (sym (drop_all i conds past)) ∙ met.rest

-- the same of the row of a table
pub met_there : (ts : Tables) (t : List ℕ) (x : Table) → AreTables ts → get ts t ≡ Some x → (columns : List Column) → x.columns ≡ columns
    → (conds : List Cond) (r : ℤ) → meets_by columns conds r (row_values ts t r) ≡ key_meets x conds r
met_there ts t x are here columns same conds r =
    ap (λ (cs : List Column). meets_by cs conds r (row_values ts t r)) (sym same)
    ∙ ap (meets_by x.columns conds r) (values_there ts t x r here)
    ∙ sym (meets_read x (are.each t x here) conds r)

-- ---- conditions on the key

held : (r : ℤ) (vs : List Value) (cond : Cond) (s : Source) → is_key_source s ≡ true → holds_of cond (source_value r vs s) ≡ true → holds cond (NumberValue r) ≡ true
held r vs cond Key key is = is
held r vs cond (Number place) key is = cc
held r vs cond (Text column) key is = cc
held r vs cond Nothing key is = cc

-- of those that hold, one that is on the key holds of the key
pub key_met : (columns : List Column) (conds : List Cond) (r : ℤ) (vs : List Value) (i : ℕ) (cond : Cond) → i < length conds
    → cond ≡ get_or conds i cond → meets_by columns conds r vs ≡ true → is_key_source (source_of (cond_column cond) columns) ≡ true
    → holds cond (NumberValue r) ≡ true
key_met columns conds r vs i cond within at met key =
    held r vs cond (source_of (cond_column cond) columns) key
    (true_from_ne_false (met_by columns r vs cond) (λ none. both_ways (meets_by columns conds r vs) (list_all_at (met_by columns r vs) conds i cond within (ap (met_by columns r vs) (sym at) ∙ none)) met))
