-- The value of a column comes from its source.
use Rattle.std.proofs.Common.{◌≡◌, ◌<◌, ◌≤◌, ◌+◌, ◌-◌, ℕ, ℤ, zero, suc, Bool, true, false, cond, eqb, List, [], ◌∷◌, length, Option, Some, None, refl, sym, ap, ◌∙◌, arith, add-zero, zero-add, eqb-true, subst, ltb-false}
use Rattle.std.specs.Prelude.{nat_lt}
use Rattle.std.specs.List.{slice_get}
use Rattle.std.specs.Option.{option_map}
use Rattle.std.specs.FinMap.{get}
use Rattle.ct_base.specs.declared.lists.Value.{Value}
use Rattle.ct_base.specs.declared.lists.Value.TheVariants.{Number as NumberValue, Text as TextValue}
use Rattle.ct_entry.specs.Keys.{same_list}
use Rattle.tb_table.specs.declared.columns.Sort.{Sort}
use Rattle.tb_table.specs.declared.columns.Sort.TheVariants.{Number as NumberSort, Varchar2, Clob}
use Rattle.tb_table.specs.declared.columns.Column.{Column}
use Rattle.tb_table.specs.Tables.{Table, Tables, row_in, numbers_of, text_in, text_in_column}
use Rattle.tb_table.specs.Rules.{IsOfSort, FitColumns, IsKeyFirst, IsTable, AreTables, others}
use Rattle.db_state.specs.Columns.{place_from}
use Rattle.db_rows.specs.declared.sources.Source.TheVariants.{Key, Number, Text, Nothing}
use Rattle.db_rows.specs.Values.{value_at, values_behind_key, at_place, value_of_column, row_values}
use Rattle.db_rows.specs.Sources.{number_source, text_source, source_by, with_sort, source_from, source_of, source_value}

-- ---- a row that may be shorter than the columns

-- a column of this sort has such values
abbrev pub Suits : Sort → Value → Type 0
Suits NumberSort (NumberValue n) = Unit {0}
Suits NumberSort (TextValue text) = ⊥
Suits (Varchar2 size) (NumberValue n) = ⊥
Suits (Varchar2 size) (TextValue text) = Unit {0}
Suits Clob (NumberValue n) = ⊥
Suits Clob (TextValue text) = Unit {0}

abbrev pub SuitAsFar : List Column → List Value → Type 0
SuitAsFar cs [] = Unit {0}
SuitAsFar [] (v ∷ vs) = ⊥
SuitAsFar (c ∷ cs) (v ∷ vs) = Suits c.sort v × SuitAsFar cs vs

suits : (s : Sort) (v : Value) → IsOfSort s v → Suits s v
suits NumberSort (NumberValue n) fits = tt
suits NumberSort (TextValue text) fits = fits
suits (Varchar2 size) (NumberValue n) fits = fits
suits (Varchar2 size) (TextValue text) fits = tt
suits Clob (NumberValue n) fits = fits
suits Clob (TextValue text) fits = tt

as_far : (cs : List Column) (vs : List Value) → FitColumns cs vs → SuitAsFar cs vs
as_far [] [] fit = tt
as_far [] (v ∷ vs) fit = fit
as_far (c ∷ cs) [] fit = tt
as_far (c ∷ cs) (v ∷ vs) fit = (suits c.sort v fit.0, as_far cs vs fit.1)

-- What a row has from a column on: `row` are its values from there, before which so many columns and NUMBER columns stand.
pub record IsRest (r : ℤ) (vs : List Value) (place before : ℕ) (row : List Value) : Type 0 where
  pub values : (j : ℕ) → value_at r vs (place + j) ≡ slice_get row j
  pub numbers : (j : ℕ) → slice_get (r ∷ numbers_of vs) (before + j) ≡ slice_get (numbers_of row) j
  pub texts : (j : ℕ) → text_in_column vs (place + j) ≡ text_in row j

value_whole : (r : ℤ) (vs : List Value) (j : ℕ) → value_at r vs j ≡ slice_get (NumberValue r ∷ vs) j
value_whole r vs zero = refl
value_whole r [] (suc j) = refl
value_whole r (v ∷ vs) (suc zero) = refl
value_whole r (v ∷ vs) (suc (suc j)) = value_whole r vs (suc j)

text_whole : (r : ℤ) (vs : List Value) (j : ℕ) → text_in_column vs j ≡ text_in (NumberValue r ∷ vs) j
text_whole r vs zero = refl
text_whole r vs (suc j) = refl

whole_row : (r : ℤ) (vs : List Value) → IsRest r vs 0 0 (NumberValue r ∷ vs)
whole_row r vs = record {
  values = λ j. ap (value_at r vs) (zero-add j) ∙ value_whole r vs j;
  numbers = λ j. ap (slice_get (r ∷ numbers_of vs)) (zero-add j);
  texts = λ j. ap (text_in_column vs) (zero-add j) ∙ text_whole r vs j;
}

after : (n j : ℕ) → suc n + j ≡ n + suc j
after n j = omega arith

-- behind a value that fits its column
behind : (r : ℤ) (vs : List Value) (place before : ℕ) (s : Sort) (v : Value) (row : List Value) → Suits s v → IsRest r vs place before (v ∷ row) → IsRest r vs (suc place) (with_sort s before) row
behind r vs place before s v row fits rest = record {
  values = λ j. ap (value_at r vs) (after place j) ∙ rest.values (suc j);
  numbers = numbers s v fits rest.numbers;
  texts = λ j. ap (text_in_column vs) (after place j) ∙ rest.texts (suc j);
}
  where
    numbers : (s : Sort) (v : Value) → Suits s v → ((j : ℕ) → slice_get (r ∷ numbers_of vs) (before + j) ≡ slice_get (numbers_of (v ∷ row)) j)
        → (j : ℕ) → slice_get (r ∷ numbers_of vs) (with_sort s before + j) ≡ slice_get (numbers_of row) j
    numbers NumberSort (NumberValue n) fits ns j = ap (slice_get (r ∷ numbers_of vs)) (after before j) ∙ ns (suc j)
    numbers NumberSort (TextValue text) fits ns j = absurd fits
    numbers (Varchar2 size) (NumberValue n) fits ns j = absurd fits
    numbers (Varchar2 size) (TextValue text) fits ns j = ns j
    numbers Clob (NumberValue n) fits ns j = absurd fits
    numbers Clob (TextValue text) fits ns j = ns j

-- behind the end of a row
behind_end : (r : ℤ) (vs : List Value) (place before : ℕ) (s : Sort) → IsRest r vs place before [] → IsRest r vs (suc place) (with_sort s before) []
behind_end r vs place before s rest = record {
  values = λ j. ap (value_at r vs) (after place j) ∙ rest.values (suc j);
  numbers = numbers s rest.numbers;
  texts = λ j. ap (text_in_column vs) (after place j) ∙ rest.texts (suc j);
}
  where
    numbers : (s : Sort) → ((j : ℕ) → slice_get (r ∷ numbers_of vs) (before + j) ≡ None) → (j : ℕ) → slice_get (r ∷ numbers_of vs) (with_sort s before + j) ≡ None
    numbers NumberSort ns j = ap (slice_get (r ∷ numbers_of vs)) (after before j) ∙ ns (suc j)
    numbers (Varchar2 size) ns j = ns j
    numbers Clob ns j = ns j

-- ---- the value of a column

number_value : (r : ℤ) (vs : List Value) (before : ℕ) → source_value r vs (number_source before) ≡ option_map NumberValue (slice_get (r ∷ numbers_of vs) before)
number_value r vs zero = refl
number_value r vs (suc before) = go (eqb (suc before) 0) refl
  where
    go : (b : Bool) → eqb (suc before) 0 ≡ b → source_value r vs (cond b Key (Number (suc before - 1))) ≡ option_map NumberValue (slice_get (numbers_of vs) before)
    go true h = let e = eqb-true (suc before) 0 h in absurd (omega (arith, e))
    go false h = let e : suc before - 1 ≡ before = omega arith in ap (λ (n : ℕ). option_map NumberValue (slice_get (numbers_of vs) n)) e

text_value : (r : ℤ) (vs : List Value) (place : ℕ) → place < 256 → source_value r vs (text_source place) ≡ option_map TextValue (text_in_column vs place)
text_value r vs place small = go (nat_lt place 256) refl
  where
    go : (b : Bool) → nat_lt place 256 ≡ b → source_value r vs (cond b (Text place) Nothing) ≡ option_map TextValue (text_in_column vs place)
    go true h = refl
    go false h = absurd (let l = ltb-false place 256 h in omega (arith, l))

abbrev SuitsFirst : Sort → List Value → Type 0
SuitsFirst s [] = Unit {0}
SuitsFirst s (v ∷ row) = Suits s v

first_number : (row : List Value) → SuitsFirst NumberSort row → slice_get row 0 ≡ option_map NumberValue (slice_get (numbers_of row) 0)
first_number [] suit = refl
first_number (NumberValue n ∷ row) suit = refl
first_number (TextValue text ∷ row) suit = absurd suit

first_text : (s : Sort) (row : List Value) → (s ≡ NumberSort → ⊥) → SuitsFirst s row → slice_get row 0 ≡ option_map TextValue (text_in row 0)
first_text s [] other suit = refl
first_text s (TextValue text ∷ row) other suit = refl
first_text NumberSort (NumberValue n ∷ row) other suit = absurd (other refl)
first_text (Varchar2 size) (NumberValue n ∷ row) other suit = absurd suit
first_text Clob (NumberValue n ∷ row) other suit = absurd suit

at_text : (r : ℤ) (vs : List Value) (place before : ℕ) (s : Sort) (row : List Value) → (s ≡ NumberSort → ⊥) → place < 256 → SuitsFirst s row
    → IsRest r vs place before row → value_at r vs place ≡ source_value r vs (text_source place)
at_text r vs place before s row other small suit rest =
    ap (value_at r vs) (sym (add-zero place)) ∙ rest.values 0 ∙ first_text s row other suit
    ∙ ap (option_map TextValue) (sym (rest.texts 0) ∙ ap (text_in_column vs) (add-zero place))
    ∙ sym (text_value r vs place small)

at_column : (r : ℤ) (vs : List Value) (place before : ℕ) (s : Sort) (row : List Value) → place < 256 → SuitsFirst s row
    → IsRest r vs place before row → value_at r vs place ≡ source_value r vs (source_by s place before)
at_column r vs place before NumberSort row small suit rest =
    ap (value_at r vs) (sym (add-zero place)) ∙ rest.values 0 ∙ first_number row suit
    ∙ ap (option_map NumberValue) (sym (rest.numbers 0) ∙ ap (slice_get (r ∷ numbers_of vs)) (add-zero before))
    ∙ sym (number_value r vs before)
at_column r vs place before (Varchar2 size) row small suit rest = at_text r vs place before (Varchar2 size) row (λ e. cc) small suit rest
at_column r vs place before Clob row small suit rest = at_text r vs place before Clob row (λ e. cc) small suit rest

chosen : (r : ℤ) (vs : List Value) (place before : ℕ) (c : Column) (name : List ℕ) (cs : List Column) (b : Bool) → value_at r vs place ≡ source_value r vs (source_by c.sort place before)
    → at_place r vs (place_from (suc place) name cs) ≡ source_value r vs (source_from (suc place) (with_sort c.sort before) name cs)
    → at_place r vs (cond b (Some place) (place_from (suc place) name cs)) ≡ source_value r vs (cond b (source_by c.sort place before) (source_from (suc place) (with_sort c.sort before) name cs))
chosen r vs place before c name cs true here rest = here
chosen r vs place before c name cs false here rest = rest

named : (r : ℤ) (vs : List Value) (place before : ℕ) (name : List ℕ) (cs : List Column) (row : List Value) → place + length cs ≤ 256 → SuitAsFar cs row → IsRest r vs place before row
    → at_place r vs (place_from place name cs) ≡ source_value r vs (source_from place before name cs)
named r vs place before name [] row few suit rest = refl
named r vs place before name (c ∷ cs) [] few suit rest =
    chosen r vs place before c name cs (same_list name c.name) (at_column r vs place before c.sort [] (omega arith) tt rest)
    (named r vs (suc place) (with_sort c.sort before) name cs [] (omega arith) tt (behind_end r vs place before c.sort rest))
named r vs place before name (c ∷ cs) (v ∷ row) few suit rest =
    chosen r vs place before c name cs (same_list name c.name) (at_column r vs place before c.sort (v ∷ row) (omega arith) suit.0 rest)
    (named r vs (suc place) (with_sort c.sort before) name cs row (omega arith) suit.1 (behind r vs place before c.sort v row suit.0 rest))

key_first : (columns : List Column) (r : ℤ) (vs : List Value) → IsKeyFirst columns → SuitAsFar (others columns) vs → SuitAsFar columns (NumberValue r ∷ vs)
key_first [] r vs key suit = absurd key
key_first (c ∷ cs) r vs key suit = (subst (λ (s : Sort). Suits s (NumberValue r)) (sym key) tt, suit)

values_suit : (x : Table) (r : ℤ) → IsTable x → (o : Option (List Value)) → get x.rows r ≡ o → SuitAsFar (others x.columns) (values_behind_key o)
values_suit x r is None there = tt
values_suit x r is (Some vs) there = as_far (others x.columns) vs (is.rows r vs there)

-- in a row of a table, and also in one that isn't there
pub value_from : (x : Table) → IsTable x → (r : ℤ) (name : List ℕ) → value_of_column x.columns r (values_behind_key (get x.rows r)) name ≡ source_value r (values_behind_key (get x.rows r)) (source_of name x.columns)
value_from x is r name =
    let few = is.columns.few in
    let vs : List Value = values_behind_key (get x.rows r) in
    named r vs 0 0 name x.columns (NumberValue r ∷ vs) (omega (arith, few)) (key_first x.columns r vs is.columns.key (values_suit x r is (get x.rows r) refl)) (whole_row r vs)

pub values_there : (ts : Tables) (t : List ℕ) (x : Table) (r : ℤ) → get ts t ≡ Some x → row_values ts t r ≡ values_behind_key (get x.rows r)
values_there ts t x r here = ap (λ (o : Option Table). values_behind_key (row_in o r)) here

-- the same by the name of the table
pub column_from : (ts : Tables) (t : List ℕ) (x : Table) → AreTables ts → get ts t ≡ Some x → (r : ℤ) (name : List ℕ)
    → value_of_column x.columns r (row_values ts t r) name ≡ source_value r (row_values ts t r) (source_of name x.columns)
column_from ts t x are here r name =
    let same = values_there ts t x r here in
    ap (λ (vs : List Value). value_of_column x.columns r vs name) same ∙ value_from x (are.each t x here) r name ∙ ap (λ (vs : List Value). source_value r vs (source_of name x.columns)) (sym same)
