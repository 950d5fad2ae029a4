-- What an UPDATE makes of the values of a row.
use Rattle.std.proofs.Common.{◌≡◌, ℕ, ℤ, zero, suc, ◌+◌, ◌<◌, ◌≤◌, Bool, true, false, cond, List, [], ◌∷◌, length, pos, Option, Some, None, refl, sym, ap, ◌∙◌, arith}
use Rattle.std.specs.Prelude.{◌==◌, ◌||◌}
use Rattle.std.specs.Option.{option_map, option_and_then, option_or}
use Rattle.std.specs.List.{filter_map, cons_option}
use Rattle.std.proofs.lemmas.Bool.{eq-eqb, ne_eqb}
use Rattle.ct_base.specs.declared.lists.Value.{Value}
use Rattle.ct_base.specs.declared.lists.Value.TheVariants.{Number as NumberValue, Text as TextValue}
use Rattle.ct_entry.specs.Keys.{same_list}
use Rattle.ct_entry.specs.laws.Keys.{list_from_same, list_same}
use Rattle.st_parse.specs.declared.statements.Assign.{Assign}
use Rattle.st_parse.specs.declared.statements.Operand.{Operand}
use Rattle.st_parse.specs.declared.statements.Operand.TheVariants.{Text, Number}
use Rattle.st_parse.specs.declared.statements.Whole.TheVariants.{Fits, Beyond}
use Rattle.tb_table.specs.declared.columns.Sort.{Sort}
use Rattle.tb_table.specs.declared.columns.Sort.TheVariants.{Number as NumberSort, Varchar2, Clob}
use Rattle.tb_table.specs.declared.columns.Column.{Column}
use Rattle.tb_table.specs.Tables.{numbers_of, as_text, text_in, text_in_column, given_text, IsUpdate}
use Rattle.tb_table.specs.Rules.{IsOfSort as FitsSort, FitColumns, HaveDistinctNames, has_column, others}
use Rattle.tb_table.specs.laws.Well.{EachPlace}
use Rattle.ix_kinds.specs.Rows.{value_at_place, value_in_column}
use Rattle.ix_kinds.specs.RowSteps.{is_column}
use Rattle.db_state.specs.Columns.{place_from, column_place}
use Rattle.db_change.specs.Inserting.{kept_value, number_value, text_value}
use Rattle.db_change.specs.Updating.{set_in, value_after, updated_values, places_set, of_numbers, number_set, with_set, numbers_after, texts_set}
use Rattle.std.proofs.lemmas.Bool.{or_right}

-- what is set in a column fits it
abbrev pub FitsSet : Sort → Option Operand → Type 0
FitsSet s None = Unit {0}
FitsSet s (Some v) = FitsSort s (kept_value v)

abbrev pub SetFits : List Assign → List Column → Type 0
SetFits assigns [] = Unit {0}
SetFits assigns (c ∷ cs) = FitsSet c.sort (set_in assigns c.name) × SetFits assigns cs

pub others_fit_set : (assigns : List Assign) (cs : List Column) → SetFits assigns cs → SetFits assigns (others cs)
others_fit_set assigns [] fit = tt
others_fit_set assigns (c ∷ cs) fit = fit.1

module _ (assigns : List Assign) where
  -- ---- the values fit the columns still

  pub values_fit : (cs : List Column) (vs : List Value) → FitColumns cs vs → SetFits assigns cs → FitColumns cs (updated_values cs assigns vs)
  values_fit [] [] fit set = tt
  values_fit [] (v ∷ vs) fit set = absurd fit
  values_fit (c ∷ cs) [] fit set = absurd fit
  values_fit (c ∷ cs) (v ∷ vs) fit set = (one (set_in assigns c.name) fit.0 set.0, values_fit cs vs fit.1 set.1)
    where
      one : (o : Option Operand) → FitsSort c.sort v → FitsSet c.sort o → FitsSort c.sort (value_after o v)
      one None old new = old
      one (Some w) old new = new

  -- ---- numbers

  pub numbers_values : (cs : List Column) (vs : List Value) → FitColumns cs vs → SetFits assigns cs → numbers_of (updated_values cs assigns vs) ≡ numbers_after cs assigns (numbers_of vs)
  numbers_values [] [] fit set = refl
  numbers_values [] (v ∷ vs) fit set = absurd fit
  numbers_values (c ∷ cs) [] fit set = absurd fit
  numbers_values (c ∷ cs) (v ∷ vs) fit set = one c.sort (set_in assigns c.name) v fit.0 set.0 (numbers_values cs vs fit.1 set.1)
    where
      one : (s : Sort) (o : Option Operand) (v : Value) → FitsSort s v → FitsSet s o → numbers_of (updated_values cs assigns vs) ≡ numbers_after cs assigns (numbers_of vs)
          → numbers_of (value_after o v ∷ updated_values cs assigns vs) ≡ with_set (cons_option (of_numbers s (option_and_then number_value o)) (filter_map (number_set assigns) cs)) (numbers_of (v ∷ vs))
      one NumberSort o (TextValue text) old new rest = absurd old
      one (Varchar2 size) o (NumberValue n) old new rest = absurd old
      one Clob o (NumberValue n) old new rest = absurd old
      one NumberSort None (NumberValue n) old new rest = ap (λ (ns : List ℤ). n ∷ ns) rest
      one NumberSort (Some (Text text)) (NumberValue n) old new rest = absurd new
      one NumberSort (Some (Number (Fits w))) (NumberValue n) old new rest = ap (λ (ns : List ℤ). w ∷ ns) rest
      one NumberSort (Some (Number Beyond)) (NumberValue n) old new rest = ap (λ (ns : List ℤ). pos 0 ∷ ns) rest
      one (Varchar2 size) None (TextValue text) old new rest = rest
      one (Varchar2 size) (Some (Text t)) (TextValue text) old new rest = rest
      one (Varchar2 size) (Some (Number (Fits w))) (TextValue text) old new rest = absurd new
      one (Varchar2 size) (Some (Number Beyond)) (TextValue text) old new rest = absurd new
      one Clob None (TextValue text) old new rest = rest
      one Clob (Some (Text t)) (TextValue text) old new rest = rest
      one Clob (Some (Number (Fits w))) (TextValue text) old new rest = absurd new
      one Clob (Some (Number Beyond)) (TextValue text) old new rest = absurd new

  -- ---- texts

  -- the text that is set in the column at a place, counted from 0
  abbrev text_set_at : List Column → ℕ → Option (List ℕ)
  text_set_at [] k = None
  text_set_at (c ∷ cs) zero = option_and_then text_value (set_in assigns c.name)
  text_set_at (c ∷ cs) (suc k) = text_set_at cs k

  none_below : (q place : ℕ) (cs : List Column) → q < place → given_text q (texts_set place cs assigns) ≡ None
  none_below q place [] less = refl
  none_below q place (c ∷ cs) less = one (option_and_then text_value (set_in assigns c.name)) (none_below q (suc place) cs (omega (arith, less)))
    where
      one : (o : Option (List ℕ)) → given_text q (texts_set (suc place) cs assigns) ≡ None → given_text q (cons_option (option_map (λ text. (place, text)) o) (texts_set (suc place) cs assigns)) ≡ None
      one None rest = rest
      one (Some text) rest = ap (λ (o : Option (List ℕ)). option_or o (cond (q == place) (Some text) None)) rest ∙ ap (λ (b : Bool). cond b (Some text) None) (ne_eqb q place (λ e. omega (arith, e, less)))

  given_at : (cs : List Column) (place k q : ℕ) → q ≡ place + k → given_text q (texts_set place cs assigns) ≡ text_set_at cs k
  given_at [] place k q is = refl
  given_at (c ∷ cs) place zero q is = one (option_and_then text_value (set_in assigns c.name)) (none_below q (suc place) cs (omega (arith, is)))
    where
      one : (o : Option (List ℕ)) → given_text q (texts_set (suc place) cs assigns) ≡ None → given_text q (cons_option (option_map (λ text. (place, text)) o) (texts_set (suc place) cs assigns)) ≡ o
      one None rest = rest
      one (Some text) rest = ap (λ (o : Option (List ℕ)). option_or o (cond (q == place) (Some text) None)) rest ∙ ap (λ (b : Bool). cond b (Some text) None) (eq-eqb q place (omega (arith, is)))
  given_at (c ∷ cs) place (suc k) q is = one (option_and_then text_value (set_in assigns c.name)) (given_at cs (suc place) k q (omega (arith, is)))
    where
      or_none : (o : Option (List ℕ)) → option_or o None ≡ o
      or_none None = refl
      or_none (Some text) = refl

      one : (o : Option (List ℕ)) → given_text q (texts_set (suc place) cs assigns) ≡ text_set_at cs k
          → given_text q (cons_option (option_map (λ text. (place, text)) o) (texts_set (suc place) cs assigns)) ≡ text_set_at cs k
      one None rest = rest
      one (Some text) rest =
          ap (λ (b : Bool). option_or (given_text q (texts_set (suc place) cs assigns)) (cond b (Some text) None)) (ne_eqb q place (λ e. omega (arith, e, is)))
          ∙ or_none (given_text q (texts_set (suc place) cs assigns)) ∙ rest

  -- a text that is set is the new one
  set_there : (cs : List Column) (vs : List Value) (k : ℕ) (text : List ℕ) → FitColumns cs vs → text_set_at cs k ≡ Some text → text_in (updated_values cs assigns vs) k ≡ Some text
  set_there [] vs k text fit is = cc
  set_there (c ∷ cs) [] k text fit is = absurd fit
  set_there (c ∷ cs) (v ∷ vs) zero text fit is = one (set_in assigns c.name) is
    where
      one : (o : Option Operand) → option_and_then text_value o ≡ Some text → as_text (value_after o v) ≡ Some text
      one None is = cc
      one (Some (Text t)) is = is
      one (Some (Number n)) is = cc
  set_there (c ∷ cs) (v ∷ vs) (suc k) text fit is = set_there cs vs k text fit.1 is

  -- where none is set, the text is as before
  pub none_there : (cs : List Column) (vs : List Value) (k : ℕ) → FitColumns cs vs → SetFits assigns cs → text_set_at cs k ≡ None → text_in (updated_values cs assigns vs) k ≡ text_in vs k
  none_there [] [] k fit set is = refl
  none_there [] (v ∷ vs) k fit set is = absurd fit
  none_there (c ∷ cs) [] k fit set is = absurd fit
  none_there (c ∷ cs) (v ∷ vs) zero fit set is = one c.sort (set_in assigns c.name) v fit.0 set.0 is
    where
      one : (s : Sort) (o : Option Operand) (v : Value) → FitsSort s v → FitsSet s o → option_and_then text_value o ≡ None → as_text (value_after o v) ≡ as_text v
      one s None v old new is = refl
      one s (Some (Text t)) v old new is = cc
      one NumberSort (Some (Number (Fits n))) (NumberValue z) old new is = refl
      one NumberSort (Some (Number Beyond)) (NumberValue z) old new is = refl
      one NumberSort (Some (Number n)) (TextValue t) old new is = absurd old
      one (Varchar2 size) (Some (Number (Fits n))) v old new is = absurd new
      one (Varchar2 size) (Some (Number Beyond)) v old new is = absurd new
      one Clob (Some (Number (Fits n))) v old new is = absurd new
      one Clob (Some (Number Beyond)) v old new is = absurd new
  none_there (c ∷ cs) (v ∷ vs) (suc k) fit set is = none_there cs vs k fit.1 set.1 is

  pub is_update : (cs : List Column) (vs : List Value) → FitColumns cs vs → SetFits assigns cs → IsUpdate (texts_set 1 cs assigns) vs (updated_values cs assigns vs)
  is_update cs vs fit set = record { given = given; others = unset }
    where
      given : (column : ℕ) (text : List ℕ) → given_text column (texts_set 1 cs assigns) ≡ Some text → text_in_column (updated_values cs assigns vs) column ≡ Some text
      given zero text is = let wrong : None ≡ Some text = sym (none_below 0 1 cs (omega arith)) ∙ is in cc
      given (suc k) text is = set_there cs vs k text fit (sym (given_at cs 1 k (suc k) (omega arith)) ∙ is)

      unset : (column : ℕ) → given_text column (texts_set 1 cs assigns) ≡ None → text_in_column (updated_values cs assigns vs) column ≡ text_in_column vs column
      unset zero is = refl
      unset (suc k) is = none_there cs vs k fit set (sym (given_at cs 1 k (suc k) (omega arith)) ∙ is)

  -- keys have room for their columns
  pub set_places : (place : ℕ) (cs : List Column) → place + length cs ≤ 256 → EachPlace (texts_set place cs assigns)
  set_places place [] few = tt
  set_places place (c ∷ cs) few = one (option_and_then text_value (set_in assigns c.name)) (set_places (suc place) cs (omega (arith, few)))
    where
      one : (o : Option (List ℕ)) → EachPlace (texts_set (suc place) cs assigns) → EachPlace (cons_option (option_map (λ text. (place, text)) o) (texts_set (suc place) cs assigns))
      one None rest = rest
      one (Some text) rest = (omega (arith, few), rest)

  -- ---- the places of the columns that are set

  place_there : (from : ℕ) (name : List ℕ) (cs : List Column) (p : ℕ) → place_from from name cs ≡ Some p → has_column name cs ≡ true
  place_there from name [] p is = cc
  place_there from name (c ∷ cs) p is = one (same_list name c.name) is (place_there (suc from) name cs p)
    where
      one : (b : Bool) → cond b (Some from) (place_from (suc from) name cs) ≡ Some p → (place_from (suc from) name cs ≡ Some p → has_column name cs ≡ true) → cond b true (has_column name cs) ≡ true
      one true is rest = refl
      one false is rest = rest is

  -- ---- any value

  -- what is set in the column at a place
  abbrev pub value_set_at : List Column → ℕ → Option Operand
  value_set_at [] k = None
  value_set_at (c ∷ cs) zero = set_in assigns c.name
  value_set_at (c ∷ cs) (suc k) = value_set_at cs k

  -- where nothing is set, the value is as before
  pub value_there : (cs : List Column) (vs : List Value) (k : ℕ) → FitColumns cs vs → value_set_at cs k ≡ None → value_at_place (updated_values cs assigns vs) k ≡ value_at_place vs k
  value_there [] [] k fit none = refl
  value_there [] (v ∷ vs) k fit none = absurd fit
  value_there (c ∷ cs) [] k fit none = absurd fit
  value_there (c ∷ cs) (v ∷ vs) zero fit none = ap (λ (o : Option Operand). Some (value_after o v)) none
  value_there (c ∷ cs) (v ∷ vs) (suc k) fit none = value_there cs vs k fit.1 none

  -- the name of a column in which a value is set
  record IsSetAt (cs : List Column) (from k : ℕ) : Type 0 where
    name : List ℕ
    value : Operand
    set : set_in assigns name ≡ Some value
    place : place_from from name cs ≡ Some (from + k)

  value_place : (cs : List Column) (from k : ℕ) (w : Operand) → HaveDistinctNames cs → value_set_at cs k ≡ Some w → IsSetAt cs from k
  value_place [] from k w apart is = cc
  value_place (c ∷ cs) from zero w apart is = record {
    name = c.name;
    value = w;
    set = is;
    place = ap (λ (b : Bool). cond b (Some from) (place_from (suc from) c.name cs)) (list_same c.name) ∙ ap Some (omega arith);
  }
  value_place (c ∷ cs) from (suc k) w apart is =
      let later = value_place cs (suc from) k w apart.1 is in
      record {
        name = later.name;
        value = later.value;
        set = later.set;
        place = one later (same_list later.name c.name) refl;
      }
    where
      one : (later : IsSetAt cs (suc from) k) (b : Bool) → same_list later.name c.name ≡ b → cond (same_list later.name c.name) (Some from) (place_from (suc from) later.name cs) ≡ Some (from + suc k)
      one later true h =
          let wrong : true ≡ false = sym (place_there (suc from) later.name cs (suc from + k) later.place) ∙ ap (λ (n : List ℕ). has_column n cs) (list_from_same later.name c.name h) ∙ apart.0 in cc
      one later false h = ap (λ (b : Bool). cond b (Some from) (place_from (suc from) later.name cs)) h ∙ later.place ∙ ap Some (omega arith)

placed : (columns : List Column) (name : List ℕ) (p : ℕ) → column_place name columns ≡ Some p → (assigns : List Assign) (w : Operand)
    → set_in assigns name ≡ Some w → is_column (places_set columns assigns) p ≡ true
placed columns name p place [] w set = cc
placed columns name p place (a ∷ assigns) w set = one (same_list name a.column) refl set (placed columns name p place assigns w)
  where
    later : (o : Option ℕ) → is_column (places_set columns assigns) p ≡ true → is_column (cons_option o (places_set columns assigns)) p ≡ true
    later None rest = rest
    later (Some q) rest = or_right (q == p) (is_column (places_set columns assigns) p) rest

    one : (b : Bool) → same_list name a.column ≡ b → cond b (Some a.value) (set_in assigns name) ≡ Some w → (set_in assigns name ≡ Some w → is_column (places_set columns assigns) p ≡ true)
        → is_column (places_set columns (a ∷ assigns)) p ≡ true
    one true h set rest =
        ap (λ (o : Option ℕ). is_column (cons_option o (places_set columns assigns)) p) (ap (λ (n : List ℕ). column_place n columns) (sym (list_from_same name a.column h)) ∙ place)
        ∙ ap (λ (b : Bool). b || is_column (places_set columns assigns) p) (eq-eqb p p refl)
    one false h set rest = later (column_place a.column columns) (rest set)

-- a column that isn't set has the value that it had
pub value_stays : (columns : List Column) (assigns : List Assign) (vs : List Value) → HaveDistinctNames columns → FitColumns (others columns) vs
    → (column : ℕ) → is_column (places_set columns assigns) column ≡ false
    → value_in_column (updated_values (others columns) assigns vs) column ≡ value_in_column vs column
value_stays columns assigns vs apart fit zero other = refl
value_stays [] assigns vs apart fit (suc k) other = value_there assigns [] vs k fit refl
value_stays (c ∷ cs) assigns vs apart fit (suc k) other = one (value_set_at assigns cs k) refl
  where
    one : (o : Option Operand) → value_set_at assigns cs k ≡ o → value_at_place (updated_values cs assigns vs) k ≡ value_at_place vs k
    one None is = value_there assigns cs vs k fit is
    one (Some w) is =
        let at = value_place assigns (c ∷ cs) 0 (suc k) w apart is in
        let wrong : true ≡ false = sym (placed (c ∷ cs) at.name (suc k) (at.place ∙ ap Some (omega arith)) assigns at.value at.set) ∙ other in cc
