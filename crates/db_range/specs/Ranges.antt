-- Between which places of a sub-index the rows lie that meet conditions.
use Rattle.std.specs.Prelude.{ℕ, ℤ, pos, ◌≡◌, Bool, true, false, List, [], ◌∷◌, ◌++◌, map, Option, Some, None, codes, refl}
use Rattle.std.specs.List.{flat_map}
use Rattle.ct_base.specs.declared.lists.Value.{Value}
use Rattle.ct_base.specs.declared.lists.Value.TheVariants.{Number as NumberValue, Text as TextValue}
use Rattle.ct_bytes.specs.RowKeys.{row_bytes}
use Rattle.ct_entry.specs.Keys.{IsRow}
use Rattle.tb_table.specs.declared.columns.Column.{Column}
use Rattle.tb_table.specs.Rules.{FitColumns, others}
use Rattle.st_parse.specs.declared.statements.Cond.{Cond}
use Rattle.cat_index.specs.Filings.{at_place, value_bytes}
use Rattle.cat_walk.specs.Places.{is_between}
use Rattle.db_rows.specs.Meeting.{row_meets}
use Rattle.db_rows.specs.Values.{value_of_column}
use Rattle.db_range.specs.declared.places.Range.{Range}
use Rattle.db_range.specs.declared.choosing.SubRange.{SubRange}
use Rattle.db_range.specs.Places.{beginning, is_known, joined, or_whole, whole}
use Rattle.db_range.specs.Values.{IsValueRange, hat_columns, kind_is}

-- ---- ranges of several columns

-- what follows a value whose bytes are known is bounded by the later columns, and else by nothing
abbrev pub GoesOn : (Range → Type 0) → Bool → Range → Type 0
GoesOn IsLater true later = IsLater later
GoesOn IsLater false later = later ≡ whole

-- A range that begins with that of the first column.
pub record IsJoined (IsFirst : Option Range → Type 0) (IsLater : Range → Type 0) (range : Range) : Type 0 where
  pub first : Option Range
  pub later : Range
  pub is_first : IsFirst first
  pub goes_on : GoesOn IsLater (is_known first) later
  pub spelt : range ≡ joined (or_whole first) later

-- THE RANGE THAT CONDITIONS GIVE to the places of a sub-index of the columns with these names
abbrev pub IsRangeOf : List Column → List Cond → List (List ℕ) → Range → Type 0
IsRangeOf columns conds [] range = range ≡ whole
IsRangeOf columns conds (name ∷ names) range = IsJoined (IsValueRange columns conds name) (IsRangeOf columns conds names) range

-- ---- which rows lie there

-- the values of a row in these columns as they stand in a key, one after the other
abbrev pub row_values_bytes : List Column → ℤ → List Value → List (List ℕ) → List ℕ
row_values_bytes columns r vs names = flat_map value_bytes (map (value_of_column columns r vs) names)

-- where a row has its entries
abbrev pub place_of_row : List Column → ℤ → List Value → List (List ℕ) → List ℕ
place_of_row columns r vs names = row_values_bytes columns r vs names ++ row_bytes r

-- EACH ROW THAT MEETS THE CONDITIONS LIES THERE
abbrev pub Covers : List Column → List (List ℕ) → List Cond → Range → Type 0
Covers columns names conds range = (r : ℤ) (vs : List Value) → IsRow r → FitColumns (others columns) vs → row_meets columns conds r vs ≡ true
    → is_between range.low range.high (place_of_row columns r vs names) ≡ true

-- One of the sub-indexes of the columns with these names, of which the first has the number 1, or the plain one, 0, with the range that conditions give to its
-- places.
pub record IsSubRange (columns : List Column) (conds : List Cond) (subs : List (List (List ℕ))) (best : SubRange) : Type 0 where
  pub names : List (List ℕ)
  pub at : at_place best.sub ([] ∷ subs) ≡ Some names
  pub range : IsRangeOf columns conds names best.range
  pub covers : Covers columns names conds best.range

-- ---- computed examples: of a table of id NUMBER PRIMARY KEY, kind VARCHAR2(20), price NUMBER

-- the row 7, a hat of the price 3
its_place : place_of_row hat_columns (pos 7) (TextValue (codes "hat") ∷ NumberValue (pos 3) ∷ []) (codes "kind" ∷ codes "price" ∷ [])
    ≡ 3 ∷ 104 ∷ 97 ∷ 116 ∷ 0x80 ∷ 0 ∷ 0 ∷ 0 ∷ 0 ∷ 0 ∷ 0 ∷ 3 ∷ 0x80 ∷ 0 ∷ 0 ∷ 0 ∷ 0 ∷ 0 ∷ 0 ∷ 7 ∷ []
unfolding row_bytes
its_place = refl

-- behind a kind that is known, prices of which nothing is
behind_the_kind : IsRangeOf hat_columns (kind_is (codes "hat") ∷ []) (codes "kind" ∷ codes "price" ∷ []) (beginning (3 ∷ codes "hat"))
behind_the_kind = record {
  first = Some (beginning (3 ∷ codes "hat"));
  later = whole;
  is_first = refl;
  goes_on = record { first = None; later = whole; is_first = refl; goes_on = refl; spelt = refl };
  spelt = refl;
}

-- where nothing is known of the first, the second doesn't count
not_the_second : IsRangeOf hat_columns (kind_is (codes "hat") ∷ []) (codes "price" ∷ codes "kind" ∷ []) whole
not_the_second = record { first = None; later = whole; is_first = refl; goes_on = refl; spelt = refl }
