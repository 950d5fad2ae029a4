-- The changes of new tables and rows are on keys of their kinds.
use Rattle.std.proofs.Common.{◌≡◌, ℕ, ℤ, suc, ◌+◌, ◌<◌, ◌≤◌, List, [], ◌∷◌, length, refl, arith, length-append}
use Rattle.ct_base.specs.Names.{IsName}
use Rattle.ct_base.specs.laws.Names.{name_length}
use Rattle.ct_base.specs.declared.lists.Value.{Value}
use Rattle.ct_base.specs.declared.lists.Value.TheVariants.{Number as NumberValue, Text as TextValue}
use Rattle.ct_base.specs.Limits.{column_limit}
use Rattle.ct_bytes.specs.Varints.{varint, text_bytes}
use Rattle.ct_bytes.specs.laws.Varints.{varint_length}
use Rattle.ct_entry.specs.Keys.{IsRow}
use Rattle.ct_entry.specs.Changes.{AreChanges, AllOf}
use Rattle.ct_entry.specs.laws.Parts.{has_short_keys}
use Rattle.tb_table.specs.declared.columns.Column.{Column}
use Rattle.tb_table.specs.Tables.{texts_from, texts_of}
use Rattle.tb_table.specs.Spelling.{column_bytes, table_changes, row_text_changes, insert_changes}
use Rattle.tb_table.specs.Rules.{FitColumns, AreColumns, others}
use Rattle.tb_table.specs.Readings.{sort_bytes}

-- ---- keys

-- places of columns that a key may have
abbrev pub EachPlace : List (ℕ × List ℕ) → Type 0
EachPlace [] = Unit {0}
EachPlace (x ∷ texts) = (x.0 < 256) × EachPlace texts

pub are_create : (t : List ℕ) (columns : List Column) → IsName t → AreChanges (table_changes t columns)
are_create t columns name = (record { owner = name; part = refl }, tt)

pub are_insert : (t : List ℕ) (r : ℤ) (numbers : List ℤ) (texts : List (ℕ × List ℕ)) → IsName t → IsRow r → EachPlace texts → AreChanges (insert_changes t r numbers texts)
are_insert t r numbers texts name row places = (record { owner = name; part = (r, row, refl) }, each texts places)
  where
    each : (texts : List (ℕ × List ℕ)) → EachPlace texts → AreChanges (row_text_changes t r texts)
    each [] places = tt
    each (x ∷ texts) places = (record { owner = name; part = (x.0, (r, places.0, row, refl)) }, each texts places.1)

pub short_create : (t : List ℕ) (columns : List Column) → AllOf has_short_keys (table_changes t columns)
short_create t columns = (refl, tt)

pub short_insert : (t : List ℕ) (r : ℤ) (numbers : List ℤ) (texts : List (ℕ × List ℕ)) → AllOf has_short_keys (insert_changes t r numbers texts)
short_insert t r numbers texts = (refl, each texts)
  where
    each : (texts : List (ℕ × List ℕ)) → AllOf has_short_keys (row_text_changes t r texts)
    each [] = tt
    each (x ∷ texts) = (refl, each texts)

each_place : (from : ℕ) (vs : List Value) → from + length vs ≤ 256 → EachPlace (texts_from from vs)
each_place from [] few = tt
each_place from (NumberValue n ∷ vs) few = each_place (suc from) vs (omega arith)
each_place from (TextValue text ∷ vs) few = (omega arith, each_place (suc from) vs (omega arith))

pub fit_length : (cs : List Column) (vs : List Value) → FitColumns cs vs → length vs ≡ length cs
fit_length [] [] fit = refl
fit_length [] (v ∷ vs) fit = absurd fit
fit_length (c ∷ cs) [] fit = absurd fit
fit_length (c ∷ cs) (v ∷ vs) fit = let rest = fit_length cs vs fit.1 in omega arith

pub others_length : (cs : List Column) → length (others cs) ≤ length cs
others_length [] = omega arith
others_length (c ∷ cs) = omega arith

-- the values of a row are fewer than 16
pub few_values : (cs : List Column) (vs : List Value) → AreColumns cs → FitColumns (others cs) vs → length vs ≤ column_limit
few_values cs vs are fit = let l = fit_length (others cs) vs fit in let o = others_length cs in let few = are.few in omega (arith, l, o, few)

-- the texts of a row stand in columns of such places
pub row_places : (cs : List Column) (vs : List Value) → AreColumns cs → FitColumns (others cs) vs → EachPlace (texts_of vs)
row_places cs vs are fit = let few = few_values cs vs are fit in each_place 1 vs (omega arith)

-- ---- values

pub length-column_bytes_le : (c : Column) → IsName c.name → length (column_bytes c) ≤ 38
length-column_bytes_le c name =
    let whole = length-append (text_bytes c.name) (sort_bytes c.sort) in
    let prefix = length-append (varint (length c.name)) c.name in
    let count = varint_length (length c.name) in
    let short = (name_length c.name name).1 in
    omega (arith, whole, prefix, count, short)
