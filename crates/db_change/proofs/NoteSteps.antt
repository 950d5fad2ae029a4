-- Steps of loading the indexes on a table, and the values of rows that they need.
use Rattle.std.proofs.Common.{◌≡◌, ◌≤◌, ℕ, ℤ, suc, zero, ◌^◌, Bool, true, false, cond, List, [], ◌∷◌, map, filter, length, Option, Some, refl, sym, ap, subst, ◌∙◌, arith, inl, inr}
use Rattle.std.specs.Prelude.{is_some}
use Rattle.std.specs.List.{All, list_all}
use Rattle.std.specs.FinMap.{get}
use Rattle.std.proofs.lemmas.Bool.{and_from, and_parts, le-leb, leb-true}
use Rattle.std.proofs.lemmas.List.Elements.{All-head, All-tail}
use Rattle.ct_base.specs.declared.lists.Value.{Value}
use Rattle.ct_base.specs.declared.lists.Value.TheVariants.{Number as NumberValue, Text as TextValue}
use Rattle.ct_base.specs.laws.Options.{some_value}
use Rattle.ct_base.specs.declared.numbers.RowKey.{RowKey}
use Rattle.ct_keep.specs.Content.{Content, after, weight}
use Rattle.ct_entry.specs.Changes.{spell}
use Rattle.ct_entry.specs.Shapes.{AreShaped}
use Rattle.ct_entry.specs.laws.Shapes.{are_shaped_weaker}
use Rattle.ct_entry.specs.Keys.{at, same_list}
use Rattle.ct_entry.specs.Maps.{Names}
use Rattle.st_parse.specs.declared.statements.Assign.{Assign}
use Rattle.st_parse.specs.declared.statements.Operand.{Operand}
use Rattle.st_parse.specs.declared.statements.Operand.TheVariants.{Text, Number}
use Rattle.st_parse.specs.declared.statements.Whole.TheVariants.{Fits, Beyond}
use Rattle.tb_table.specs.declared.columns.Column.{Column}
use Rattle.tb_table.specs.Tables.{Table, Tables, as_text, row_at, row_in, text_in}
use Rattle.tb_table.specs.Rules.{AreTables}
use Rattle.cat_index.specs.Filings.{IsShortOrNone}
use Rattle.cat_index.specs.laws.Limits.{text_is_short}
use Rattle.db_names.specs.declared.heads.IndexHead.{IndexHead}
use Rattle.db_names.specs.Findings.{AreIndexesOf}
use Rattle.db_names.specs.laws.Heads.{heads_each, indexes_of_read}
use Rattle.ix_kinds.specs.Rows.{table_at, table_or_none}
use Rattle.ix_indexes.specs.declared.loading.TableIndex.{TableIndex}
use Rattle.ix_indexes.specs.Indexes.{Index}
use Rattle.ix_indexes.specs.Loading.{AreHeadsOf}
use Rattle.ix_indexes.specs.laws.Held.{noted_held, some_held}
use Rattle.ix_indexes.specs.laws.Untidies.{noted_are_of}
use Rattle.ix_indexes.specs.Noting.{AllCanTell, AreHeld, AreNotedOf, HasShortTexts, HoldsIndexes, Noted, all_untidying, noted_by, noted_index, noted_indexes, noted_looks_any}
use Rattle.ix_indexes.specs.Shapes.{HasIndexValue}
use Rattle.db_state.specs.Shapes.{AreStoreChanges, HasStoreValue}
use Rattle.db_state.specs.States.{StoreState, StandsForState}
use Rattle.db_state.specs.laws.Heads.{heads_stand, store_heads}
use Rattle.db_change.specs.Inserting.{IsShortValue, kept_value}
use Rattle.db_change.specs.Noting.{heads_on, is_short_value, lost_changes, names_on, noted_on, noted_set}
use Rattle.db_change.specs.Updating.{IsShortAssign, set_in, updated_values, value_after}
use Rattle.db_change.specs.laws.NewRows.{indexes_hold}
use Rattle.db_change.specs.laws.SetIndexes.{names_set, noted_on_columns}

-- ---- the heads of the indexes

heads_are : (ts : Tables) (xs : Names Index) (t : List ℕ) (x : Table) → get ts t ≡ Some x → (es : List (List ℕ × IndexHead)) → All (λ e. (get (store_heads xs) e.0 ≡ Some e.1) × (e.1.target.table ≡ t)) es → AreHeadsOf ts xs x.columns es
heads_are ts xs t x here [] all = tt
heads_are ts xs t x here (e ∷ es) all =
    let first = All-head (λ (e : List ℕ × IndexHead). (get (store_heads xs) e.0 ≡ Some e.1) × (e.1.target.table ≡ t)) e es all in (
      record { head = first.0; columns = sym (ap (λ (q : List ℕ). (table_at ts q).columns) first.1 ∙ ap (λ (o : Option Table). (table_or_none o).columns) here) },
      heads_are ts xs t x here es (All-tail (λ (e : List ℕ × IndexHead). (get (store_heads xs) e.0 ≡ Some e.1) × (e.1.target.table ≡ t)) e es all),
    )

-- where no row is lost nothing is put, and else what the indexes are told
module _ (c : Content) (m : StoreState) (es : List (List ℕ × Noted)) where
  pub lost_none : (rows : List RowKey) (batch : List (List ℕ × Option (List ℕ))) → length rows ≡ 0 → batch ≡ [] → batch ≡ spell (lost_changes c m es (map (λ row. row.0) rows))
  lost_none [] batch none empty = empty
  lost_none (r ∷ rows) batch none empty = absurd (omega (arith, none))

  pub lost_some : (rows : List RowKey) (batch : List (List ℕ × Option (List ℕ))) → (length rows ≡ 0 → ⊥) → batch ≡ spell (all_untidying (at c) m.indexes es) → batch ≡ spell (lost_changes c m es (map (λ row. row.0) rows))
  lost_some [] batch some noted = absurd (some refl)
  lost_some (r ∷ rows) batch some noted = noted

-- what was put is no heavier where that is nothing
pub none_light : (c : Content) (batch : List (List ℕ × Option (List ℕ))) → batch ≡ [] → weight (after batch c) ≤ weight c
none_light c batch empty = subst (λ (ws : List (List ℕ × Option (List ℕ))). weight (after ws c) ≤ weight c) (sym empty) (omega arith)

pub none_shaped : (batch : List (List ℕ × Option (List ℕ))) → batch ≡ [] → AreStoreChanges batch
none_shaped batch empty = subst AreStoreChanges (sym empty) tt

pub notes_shaped : (batch : List (List ℕ × Option (List ℕ))) → AreShaped HasIndexValue batch → AreStoreChanges batch
notes_shaped batch are = are_shaped_weaker HasIndexValue HasStoreValue (λ k value has. inr (inl has)) batch are

-- what was noted of the indexes on a table is of these, and so is that of those that look at some columns
module _ (m : StoreState) (t : List ℕ) where
  pub noted_are : (es : List (List ℕ × Noted)) → es ≡ noted_on m.indexes t → AreNotedOf m.indexes es
  noted_are es is = subst (AreNotedOf m.indexes) (sym is) (noted_are_of m.indexes (names_on m.indexes t))

  pub set_are : (places : List ℕ) (es : List (List ℕ × Noted)) → es ≡ noted_set places (noted_on m.indexes t) → AreNotedOf m.indexes es
  set_are places es is = subst (AreNotedOf m.indexes) (sym (is ∙ noted_on_columns places m.indexes t)) (noted_are_of m.indexes (names_set places m.indexes t))

module _ (c : Content) (m : StoreState) (t : List ℕ) (stands : StandsForState c m) where
  pub holds_indexes : HoldsIndexes c m.tables m.indexes
  holds_indexes = record { only = stands.only; tables = stands.tables; hold = indexes_hold c m stands }

  -- the content holds what was noted of the indexes on a table, and of those that look at some columns
  pub on_held : (es : List (List ℕ × Noted)) → es ≡ noted_on m.indexes t → AreHeld c es
  on_held es is = subst (AreHeld c) (sym is) (noted_held c m.tables m.indexes holds_indexes (names_on m.indexes t))

  pub set_held : (places : List ℕ) (es : List (List ℕ × Noted)) → es ≡ noted_set places (noted_on m.indexes t) → AreHeld c es
  set_held places es is = subst (AreHeld c) (sym is) (some_held c (λ e. noted_looks_any places e.1) (noted_on m.indexes t) (on_held (noted_on m.indexes t) refl))

  module _ (shown found : List (List ℕ × IndexHead)) (same : shown ≡ found) (are : AreIndexesOf (at c) t found) where
    pub found_heads : shown ≡ heads_on m.indexes t
    found_heads = same ∙ indexes_of_read (at c) (store_heads m.indexes) (heads_stand (at c) m.tables m.indexes stands.state.tables stands.state.indexes stands.indexes) t found are

    pub heads_found : (x : Table) (columns : List Column) → get m.tables t ≡ Some x → x.columns ≡ columns → AreHeadsOf m.tables m.indexes columns shown
    heads_found x columns here is =
        subst (λ (cs : List Column). AreHeadsOf m.tables m.indexes cs shown) is
        (subst (AreHeadsOf m.tables m.indexes x.columns) (sym found_heads) (heads_are m.tables m.indexes t x here (heads_on m.indexes t) (heads_each t (store_heads m.indexes))))

-- ---- texts that can be read

short_one : (v : Value) → is_short_value v ≡ true → IsShortOrNone (as_text v)
short_one (NumberValue n) h = tt
short_one (TextValue text) h = leb-true (length text) (2 ^ 19) h

short_in : (vs : List Value) → list_all is_short_value vs ≡ true → (place : ℕ) → IsShortOrNone (text_in vs place)
short_in [] h place = tt
short_in (v ∷ vs) h zero = short_one v (and_parts (is_short_value v) (list_all is_short_value vs) h).0
short_in (v ∷ vs) h (suc place) = short_in vs (and_parts (is_short_value v) (list_all is_short_value vs) h).1 place

in_column : (vs : List Value) → ((place : ℕ) → IsShortOrNone (text_in vs place)) → HasShortTexts vs
in_column vs short zero = tt
in_column vs short (suc place) = short place

pub tested_short : (vs : List Value) → list_all is_short_value vs ≡ true → HasShortTexts vs
tested_short vs h = in_column vs (short_in vs h)

one_short : (v : Value) → IsShortOrNone (as_text v) → is_short_value v ≡ true
one_short (NumberValue n) h = refl
one_short (TextValue text) h = le-leb (length text) (2 ^ 19) h

each_short : (vs : List Value) → ((place : ℕ) → IsShortOrNone (text_in vs place)) → list_all is_short_value vs ≡ true
each_short [] short = refl
each_short (v ∷ vs) short = and_from (is_short_value v) (list_all is_short_value vs) (one_short v (short zero)) (each_short vs (λ place. short (suc place)))

pub short_passes : (vs : List Value) → HasShortTexts vs → list_all is_short_value vs ≡ true
short_passes vs short = each_short vs (λ place. short (suc place))

pub none_short : (vs : List Value) → vs ≡ [] → HasShortTexts vs
none_short vs is = subst HasShortTexts (sym is) (in_column [] (λ place. tt))

-- the texts of a row of a table
pub row_short : (ts : Tables) (t : List ℕ) (x : Table) (r : ℤ) (vs : List Value) → AreTables ts → get ts t ≡ Some x → get x.rows r ≡ Some vs → HasShortTexts vs
row_short ts t x r vs are here row column = text_is_short x r vs column (are.each t x here) row

-- ---- the values of a row, where they matter

module _ (m : StoreState) (t : List ℕ) (x : Table) (r : ℤ) (here : get m.tables t ≡ Some x) (there : is_some (get x.rows r) ≡ true) where
  pub row_here : row_at m.tables t r ≡ get x.rows r
  row_here = ap (λ (o : Option Table). row_in o r) here

  pub is_there : is_some (row_at m.tables t r) ≡ true
  is_there = ap is_some row_here ∙ there

  -- what was read is what the row has
  pub row_read : (matter : Bool) (shown values : List Value) → shown ≡ values → (matter ≡ true → (vs : List Value) → get x.rows r ≡ Some vs → values ≡ vs) → matter ≡ true → get x.rows r ≡ Some shown
  row_read matter shown values same read h = let row = some_value (get x.rows r) there in row.1 ∙ ap Some (sym (same ∙ read h row.0 row.1))

pub shown_short : (shown values : List Value) → shown ≡ values → HasShortTexts values → HasShortTexts shown
shown_short shown values same short = subst HasShortTexts (sym same) short

-- ---- values that are new

kept_short : (v : Operand) → IsShortValue v → IsShortOrNone (as_text (kept_value v))
kept_short (Text text) short = short
kept_short (Number (Fits n)) short = tt
kept_short (Number Beyond) short = tt

kept_in : (vs : List Operand) → All IsShortValue vs → (place : ℕ) → IsShortOrNone (text_in (map kept_value vs) place)
kept_in [] all place = tt
kept_in (v ∷ vs) all zero = kept_short v (All-head IsShortValue v vs all)
kept_in (v ∷ vs) all (suc place) = kept_in vs (All-tail IsShortValue v vs all) place

pub new_short : (vs : List Operand) → All IsShortValue vs → HasShortTexts (map kept_value vs)
new_short vs all = in_column (map kept_value vs) (kept_in vs all)

module _ (assigns : List Assign) (all : All IsShortAssign assigns) where
  -- what is set in a column is short
  set_short : (name : List ℕ) (left : List Assign) → All IsShortAssign left → (v : Value) → IsShortOrNone (as_text v) → IsShortOrNone (as_text (value_after (set_in left name) v))
  set_short name [] each v short = short
  set_short name (a ∷ left) each v short = go (same_list name a.column) (set_short name left (All-tail IsShortAssign a left each) v short)
    where
      go : (b : Bool) → IsShortOrNone (as_text (value_after (set_in left name) v)) → IsShortOrNone (as_text (value_after (cond b (Some a.value) (set_in left name)) v))
      go true rest = kept_short a.value (All-head IsShortAssign a left each)
      go false rest = rest

  updated_in : (cs : List Column) (vs : List Value) → ((place : ℕ) → IsShortOrNone (text_in vs place)) → (place : ℕ) → IsShortOrNone (text_in (updated_values cs assigns vs) place)
  updated_in [] vs short place = tt
  updated_in (c ∷ cs) [] short place = tt
  updated_in (c ∷ cs) (v ∷ vs) short zero = set_short c.name assigns all v (short zero)
  updated_in (c ∷ cs) (v ∷ vs) short (suc place) = updated_in cs vs (λ p. short (suc p)) place

  pub updated_short : (cs : List Column) (vs : List Value) → HasShortTexts vs → HasShortTexts (updated_values cs assigns vs)
  updated_short cs vs short = in_column (updated_values cs assigns vs) (updated_in cs vs (λ place. short (suc place)))

-- ---- the indexes that look at columns that are set

module _ (places : List ℕ) where
  abbrev pub looks : TableIndex → Bool
  looks x = noted_looks_any places (noted_by x.noting)

  kept_noted : (xs : List TableIndex) → noted_indexes (filter looks xs) ≡ noted_set places (noted_indexes xs)
  kept_noted [] = refl
  kept_noted (x ∷ xs) = go (looks x) (kept_noted xs)
    where
      go : (b : Bool) → noted_indexes (filter looks xs) ≡ noted_set places (noted_indexes xs) → noted_indexes (cond b (x ∷ filter looks xs) (filter looks xs)) ≡ cond b (noted_index x ∷ noted_set places (noted_indexes xs)) (noted_set places (noted_indexes xs))
      go true rest = ap (λ (es : List (List ℕ × Noted)). noted_index x ∷ es) rest
      go false rest = rest

  kept_tell : (xs : List TableIndex) → AllCanTell xs → AllCanTell (filter looks xs)
  kept_tell [] all = tt
  kept_tell (x ∷ xs) all = go (looks x) (kept_tell xs all.1)
    where
      go : (b : Bool) → AllCanTell (filter looks xs) → AllCanTell (cond b (x ∷ filter looks xs) (filter looks xs))
      go true rest = (all.0, rest)
      go false rest = rest

  pub set_kept : (old new : List TableIndex) → new ≡ filter looks old → noted_indexes new ≡ noted_set places (noted_indexes old)
  set_kept old new is = ap noted_indexes is ∙ kept_noted old

  pub set_tell : (old new : List TableIndex) → new ≡ filter looks old → AllCanTell old → AllCanTell new
  set_tell old new is all = subst AllCanTell (sym is) (kept_tell old all)
