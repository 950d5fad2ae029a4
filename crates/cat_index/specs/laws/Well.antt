-- Each entry that stands for a catalogue is well shaped: its own, and those of the rows of a table that keeps its rules.
use Rattle.std.specs.Prelude.{ℕ, ℤ, ◌≡◌, ◌+◌, ◌<◌, ◌≤◌, zero, suc, true, List, [], ◌∷◌, length, map, Option, Some, None, refl}
use Rattle.std.specs.List.{flat_map, list_all}
use Rattle.std.specs.FinMap.{get}
use Rattle.std.proofs.Common.{arith, sym, ap, subst}
use Rattle.std.proofs.lemmas.Bool.{and_parts}
use Rattle.ct_base.specs.Names.{IsName}
use Rattle.ct_base.specs.declared.lists.Value.{Value}
use Rattle.ct_base.specs.declared.lists.Value.TheVariants.{Number as NumberValue, Text as TextValue}
use Rattle.ct_keep.specs.Content.{IsEntry, value_limit}
use Rattle.ct_entry.specs.declared.kinds.Kind.TheVariants as kind
use Rattle.ct_entry.specs.Each.{is_any_of}
use Rattle.ct_entry.specs.Keys.{Key, key, bytes, IsPart, IsRow, IsToken}
use Rattle.ct_entry.specs.Lists.{EachIs}
use Rattle.ct_entry.specs.laws.Keys.{list_from_same}
use Rattle.tb_table.specs.declared.columns.Column.{Column}
use Rattle.tb_table.specs.declared.columns.Sort.{Sort}
use Rattle.tb_table.specs.declared.columns.Sort.TheVariants.{Number, Varchar2, Clob}
use Rattle.tb_table.specs.Tables.{Table, text_in_column}
use Rattle.tb_table.specs.Rules.{FitColumns, IsOfSort, IsTable, others}
use Rattle.tx_settings.specs.declared.preferences.Prefs.{Prefs}
use Rattle.tx_settings.specs.PrefsBytes.{IsPrefs}
use Rattle.tx_sets.specs.Sets.{sub_column_limit}
use Rattle.ix_kinds.specs.Rows.{value_at_place}
use Rattle.ix_kinds.specs.Indextypes.{IndexOf}
use Rattle.ix_kinds.specs.Standing.{no_place, index_entry}
use Rattle.cat_index.specs.declared.catalogues.Catalogue.{Catalogue}
use Rattle.cat_index.specs.Filings.{IsShortOrNone, at_place, fit_sub_index, is_just, text_words, value_bytes}
use Rattle.cat_index.specs.Catalogues.{CatalogueBody, filing, value_at}
use Rattle.cat_index.specs.Kind.{catalogue}
use Rattle.cat_index.specs.Rules.{IsCatalogue}
use Rattle.cat_index.specs.Shapes.{AreItems, AreSubValues, AreValues, HasCatalogueValue, IsFiling, IsItem}
use Rattle.cat_index.specs.Spelling.{IsSpellable}
use Rattle.cat_index.specs.Standing.{CatalogueStands}
use Rattle.cat_index.specs.laws.Filed.{is_of_row}
use Rattle.cat_index.specs.laws.Filings.{filing_fits, items_are_at, no_item, number_item, text_item, values_are, words_are_tokens}
use Rattle.cat_index.specs.laws.Kind.{entry_is}
use Rattle.cat_index.specs.laws.Limits.{each_fits, few_places, text_is_short}
use Rattle.cat_index.specs.laws.Shapes.{length-catalogue_bytes_le, word_entry}

-- ---- its own entry

abbrev pub entry_of : IndexOf CatalogueBody → Catalogue
entry_of x = record { target = record { table = x.table; column = x.column }; prefs = x.prefs; subs = x.body.names }

pub spellable : (x : IndexOf CatalogueBody) (t : Table) → IsName x.table → x.column < 256 → IsPrefs x.prefs → IsCatalogue t x → IsSpellable (entry_of x)
spellable x t name few prefs is = record { table = name; column = few; prefs = prefs; subs = is.asked.subs.few; named = is.asked.subs.named }

pub entry_well : (D : Type 0) (i : List ℕ) (x : IndexOf CatalogueBody) (t : Table) → IsName x.table → x.column < 256 → IsPrefs x.prefs → IsCatalogue t x
    → HasCatalogueValue (key kind.Indexes i []) (index_entry (catalogue {D = D}) x no_place) × (length (index_entry (catalogue {D = D}) x no_place) ≤ value_limit)
entry_well D i x t name few prefs is =
    let may = spellable x t name few prefs is in
    let long = length-catalogue_bytes_le (entry_of x) may in
    let same = entry_is D x in
    (record { catalogue = entry_of x; spellable = may; spelt = sym same }, omega (arith, long, ap length same))

-- ---- what rows have may be put

words_fit : (p : Prefs) (text : Option (List ℕ)) → IsPrefs p → IsShortOrNone text → EachIs IsToken (text_words p text)
words_fit p None are short = tt
words_fit p (Some text) are short = words_are_tokens p text are (omega (arith, short))

value_item : (s : Sort) (v : Value) → IsOfSort s v → IsItem (value_bytes (Some v))
value_item Number (NumberValue n) fits = number_item n fits
value_item Number (TextValue text) fits = absurd fits
value_item (Varchar2 size) (NumberValue n) fits = absurd fits
value_item (Varchar2 size) (TextValue text) fits = text_item text fits.1
value_item Clob (NumberValue n) fits = absurd fits
value_item Clob (TextValue text) fits = text_item text fits.1

item_at_place : (cs : List Column) (vs : List Value) (place : ℕ) → FitColumns cs vs → IsItem (value_bytes (value_at_place vs place))
item_at_place cs [] place fit = no_item
item_at_place [] (v ∷ vs) place fit = absurd fit
item_at_place (c ∷ cs) (v ∷ vs) zero fit = value_item c.sort v fit.0
item_at_place (c ∷ cs) (v ∷ vs) (suc place) fit = item_at_place cs vs place fit.1

module _ (cs : List Column) (r : ℤ) (vs : List Value) (row : IsRow r) (fit : FitColumns cs vs) where
  item_at : (place : ℕ) → IsItem (value_bytes (value_at r vs place))
  item_at zero = number_item r row
  item_at (suc place) = item_at_place cs vs place fit

  items_at : (places : List ℕ) → EachIs IsItem (map value_bytes (map (value_at r vs) places))
  items_at [] = tt
  items_at (p ∷ ps) = (item_at p, items_at ps)

  all_items : (places : List (List ℕ)) → list_all fit_sub_index places ≡ true → EachIs (AreItems sub_column_limit) (map (flat_map value_bytes) (map (map (value_at r vs)) places))
  all_items [] each = tt
  all_items (p ∷ ps) each =
      let both = and_parts (fit_sub_index p) (list_all fit_sub_index ps) each in
      (items_are_at (value_at r vs) p both.0 (items_at p), all_items ps both.1)

-- Each row of a table that keeps its rules has what calls accept.
pub filings_fit : (t : Table) (x : IndexOf CatalogueBody) → IsTable t → IsPrefs x.prefs → IsCatalogue t x → (r : ℤ) (vs : List Value) → get t.rows r ≡ Some vs → IsFiling (filing x r vs)
filings_fit t x is_t prefs is r vs here =
    let each = each_fits t.columns x.body.names x.body.places is.places is.asked.subs.few in
    let few = few_places t.columns x.body.names x.body.places is.places is.asked.subs.few in
    let words = words_fit x.prefs (text_in_column vs x.column) prefs (text_is_short t r vs x.column is_t here) in
    let values = all_items (others t.columns) r vs (is_t.keys r vs here) (is_t.rows r vs here) x.body.places each in
    filing_fits x.prefs (text_in_column vs x.column) (value_at r vs) x.body.places words (refl, values_are 1 (map (flat_map value_bytes) (map (map (value_at r vs)) x.body.places)) (omega arith) values) few

-- ---- the entries of rows

-- the values that stand in a sub-index are ones that it may have
values_of : (sub n m : ℕ) (vs : List (List ℕ)) (values : List ℕ) → sub ≡ n + m → AreValues n vs → is_just values (at_place m vs) ≡ true → AreSubValues sub values
values_of sub n m [] values is are h = cc
values_of sub n zero (v ∷ vs) values is are h =
    subst (λ (u : List ℕ). AreSubValues sub u) (sym (list_from_same values v h)) (subst (λ (s : ℕ). AreSubValues s v) (omega (arith, is)) are.0)
values_of sub n (suc m) (v ∷ vs) values is are h = values_of sub (n + 1) m vs values (omega (arith, is)) are.1 h

pub row_well : (f : Key → Option (List ℕ)) (i : List ℕ) (x : IndexOf CatalogueBody) (t : Table) → IsTable t → IsPrefs x.prefs → IsCatalogue t x → CatalogueStands f i x t → (part v : List ℕ) → IsPart kind.Catalogue part
    → f (key kind.Catalogue i part) ≡ Some v → HasCatalogueValue (key kind.Catalogue i part) v × (v ≡ [])
row_well f i x t is_t prefs is stands part v is_part has =
    let e = is_of_row f i x t stands part v is_part has in
    let w = filing x e.row e.vs in
    let fits = filings_fit t x is_t prefs is e.row e.vs e.here in
    let both = and_parts (is_any_of e.word w.words) (is_just e.values (at_place e.sub w.values)) e.has in
    let are = values_of e.sub 0 e.sub w.values e.values (omega arith) fits.values both.1 in
    ((record { sub = e.sub; word = e.word; values = e.values; row = e.row; few = e.few; token = e.token; are = are; is_row = e.is_row; spelt = e.spelt }, e.none), e.none)

-- the key of such an entry is no longer than a keeper takes
pub row_bounded : (i part v : List ℕ) → IsName i → HasCatalogueValue (key kind.Catalogue i part) v → IsEntry (bytes (key kind.Catalogue i part)) v
row_bounded i part v name has =
    let is = has.0 in
    subst (λ (e : List ℕ × List ℕ). IsEntry (bytes (key kind.Catalogue i e.0)) e.1) (λ j. (sym is.spelt j, sym has.1 j)) (word_entry i is.sub is.word is.values is.row name is.token is.are)
