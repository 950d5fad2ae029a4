-- The entries of a sub-index of a catalogue are the words of its table's rows.
use Rattle.std.proofs.Common.{ℕ, ℤ, ◌≡◌, ◌≤◌, ◌<◌, zero, suc, Bool, true, false, ◌&&◌, List, [], ◌∷◌, ◌++◌, length, map, Option, Some, None, refl, sym, ap, subst, ◌∙◌, arith, append_assoc, length-append}
use Rattle.std.specs.Prelude.{is_some, IsSome}
use Rattle.std.specs.List.{flat_map}
use Rattle.std.specs.Option.{option_and_then}
use Rattle.std.specs.Str.{IsUtf8}
use Rattle.std.specs.FinMap.{get}
use Rattle.std.proofs.lemmas.Bool.{and_parts}
use Rattle.std.proofs.lemmas.List.{length-map}
use Rattle.ct_base.specs.declared.lists.Value.{Value}
use Rattle.ct_base.specs.laws.Lists.{cons_parts}
use Rattle.ct_base.specs.laws.Options.{and_then_some}
use Rattle.ct_bytes.specs.RowKeys.{row_bytes}
use Rattle.ct_bytes.specs.laws.RowKeys.{length-row_bytes}
use Rattle.ct_keep.specs.Content.{Content}
use Rattle.ct_entry.specs.declared.kinds.Kind.TheVariants as kind
use Rattle.ct_entry.specs.Keys.{Key, key, at, bytes, counted_bytes, prefix_of, IsRow, IsPart, IsToken, IsKeyOfKind}
use Rattle.ct_entry.specs.Lists.{EachIs}
use Rattle.ct_entry.specs.Each.{is_any_of}
use Rattle.ct_entry.specs.laws.Keys.{key_from_bytes, list_from_same, list_same}
use Rattle.ct_entry.specs.laws.Parts.{counted_apart}
use Rattle.tb_table.specs.Tables.{Table, Tables, text_in_column}
use Rattle.tb_table.specs.Rules.{IsTable, others}
use Rattle.tx_settings.specs.declared.preferences.Prefs.{Prefs}
use Rattle.tx_settings.specs.PrefsBytes.{IsPrefs}
use Rattle.ix_kinds.specs.Rows.{table_at}
use Rattle.ix_kinds.specs.Indextypes.{IndexOf}
use Rattle.ix_kinds.specs.laws.Tables.{table_is}
use Rattle.ix_context.specs.Indexes.{texts_in}
use Rattle.ix_context.specs.Postings.{IsShortOrNone}
use Rattle.ix_context.specs.laws.Texts.{texts_short}
use Rattle.ix_context.specs.laws.Limits.{utf8_column}
use Rattle.cat_index.specs.Changes.{filed}
use Rattle.cat_index.specs.Filings.{text_words, is_filed, is_just, at_place, value_bytes}
use Rattle.cat_index.specs.Catalogues.{CatalogueBody, filing_of, filing_in, value_at}
use Rattle.cat_index.specs.laws.Filings.{words_are_tokens}
use Rattle.cat_walk.specs.Places.{has_place}
use Rattle.cat_search.specs.Meeting.{row_words}
use Rattle.cat_search.specs.Contents.{HoldsCatalogue}
use Rattle.cat_search.specs.SubIndexes.{or_empty, values_in, sub_place, HasSub}
use Rattle.cat_search.specs.Walking.{sub_stem, IsPlaceOf, AreWordsOfRows}
use Rattle.cat_search.proofs.Bools.{and_true}
use Rattle.cat_search.proofs.WordTexts.{word_texts}

-- ---- keys

-- the key of a word at a place of a sub-index
abbrev sub_key : List ℕ → ℕ → List ℕ → List ℕ → Key
sub_key i sub word place = key kind.Catalogue i (sub ∷ length word ∷ (word ++ place))

sub_bytes : (i : List ℕ) (sub : ℕ) (word place : List ℕ) → (sub_stem i sub ++ counted_bytes word) ++ place ≡ bytes (sub_key i sub word place)
sub_bytes i sub word place =
    append_assoc (sub_stem i sub) (counted_bytes word) place
    ∙ append_assoc (prefix_of kind.Catalogue i) (sub ∷ []) (counted_bytes word ++ place)

module _ (m : Content) (i : List ℕ) (sub : ℕ) where
  has_entry : (word place : List ℕ) → has_place m (sub_stem i sub) (counted_bytes word) place ≡ is_some (at m (sub_key i sub word place))
  has_entry word place = ap (λ (k : List ℕ). is_some (get m k)) (sub_bytes i sub word place)

-- ---- what a row has

some_filed : (b : Bool) → is_some (filed b) ≡ b
some_filed true = refl
some_filed false = refl

-- a place that a list has
at_place_some : (n : ℕ) (xs : List (List ℕ)) → n < length xs → is_some (at_place n xs) ≡ true
at_place_some n [] within = absurd (omega (arith, within))
at_place_some zero (x ∷ xs) within = refl
at_place_some (suc n) (x ∷ xs) within = at_place_some n xs (omega (arith, within))

-- no place is empty
pub some_place : (values : List ℕ) (r : ℤ) → 1 ≤ length (values ++ row_bytes r)
some_place values r =
    let eight = length-row_bytes r in
    let all = length-append values (row_bytes r) in
    omega (arith, all, eight)

module _ (x : IndexOf CatalogueBody) (r : ℤ) (sub : ℕ) (word : List ℕ) where
  -- the values that it has there
  values_there : (o : Option (List ℕ)) → is_some o ≡ true → is_just (or_empty o) o ≡ true
  values_there None h = cc
  values_there (Some values) h = list_same values

  -- in a sub-index: the words of its text, with these values
  filed_there : HasSub x sub → (o : Option (List Value))
      → is_filed (filing_of x r o) sub word (values_in sub (filing_of x r o)) ≡ is_any_of word (text_words x.prefs (option_and_then (λ vs. text_in_column vs x.column) o))
  filed_there has None = refl
  filed_there has (Some vs) =
      let values : List (List ℕ) = map (flat_map value_bytes) (map (map (value_at r vs)) x.body.places) in
      let count : length values ≡ length x.body.places = length-map (map (map (value_at r vs)) x.body.places) (flat_map value_bytes) ∙ length-map x.body.places (map (value_at r vs)) in
      ap (λ (b : Bool). is_any_of word (text_words x.prefs (text_in_column vs x.column)) && b) (values_there (at_place sub ([] ∷ values)) (at_place_some sub ([] ∷ values) (omega (arith, has, count))))
      ∙ and_true (is_any_of word (text_words x.prefs (text_in_column vs x.column)))

  -- it has an entry with no others
  no_others : (o : Option (List Value)) (values : List ℕ) → is_filed (filing_of x r o) sub word values ≡ true → values ≡ values_in sub (filing_of x r o)
  no_others None values h = cc
  no_others (Some vs) values h =
      go (at_place sub (filing_of x r (Some vs)).values) (and_parts (is_any_of word (text_words x.prefs (text_in_column vs x.column))) (is_just values (at_place sub (filing_of x r (Some vs)).values)) h).1
    where
      go : (o : Option (List ℕ)) → is_just values o ≡ true → values ≡ or_empty o
      go None h = cc
      go (Some v) h = list_from_same values v h

-- ---- the words of rows

tokens_of : (p : Prefs) → IsPrefs p → (o : Option (List ℕ)) → IsShortOrNone o → EachIs IsToken (text_words p o)
tokens_of p is None short = tt
tokens_of p is (Some text) short = words_are_tokens p text is (omega (arith, short))

texts_of : (p : Prefs) → IsPrefs p → (t : Table) → IsTable t → (column : ℕ) (r : ℤ) → (o : Option (List ℕ)) → texts_in t column r ≡ o → IsShortOrNone o → EachIs IsUtf8 (text_words p o)
texts_of p is t is_table column r None seen short = tt
texts_of p is t is_table column r (Some text) seen short =
    let row = and_then_some (λ vs. text_in_column vs column) (get t.rows r) text seen in
    word_texts p text is (omega (arith, short)) (utf8_column (others t.columns) row.0 column text (is_table.rows r row.0 row.1) row.2)

module _ (m : Content) (ts : Tables) (i : List ℕ) (x : IndexOf CatalogueBody) (holds : HoldsCatalogue m ts i x) where
  abbrev t : Table
  t = table_at ts x.table

  in_row : (sub : ℕ) → HasSub x sub → (r : ℤ) → IsRow r → (word : List ℕ) → has_place m (sub_stem i sub) (counted_bytes word) (sub_place t x sub r) ≡ is_any_of word (row_words t x r)
  in_row sub has r row word =
      has_entry m i sub word (sub_place t x sub r)
      ∙ ap is_some (holds.stands.rows r row sub word (values_in sub (filing_in x t r)))
      ∙ some_filed (is_filed (filing_in x t r) sub word (values_in sub (filing_in x t r)))
      ∙ filed_there x r sub word has (get t.rows r)

  row_place : (sub : ℕ) (word place : List ℕ) → has_place m (sub_stem i sub) (counted_bytes word) place ≡ true → IsPlaceOf (sub_place t x sub) place
  row_place sub word place h = by_key (holds.tables.only (bytes (sub_key i sub word place)) (there (at m (sub_key i sub word place)) (sym (has_entry m i sub word place) ∙ h)))
    where
      there : (o : Option (List ℕ)) → is_some o ≡ true → IsSome o
      there None e = cc
      there (Some v) e = refl

      by_part : IsPart kind.Catalogue (sub ∷ length word ∷ (word ++ place)) → IsPlaceOf (sub_place t x sub) place
      by_part is =
          let token = is.1.0 in
          let values = is.1.1 in
          let row = is.1.2.0 in
          let fits = is.1.2.3 in
          let a = cons_parts sub is.0 (length word ∷ (word ++ place)) (length token ∷ (token ++ (values ++ row_bytes row))) is.1.2.4 in
          let b = counted_apart word token place (values ++ row_bytes row) a.1 in
          let entry : is_some (at m (sub_key i sub word (values ++ row_bytes row))) ≡ true = ap (λ (p : List ℕ). is_some (at m (sub_key i sub word p))) (sym b.1) ∙ sym (has_entry m i sub word place) ∙ h in
          let filed_so : is_filed (filing_in x t row) sub word values ≡ true = sym (some_filed (is_filed (filing_in x t row) sub word values)) ∙ sym (ap is_some (holds.stands.rows row fits sub word values)) ∙ entry in
          let its = no_others x row sub word (get t.rows row) values filed_so in
          (row, fits, b.1 ∙ ap (λ (v : List ℕ). v ++ row_bytes row) its)

      by_key : (k : Key) × (bytes (sub_key i sub word place) ≡ bytes k) × IsKeyOfKind k → IsPlaceOf (sub_place t x sub) place
      by_key found = by_part (subst (λ (j : Key). IsPart j.kind j.part) (sym (key_from_bytes (sub_key i sub word place) found.0 found.1)) found.2.part)

  rules : IsTable t
  rules = table_is ts x.table holds.target.table holds.tables.rules holds.target.there

  pub words_of_rows : (sub : ℕ) → HasSub x sub → AreWordsOfRows m (sub_stem i sub) (sub_place t x sub) (row_words t x)
  words_of_rows sub has = record {
    rows = in_row sub has;
    only = row_place sub;
    some = λ r. some_place (values_in sub (filing_in x t r)) r;
    tokens = λ r row. tokens_of x.prefs holds.prefs (texts_in t x.column r) (texts_short t rules x.column r);
    texts = λ r row. texts_of x.prefs holds.prefs t rules x.column r (texts_in t x.column r) refl (texts_short t rules x.column r);
  }
