-- What the functions of `src/laws.rt` promise.
use Rattle.std.specs.Prelude.{ℕ, ℤ, ◌≡◌, ◌↔◌, ◌≤◌, ◌^◌, true, false, List, Contains, length, Some, codes, refl}
use Rattle.std.specs.Ordering.{int_cmp}
use Rattle.tx_settings.specs.declared.preferences.Prefs.{Prefs}
use Rattle.tx_settings.specs.PrefsBytes.{IsPrefs}
use Rattle.ct_entry.specs.laws.Rows.{keys_rise_by}
use Rattle.tb_table.specs.Tables.{Table}
use Rattle.q_tree.specs.ReducedQueries.{Reduced}
use Rattle.q_tree.specs.Soundness.{is_sound}
use Rattle.ix_kinds.specs.Indextypes.{IndexOf}
use Rattle.ix_context.specs.Indexes.{texts_in}
use Rattle.cat_index.specs.Filings.{text_words}
use Rattle.cat_index.specs.Catalogues.{CatalogueBody}
use Rattle.cat_search.specs.Queries.{is_boolean, key_term, red_hat}
use Rattle.cat_search.specs.Meeting.{meets, met_rows}
use Rattle.cat_search.specs.Words.{is_exact, may_meet}
use Rattle.cat_search.specs.Looking.{has_slot_key, slot_key_rows}

-- A text that meets a query has words that may meet it.
abbrev pub WordsRuleOut : Type 0
WordsRuleOut =
    (p : Prefs) (text : List ℕ) (q : Reduced) → IsPrefs p → length text ≤ 2 ^ 24 → is_boolean q ≡ true → is_sound q ≡ true → meets p q text ≡ true → may_meet q (text_words p (Some text)) ≡ true

-- Where each phrase of the query has one slot, its words tell whether it does.
abbrev pub WordsTell : Type 0
WordsTell =
    (p : Prefs) (text : List ℕ) (q : Reduced) → IsPrefs p → length text ≤ 2 ^ 24 → is_boolean q ≡ true → is_sound q ≡ true → is_exact q ≡ true → meets p q text ≡ may_meet q (text_words p (Some text))

-- The index sees a text of the row in its table, and the text meets the query.
pub record IsMet (t : Table) (x : IndexOf CatalogueBody) (q : Reduced) (r : ℤ) : Type 0 where
  pub text : List ℕ
  pub seen : texts_in t x.column r ≡ Some text
  pub meets : meets x.prefs q text ≡ true

-- Exactly the rows that are so are found.
abbrev pub MetRowsAreExact : Type 0
MetRowsAreExact = (t : Table) (x : IndexOf CatalogueBody) (q : Reduced) (r : ℤ) → Contains (met_rows t x q) r ↔ IsMet t x q r

-- Their keys strictly rise, so none is found twice.
abbrev pub MetRowsRise : Type 0
MetRowsRise = (t : Table) (x : IndexOf CatalogueBody) (q : Reduced) → keys_rise_by int_cmp (met_rows t x q) ≡ true

-- Each row that is found has a word that a slot of the query takes, and so no more are found than have one.
pub record HaveSlotWords (t : Table) (x : IndexOf CatalogueBody) (q : Reduced) : Type 0 where
  pub each : (r : ℤ) → Contains (met_rows t x q) r → has_slot_key t x q r ≡ true
  pub few : length (met_rows t x q) ≤ length (slot_key_rows t x q)

-- So it is where no text that the index sees is longer than a text of a table can be.
abbrev pub MetRowsHaveWords : Type 0
MetRowsHaveWords =
    (t : Table) (x : IndexOf CatalogueBody) (q : Reduced) → IsPrefs x.prefs → ((r : ℤ) (text : List ℕ) → texts_in t x.column r ≡ Some text → length text ≤ 2 ^ 24) → is_boolean q ≡ true → is_sound q ≡ true
    → HaveSlotWords t x q

-- computed examples: the query of a word is sound, and its words tell; those of a phrase don't
a_word : is_sound (key_term (codes "red")) ≡ true
a_word = refl

a_phrase : is_exact red_hat ≡ false
a_phrase = refl
