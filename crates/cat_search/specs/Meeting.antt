-- Which rows of a table meet a query: defined by the text of every row.
use Rattle.std.specs.Prelude.{ℕ, ℤ, pos, ◌≡◌, Bool, true, false, List, [], ◌∷◌, filter, Option, Some, None, codes, refl}
use Rattle.std.specs.Bool.{if◌then◌else◌}
use Rattle.std.specs.Str.{chars}
use Rattle.std.proofs.Common.{ap, ◌∙◌}
use lib.Utf8.{encode}
use Rattle.ucd_category.proofs.Computing.{ucd_category}
use Rattle.caseless.proofs.Computing.{caseless}
use Rattle.tx_chars.specs.Keys.{key_text}
use Rattle.tx_settings.specs.declared.preferences.Prefs.{Prefs}
use Rattle.tx_settings.specs.Attributes.{can_be_set}
use Rattle.tx_settings.specs.laws.Settable.{defaults_can_be_set}
use Rattle.tx_settings.specs.Defaults.{default_prefs}
use Rattle.tb_table.specs.Tables.{Table}
use Rattle.q_tree.specs.declared.queries.Op.TheVariants.{Not}
use Rattle.q_tree.specs.ReducedQueries.{Reduced, Both}
use Rattle.q_tree.specs.Soundness.{is_sound}
use Rattle.ix_kinds.specs.Rows.{row_keys_of}
use Rattle.ix_kinds.specs.Indextypes.{IndexOf}
use Rattle.ix_context.specs.Indexes.{texts_in}
use Rattle.ix_search.specs.Texts.{scanned_postings}
use Rattle.cat_index.specs.Filings.{text_words}
use Rattle.cat_index.specs.Catalogues.{CatalogueBody, docs_catalogue}
use Rattle.cat_search.specs.Queries.{holds, is_boolean, key_term, red_hat}

-- THE QUERY IS ONE FOR TEXTS that are read with these preferences: the preferences can be set, and it is sound, and has terms, AND, OR and NOT alone.
pub record IsQueryFor (p : Prefs) (q : Reduced) : Type 0 where
  pub set : can_be_set p.lexer ≡ true
  pub sound : is_sound q ≡ true
  pub boolean : is_boolean q ≡ true

-- ---- texts and rows

-- whether a text meets a query, by its words
abbrev pub meets : Prefs → Reduced → List ℕ → Bool
meets p q text = holds q (scanned_postings p text)

-- none does where there is no text
abbrev pub some_meets : Prefs → Reduced → Option (List ℕ) → Bool
some_meets p q None = false
some_meets p q (Some text) = meets p q text

abbrev pub row_meets : Table → IndexOf CatalogueBody → Reduced → ℤ → Bool
row_meets t x q r = some_meets x.prefs q (texts_in t x.column r)

-- the distinct words of a row in the main stream, which its entries in the plain sub-index have
abbrev pub row_words : Table → IndexOf CatalogueBody → ℤ → List (List ℕ)
row_words t x r = text_words x.prefs (texts_in t x.column r)

-- WHAT A QUERY FINDS: the rows of the table whose text in the column of the index meets it, in the order of their keys.
abbrev pub met_rows : Table → IndexOf CatalogueBody → Reduced → List ℤ
met_rows t x q = filter (row_meets t x q) (row_keys_of t)

-- ---- computed examples

-- the phrase `red hat` for texts that are read with the first preferences
a_query : IsQueryFor default_prefs red_hat
a_query = record { set = defaults_can_be_set; sound = refl; boolean = refl }

the_phrase : meets default_prefs red_hat (codes "A red hat") ≡ true
unfolding encode chars caseless ucd_category key_text
the_phrase = refl

no_phrase : meets default_prefs red_hat (codes "Red car, blue hat") ≡ false
unfolding encode chars caseless ucd_category key_text
no_phrase = refl

red_not_hat : meets default_prefs (Both Not (key_term (codes "red")) (key_term (codes "hat"))) (codes "red car") ≡ true
unfolding encode chars caseless ucd_category key_text
red_not_hat = refl

a_hat : meets default_prefs (Both Not (key_term (codes "red")) (key_term (codes "hat"))) (codes "hat, red") ≡ false
unfolding encode chars caseless ucd_category key_text
a_hat = refl

-- of three rows, of which the last has no text, the first meets the phrase
abbrev three : List ℤ
three = pos 1 ∷ pos 2 ∷ pos 3 ∷ []

-- a row before others, where its text meets the phrase
abbrev before : ℤ → Option (List ℕ) → List ℤ → List ℤ
before r text rows = if some_meets default_prefs red_hat text then r ∷ rows else rows

the_first : (t : Table) → row_keys_of t ≡ three → texts_in t 1 (pos 1) ≡ Some (codes "a red hat") → texts_in t 1 (pos 2) ≡ Some (codes "hat, red")
    → texts_in t 1 (pos 3) ≡ None → met_rows t docs_catalogue red_hat ≡ pos 1 ∷ []
unfolding encode chars caseless ucd_category key_text
the_first t keys one two none =
    ap (filter (row_meets t docs_catalogue red_hat)) keys
    ∙ ap (λ (o : Option (List ℕ)). before (pos 1) o (before (pos 2) (texts_in t 1 (pos 2)) (before (pos 3) (texts_in t 1 (pos 3)) []))) one
    ∙ ap (λ (o : Option (List ℕ)). pos 1 ∷ before (pos 2) o (before (pos 3) (texts_in t 1 (pos 3)) [])) two
    ∙ ap (λ (o : Option (List ℕ)). pos 1 ∷ before (pos 3) o []) none
