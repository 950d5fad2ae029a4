-- What CATSEARCH finds in a catalogue.
use Rattle.std.specs.Prelude.{ℕ, ℤ, ◌≡◌, true, List, [], map, Option, Some, None, IfSome, codes, refl}
use Rattle.std.specs.Option.{option_or}
use Rattle.std.specs.Str.{chars}
use lib.Utf8.{encode}
use Rattle.ucd_category.proofs.Computing.{ucd_category}
use Rattle.caseless.proofs.Computing.{caseless}
use Rattle.tx_chars.specs.Keys.{key_text}
use Rattle.tx_settings.specs.declared.preferences.Prefs.{Prefs}
use Rattle.tx_settings.specs.Defaults.{default_prefs}
use Rattle.tb_table.specs.Tables.{Table, Tables}
use Rattle.q_reduce.specs.Reducing.{reduced}
use Rattle.ix_kinds.specs.Rows.{table_at}
use Rattle.ix_kinds.specs.Indextypes.{IndexOf}
use Rattle.cat_query.specs.Verdicts.{Verdict, TooLarge, Found, Fault, verdict}
use Rattle.cat_where.specs.Verdicts.{verdict as where_verdict}
use Rattle.cat_index.specs.Catalogues.{CatalogueBody}
use Rattle.cat_search.specs.Queries.{is_boolean, key_term, red_hat}
use Rattle.cat_search.specs.Meeting.{met_rows}
use Rattle.cat_search.specs.Looking.{slot_rows}
use Rattle.db_cond.specs.Faults.{Refusal, QuerySyntax, QueryTooLarge}
use Rattle.db_find.specs.declared.querying.Meaning.{Meaning as Held}
use Rattle.db_find.specs.declared.querying.Meaning.TheVariants.{Refused, Finds as FindsQuery}
use Rattle.q_tree.specs.declared.flats.Flat.{Flat}
use Rattle.q_tree.specs.ReducedQueries.{reduced_of}
use Rattle.db_find.specs.Querying.{Meaning, Refuses, Finds, reduction_context, refusal_in}
use Rattle.db_find.specs.Structured.{structured_refusal}

-- ---- the query text

-- A query has words, AND, OR and NOT alone, and nothing of that is refused where it is reduced.
abbrev pub verdict_meaning : Prefs → Verdict → Meaning
verdict_meaning p TooLarge = Refuses QueryTooLarge
verdict_meaning p (Fault place) = Refuses (QuerySyntax place)
verdict_meaning p (Found t) = Finds (reduced (reduction_context p []) t)

-- WHAT A QUERY TEXT OF CATSEARCH MEANS to an index with these preferences
abbrev pub catsearch_meaning : Prefs → List ℕ → Meaning
catsearch_meaning p text = verdict_meaning p (verdict (chars text))

-- ---- refusals

-- WHY A CATALOGUE REFUSES A SEARCH by a query text and a structured query, if it does: the query text comes first
abbrev pub catalogue_refusal : Tables → IndexOf CatalogueBody → List ℕ → List ℕ → Option Refusal
catalogue_refusal ts x query structured =
    option_or (refusal_in (catsearch_meaning x.prefs query)) (structured_refusal (table_at ts x.table).columns x.body.names (where_verdict (chars structured)))

-- ---- rows

-- a row without a score: no SCORE asks for one
abbrev pub unscored : ℤ → ℤ × ℕ
unscored r = (r, 0)

-- of all rows of the table those whose text meets the query, in the order of their keys; none where there is nothing to be met
abbrev pub rows_meant : Table → IndexOf CatalogueBody → Meaning → List ℤ
rows_meant t x (Finds (Some q)) = met_rows t x q
rows_meant t x (Finds None) = []
rows_meant t x (Refuses refusal) = []

-- WHAT A CATALOGUE FINDS by a query text
abbrev pub catalogue_rows : Tables → IndexOf CatalogueBody → List ℕ → List (ℤ × ℕ)
catalogue_rows ts x query = map unscored (rows_meant (table_at ts x.table) x (catsearch_meaning x.prefs query))

-- ---- texts

abbrev pub texts_meant : Table → IndexOf CatalogueBody → Meaning → ℕ
texts_meant t x (Finds (Some q)) = slot_rows t x q
texts_meant t x (Finds None) = 0
texts_meant t x (Refuses refusal) = 0

abbrev pub unless_refused : Option Refusal → ℕ → ℕ
unless_refused None n = n
unless_refused (Some refusal) n = 0

-- HOW MANY TEXTS A CATALOGUE READS at most to find them; none where it refuses the search
abbrev pub catalogue_texts : Tables → IndexOf CatalogueBody → List ℕ → List ℕ → ℕ
catalogue_texts ts x query structured = unless_refused (catalogue_refusal ts x query structured) (texts_meant (table_at ts x.table) x (catsearch_meaning x.prefs query))

-- ---- as code holds a query

abbrev pub IsPlainQuery : Option Flat → Type 0
IsPlainQuery flat = IfSome flat (λ q. is_boolean (reduced_of q) ≡ true)

abbrev pub IsPlainMeaning : Held → Type 0
IsPlainMeaning (Refused line) = Unit {0}
IsPlainMeaning (FindsQuery flat) = IsPlainQuery flat

-- ---- computed examples, by the default preferences

the_phrase : catsearch_meaning default_prefs (codes "\"Red hat\"") ≡ Finds (Some red_hat)
unfolding encode chars caseless ucd_category key_text
the_phrase = refl

no_text : catsearch_meaning default_prefs [] ≡ Refuses (QuerySyntax 1)
unfolding encode chars caseless ucd_category key_text
no_text = refl

nothing_found : (t : Table) (x : IndexOf CatalogueBody) → rows_meant t x (Finds None) ≡ []
nothing_found t x = refl

no_text_of_a_word : (t : Table) (x : IndexOf CatalogueBody) → texts_meant t x (Finds (Some (key_term (codes "red")))) ≡ 0
no_text_of_a_word t x = refl
