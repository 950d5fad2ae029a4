-- How much a search looks at.
use Rattle.std.specs.Prelude.{ℕ, pos, ◌≡◌, List, [], Option, Some, None, codes, refl}
use Rattle.std.specs.Option.{option_map}
use Rattle.std.specs.FinMap.{get}
use Rattle.std.proofs.Common.{inl, inr, ◌∙◌}
use Rattle.std.specs.Str.{chars}
use lib.Utf8.{encode}
use Rattle.caseless.proofs.Computing.{caseless}
use Rattle.ucd_category.proofs.Computing.{ucd_category}
use Rattle.tx_chars.specs.Keys.{key_text}
use Rattle.ct_keep.specs.Content.{Content}
use Rattle.ct_keep.specs.KeeperViews.{Counts, KeeperView}
use Rattle.ct_keep.specs.Looks.{no_looks, LooksAtMost}
use Rattle.tb_table.specs.declared.columns.Column.{Column}
use Rattle.tb_table.specs.Tables.{Tables}
use Rattle.tx_settings.specs.declared.preferences.Prefs.{Prefs}
use Rattle.rule_index.specs.Matching.{rule_looks}
use Rattle.ix_kinds.specs.Rows.{table_at}
use Rattle.ix_kinds.specs.Indextypes.{IndexOf, with_body}
use Rattle.q_tree.specs.declared.flats.Flat.{Flat}
use Rattle.q_tree.specs.ReducedQueries.{reduced_of}
use Rattle.th_store.specs.Thesauri.{Thesauri}
use Rattle.cat_index.specs.declared.catalogues.Catalogue.{Catalogue}
use Rattle.cat_index.specs.Catalogues.{CatalogueBody, docs_catalogue}
use Rattle.cat_search.specs.Contents.{IsIndexOf}
use Rattle.cat_search.specs.Looking.{ReadsTexts}
use Rattle.rule_index.specs.RuleIndexes.{RuleIndex}
use Rattle.ix_indexes.specs.Indexes.{Body, Index, as_catalogue, as_index, as_rules}
use Rattle.ix_context.specs.Indexes.{ContextIndex}
use Rattle.ix_search.specs.Finding.{key_query, three_rows}
use Rattle.ix_search.specs.Looking.{foxes, query_allowance, query_looks, query_of_fox}
use Rattle.st_parse.specs.declared.statements.Whole.{Whole}
use Rattle.st_parse.specs.declared.statements.Whole.TheVariants.{Fits}
use Rattle.db_state.specs.States.{StoreState, StandsForState, OverRules}
use Rattle.db_find.specs.Querying.{Meaning, Finds, meaning_of}
use Rattle.db_find.specs.Searches.{Search, Catsearch, Contains, Matches, threshold_of}
use Rattle.db_find.specs.Catalogues.{catalogue_texts, texts_meant}
use Rattle.db_find.specs.Matching.{four_rules, rules_filed}
use Rattle.db_find.specs.Finding.{Answers}

-- what a query text means is looked for in the index of this name, with a score above a number; nothing without a query or a number
abbrev pub meaning_looks : Content → List ℕ → Meaning → Option ℕ → Counts
meaning_looks c i (Finds (Some q)) (Some n) = query_looks c i q
meaning_looks c i meaning threshold = no_looks

-- by the query as code holds it, and by its text
abbrev pub flat_looks : Content → List ℕ → Option Flat → Option ℕ → Counts
flat_looks c i flat threshold = meaning_looks c i (Finds (option_map reduced_of flat)) threshold

abbrev pub text_looks : Content → Thesauri → List ℕ → Index → List ℕ → Whole → Counts
text_looks c thesauri i x query above = meaning_looks c i (meaning_of x.prefs thesauri query) (threshold_of above)

-- how many texts a CATSEARCH reads at most to find its rows, by what its index is
abbrev pub texts_of_kind : Tables → Index → Body → List ℕ → List ℕ → ℕ
texts_of_kind ts x (inl c) query structured = 0
texts_of_kind ts x (inr (inl b)) query structured = catalogue_texts ts (with_body x b) query structured
texts_of_kind ts x (inr (inr b)) query structured = 0

-- how many rules a MATCHES reads at most, by what its index is
abbrev pub rules_of_kind : Index → Body → List ℕ → ℕ
rules_of_kind x (inl c) document = 0
rules_of_kind x (inr (inl b)) document = 0
rules_of_kind x (inr (inr b)) document = rules_filed (with_body x b) document

-- HOW MANY TEXTS A SEARCH READS at most to find its rows, in the index that it needs, with its name: none where there is none, and CONTAINS and MATCHES none
abbrev pub texts_in_index : Tables → Option (List ℕ × Index) → Search → ℕ
texts_in_index ts named (Contains column query label above) = 0
texts_in_index ts None (Catsearch column query structured) = 0
texts_in_index ts (Some named) (Catsearch column query structured) = texts_of_kind ts named.1 named.1.body query structured
texts_in_index ts named (Matches column document) = 0

-- HOW MANY RULES A SEARCH READS at most, in the index that it needs, with its name; of CONTAINS and CATSEARCH nothing is said
abbrev pub rules_in_index : Option (List ℕ × Index) → Search → Option ℕ
rules_in_index named (Contains column query label above) = None
rules_in_index named (Catsearch column query structured) = None
rules_in_index None (Matches column document) = Some 0
rules_in_index (Some named) (Matches column document) = Some (rules_of_kind named.1 named.1.body document)

-- WHAT A SEARCH LOOKS AT in the index of this name, where these tables and thesauri are there
abbrev pub search_looks : Content → Tables → Thesauri → List ℕ → Index → Search → Counts
search_looks c ts thesauri i x (Contains column query label above) = text_looks c thesauri i x query above
search_looks c ts thesauri i x (Catsearch column query structured) = record no_looks { texts = texts_of_kind ts x x.body query structured }
search_looks c ts thesauri i x (Matches column document) = record no_looks { rules = rules_of_kind x x.body document }

-- in the index that it needs, with its name; nothing where there is none
abbrev pub looks_in : Content → Tables → Thesauri → Option (List ℕ × Index) → Search → Counts
looks_in c ts thesauri None s = no_looks
looks_in c ts thesauri (Some named) s = search_looks c ts thesauri named.0 named.1 s

-- A CALL LOOKED AT NO MORE THAN A QUERY TEXT DOES in the CONTEXT index of this name, with a score above a number.
abbrev pub LooksInContext : {K : Type 0} → (K → KeeperView) → K → K → List ℕ → List ℕ → Whole → Type 0
LooksInContext view old new i query above =
    (m : StoreState) (c : Content) (x : IndexOf ContextIndex) → (view old).content ≡ Some c → StandsForState c m → get m.indexes i ≡ Some (as_index x)
    → LooksAtMost view old new (text_looks c m.thesauri i (as_index x) query above)

-- Of CATSEARCH nothing is said of the rules that were handed out: rules stand behind the entries of catalogues, so that a look-up behind the last one of all
-- hands out the first rule. `new` is what had been looked up when the search was done.
abbrev pub leaving_rules : Search → Counts → Counts → Counts
leaving_rules (Contains column query label above) new most = most
leaving_rules (Catsearch column query structured) new most = record most { rules = new.rules }
leaving_rules (Matches column document) new most = most

-- A CALL LOOKED AT NO MORE THAN A SEARCH DOES in the index of this name, where that answers it on a table with these columns.
abbrev pub LooksInIndex : {K : Type 0} → (K → KeeperView) → K → K → List ℕ → List Column → Search → Type 0
LooksInIndex view old new i columns s =
    (m : StoreState) (c : Content) (x : Index) → (view old).content ≡ Some c → StandsForState c m → get m.indexes i ≡ Some x → Answers m.tables x columns s
    → LooksAtMost view old new (leaving_rules s (view new).counts (search_looks c m.tables m.thesauri i x s))

-- ---- of catalogues

-- This holds of the catalogue of this name, where there is one.
abbrev pub OverCatalogue : {K : Type 0} → (K → KeeperView) → K → List ℕ → (StoreState → IndexOf CatalogueBody → Type 0) → Type 0
OverCatalogue view old i holds = (m : StoreState) (c : Content) (x : IndexOf CatalogueBody) → (view old).content ≡ Some c → StandsForState c m → get m.indexes i ≡ Some (as_catalogue x) → holds m x

-- the same where it is this one as code holds it, with the columns of its sub-indexes
abbrev pub OverCatalogueOf : {K : Type 0} → (K → KeeperView) → K → List ℕ → Catalogue → (StoreState → IndexOf CatalogueBody → Type 0) → Type 0
OverCatalogueOf view old i catalogue holds = OverCatalogue view old i (λ m x. IsIndexOf catalogue x → x.body.names ≡ catalogue.subs → holds m x)

-- each of them where the table of the catalogue has these columns
abbrev pub OverColumns : {K : Type 0} → (K → KeeperView) → K → List ℕ → List Column → (Tables → IndexOf CatalogueBody → Type 0) → Type 0
OverColumns view old i columns holds = OverCatalogue view old i (λ m x. (table_at m.tables x.table).columns ≡ columns → holds m.tables x)

abbrev pub OverColumnsOf : {K : Type 0} → (K → KeeperView) → K → List ℕ → Catalogue → List Column → (Tables → IndexOf CatalogueBody → Type 0) → Type 0
OverColumnsOf view old i catalogue columns holds = OverCatalogueOf view old i catalogue (λ m x. (table_at m.tables x.table).columns ≡ columns → holds m.tables x)

-- no more texts were read than a query needs, and than a query text and a structured query do
abbrev pub ReadsMeant : {K : Type 0} → (K → KeeperView) → K → K → Option Flat → Tables → IndexOf CatalogueBody → Type 0
ReadsMeant view old new flat ts x = ReadsTexts (texts_meant (table_at ts x.table) x (Finds (option_map reduced_of flat))) (view old).counts (view new).counts

abbrev pub ReadsByTexts : {K : Type 0} → (K → KeeperView) → K → K → List ℕ → List ℕ → Tables → IndexOf CatalogueBody → Type 0
ReadsByTexts view old new query structured ts x = ReadsTexts (catalogue_texts ts x query structured) (view old).counts (view new).counts

-- ---- of rule indexes

-- This holds of the rule index of this name, where it reads texts by these preferences.
abbrev pub OverRulesBy : {K : Type 0} → (K → KeeperView) → K → List ℕ → Prefs → (Tables → RuleIndex → Type 0) → Type 0
OverRulesBy view old i p holds = OverRules view old i (λ m x. x.prefs ≡ p → holds m.tables x)

-- no more rules were read than are filed for a document, and no text and no row of postings
abbrev pub ReadsFiled : {K : Type 0} → (K → KeeperView) → K → K → List ℕ → RuleIndex → Type 0
ReadsFiled view old new document x = LooksAtMost view old new (rule_looks (rules_filed x document))

-- ---- by rows

-- how many rows of postings and of sections a query text may look up by what it means, with a score above a number
abbrev pub meaning_allowance : Content → List ℕ → Meaning → Option ℕ → ℕ
meaning_allowance c i (Finds (Some q)) (Some n) = query_allowance c i q
meaning_allowance c i meaning threshold = 0

-- HOW MANY ROWS OF POSTINGS A SEARCH MAY LOOK UP in the index of this name, where these thesauri are there
abbrev pub search_allowance : Content → Thesauri → List ℕ → Index → Search → ℕ
search_allowance c thesauri i x (Contains column query label above) = meaning_allowance c i (meaning_of x.prefs thesauri query) (threshold_of above)
search_allowance c thesauri i x (Catsearch column query structured) = 0
search_allowance c thesauri i x (Matches column document) = 0

-- in the index that it needs, with its name; none where there is none
abbrev pub allowance_in : Content → Thesauri → Option (List ℕ × Index) → Search → ℕ
allowance_in c thesauri None s = 0
allowance_in c thesauri (Some named) s = search_allowance c thesauri named.0 named.1 s

-- ---- computed examples: nothing is looked at for a query of stopwords alone

of_no_query : (c : Content) → meaning_looks c (codes "di") (Finds None) (Some 0) ≡ no_looks
of_no_query c = refl

no_text_where_it_is_refused : (ts : Tables) → texts_in_index ts (Some (codes "ci", as_catalogue docs_catalogue)) (Catsearch (codes "body") [] []) ≡ 0
unfolding encode chars caseless ucd_category key_text
no_text_where_it_is_refused ts = refl

no_rule_of_a_catalogue : rules_in_index (Some (codes "ci", as_catalogue docs_catalogue)) (Matches (codes "body") (codes "fox")) ≡ Some 0
no_rule_of_a_catalogue = refl

of_its_rules : rules_in_index (Some (codes "ri", as_rules four_rules)) (Matches (codes "q") (codes "fox")) ≡ Some (rules_filed four_rules (codes "fox"))
of_its_rules = refl

-- the query text `fox` means the key `fox`, which has three rows in the second content
rows_of_a_word : (c : Content) (thesauri : Thesauri) → search_allowance c thesauri (codes "di") (as_index three_rows) (Contains (codes "body") (codes "fox") None (Fits (pos 0))) ≡ query_allowance c (codes "di") (key_query (codes "fox"))
unfolding encode chars caseless ucd_category key_text
rows_of_a_word c thesauri = refl

pub four_rows_of_fox : (thesauri : Thesauri) → search_allowance foxes thesauri (codes "di") (as_index three_rows) (Contains (codes "body") (codes "fox") None (Fits (pos 0))) ≡ 4
four_rows_of_fox thesauri = rows_of_a_word foxes thesauri ∙ query_of_fox
