-- What a search finds: rows by their keys, each with its score, before the conditions of a statement and in the order of the keys.
use Rattle.std.specs.Prelude.{ℕ, ℤ, ◌≡◌, ◌≤◌, true, List, [], length, map, filter, Option, Some, None, Result, Vec, IfOk, refl}
use Rattle.std.specs.Option.{option_map}
use Rattle.std.specs.Ordering.{int_cmp}
use Rattle.std.specs.Str.{chars}
use Rattle.std.proofs.Common.{inl, inr, arith}
use Rattle.std.specs.declared.alloc.Global.{Global}
use Rattle.ct_base.specs.declared.numbers.RowKey.{RowKey}
use Rattle.ct_keep.specs.declared.keepers.KeepFault.{KeepFault}
use Rattle.ct_entry.specs.laws.Rows.{keys_rise_by}
use Rattle.st_parse.specs.declared.statements.Cond.{Cond}
use Rattle.tb_table.specs.declared.columns.Column.{Column}
use Rattle.tb_table.specs.Tables.{Table, Tables}
use Rattle.th_store.specs.Thesauri.{Thesauri}
use Rattle.q_tree.specs.declared.flats.Flat.{Flat}
use Rattle.q_tree.specs.ReducedQueries.{reduced_of}
use Rattle.ix_kinds.specs.Rows.{table_at}
use Rattle.ix_kinds.specs.Indextypes.{IndexOf, with_body}
use Rattle.ix_context.specs.Indexes.{ContextIndex}
use Rattle.cat_where.specs.declared.stages.Where.{Where}
use Rattle.cat_where.specs.Verdicts.{verdict as where_verdict}
use Rattle.cat_index.specs.Catalogues.{CatalogueBody}
use Rattle.rule_index.specs.RuleIndexes.{RuleIndex}
use Rattle.ix_indexes.specs.Indexes.{Body, Index, kinds}
use Rattle.ix_search.specs.Finding.{found}
use Rattle.ix_search.specs.declared.hits.Hit.{Hit}
use Rattle.ix_search.specs.Hits.{hit_rows}
use Rattle.db_cond.specs.Faults.{Refusal, refusal_line}
use Rattle.db_rows.specs.Meeting.{key_meets}
use Rattle.db_find.specs.declared.finding.Found.{Found}
use Rattle.db_find.specs.declared.finding.Found.TheVariants.{Refused, Rows}
use Rattle.db_find.specs.Querying.{Meaning, Finds, meaning_of, refusal_in}
use Rattle.db_find.specs.Searches.{Search, Catsearch, Contains, Matches, search_kind, threshold_of}
use Rattle.db_find.specs.Structured.{asked_where, nothing_asked, where_found}
use Rattle.db_find.specs.Catalogues.{catalogue_refusal, catalogue_rows, rows_meant, unscored}
use Rattle.db_find.specs.Matching.{rule_rows, rules_held}

-- ---- CONTAINS

-- what a query finds in an index with a score above a number; nothing without a number
abbrev pub found_by : Tables → IndexOf ContextIndex → Meaning → Option ℕ → List (ℤ × ℕ)
found_by ts x (Finds (Some q)) (Some n) = found (table_at ts x.table) x q n
found_by ts x meaning threshold = []

-- ---- each kind

-- by what the index is, which for CATSEARCH is a catalogue; a document is never refused by its words
abbrev pub refusal_of_kind : Tables → Thesauri → Index → Body → Search → Option Refusal
refusal_of_kind ts thesauri x body (Contains column query label above) = refusal_in (meaning_of x.prefs thesauri query)
refusal_of_kind ts thesauri x (inl c) (Catsearch column query structured) = None
refusal_of_kind ts thesauri x (inr (inl b)) (Catsearch column query structured) = catalogue_refusal ts (with_body x b) query structured
refusal_of_kind ts thesauri x (inr (inr b)) (Catsearch column query structured) = None
refusal_of_kind ts thesauri x body (Matches column document) = None

-- WHY A SEARCH IS REFUSED by its index, if it is, where these tables and thesauri are there
abbrev pub search_refusal : Tables → Thesauri → Index → Search → Option Refusal
search_refusal ts thesauri x s = refusal_of_kind ts thesauri x x.body s

-- an index of another kind than the one that answers it finds nothing
abbrev pub rows_in : Tables → Thesauri → Index → Body → Search → List (ℤ × ℕ)
rows_in ts thesauri x (inl c) (Contains column query label above) = found_by ts (with_body x c) (meaning_of x.prefs thesauri query) (threshold_of above)
rows_in ts thesauri x (inr (inl b)) (Catsearch column query structured) = catalogue_rows ts (with_body x b) query
rows_in ts thesauri x (inr (inr b)) (Matches column document) = rule_rows (with_body x b) document
rows_in ts thesauri x body s = []

-- THE ROWS THAT A SEARCH FINDS in its index, where these tables and thesauri are there: their keys with their scores, in the order of the keys
abbrev pub search_rows : Tables → Thesauri → Index → Search → List (ℤ × ℕ)
search_rows ts thesauri x s = rows_in ts thesauri x x.body s

-- the same where there may be no index: no refusal, and no rows
abbrev pub refused_by : Tables → Thesauri → Option Index → Search → Option Refusal
refused_by ts thesauri None s = None
refused_by ts thesauri (Some x) s = search_refusal ts thesauri x s

abbrev pub found_in : Tables → Thesauri → Option Index → Search → List (ℤ × ℕ)
found_in ts thesauri None s = []
found_in ts thesauri (Some x) s = search_rows ts thesauri x s

-- ---- as code holds it

-- The index is of the kind that answers the search, and on a table with these columns.
pub record Answers (ts : Tables) (x : Index) (columns : List Column) (s : Search) : Type 0 where
  pub kind : kinds.kind x.body ≡ search_kind s
  pub table : (table_at ts x.table).columns ≡ columns

-- These are enough of the rows that a search finds in a table, for a caller that asks of each whether it meets the conditions: those that do are the same of both,
-- and these are no more. So an index that knows the values of rows needn't hand out those that fail. They are in the order of their keys, each once.
pub record AreEnough (t : Table) (conds : List Cond) (rows enough : List (ℤ × ℕ)) : Type 0 where
  pub met : filter (λ h. key_meets t conds h.0) enough ≡ filter (λ h. key_meets t conds h.0) rows
  pub few : length enough ≤ length rows
  pub rise : keys_rise_by int_cmp (map (λ h. h.0) enough) ≡ true

-- it gives the line of the refusal, where there is one, and else what is asked of the rows of this table, and as many of these as that needs
abbrev pub GivesFound : Option Refusal → Table → List (ℤ × ℕ) → Where → Found → Type 0
GivesFound refusal t rows w (Refused line) = (r : Refusal) × ((refusal ≡ Some r) × (line.items ≡ refusal_line r))
GivesFound refusal t rows w (Rows hits asked) = (refusal ≡ None) × ((asked ≡ w) × AreEnough t w.conds rows (hit_rows hits.items))

-- a call that didn't fail gave the rows of an index to which a query gives a score above a number
abbrev pub FindsAbove : Tables → IndexOf ContextIndex → Flat → ℕ → Result (Vec Hit Global) KeepFault → Type 0
FindsAbove ts x flat above result = IfOk result (λ hits. hit_rows hits.items ≡ found (table_at ts x.table) x (reduced_of flat) above)

-- a call that didn't fail gave what an index finds by what a query text means, with a score above a number
abbrev pub FindsByMeaning : Tables → IndexOf ContextIndex → Meaning → Option ℕ → Result Found KeepFault → Type 0
FindsByMeaning ts x meaning above result = IfOk result (GivesFound (refusal_in meaning) (table_at ts x.table) (found_by ts x meaning above) nothing_asked)

-- the rows that a catalogue finds by a query as code holds it, none with a score
abbrev pub meant_unscored : Tables → IndexOf CatalogueBody → Option Flat → List (ℤ × ℕ)
meant_unscored ts x flat = map unscored (rows_meant (table_at ts x.table) x (Finds (option_map reduced_of flat)))

-- a call that didn't fail gave as many of the rows that a catalogue finds by a query, as code holds it, as conditions need
abbrev pub FindsMeant : Tables → IndexOf CatalogueBody → Option Flat → List Cond → Result (Vec RowKey Global) KeepFault → Type 0
FindsMeant ts x flat conds result =
    IfOk result (λ rows. AreEnough (table_at ts x.table) conds (meant_unscored ts x flat) (map (λ r. unscored r.0) rows.items))

-- these are as many of them as what is asked of them beside needs, none with a score, and this is that
abbrev pub GivesMeant : Tables → IndexOf CatalogueBody → Option Flat → Where → Found → Type 0
GivesMeant ts x flat w (Refused line) = ⊥
GivesMeant ts x flat w (Rows hits asked) = (asked ≡ w) × AreEnough (table_at ts x.table) w.conds (meant_unscored ts x flat) (hit_rows hits.items)

-- a call that didn't fail gave what a catalogue finds by a query text and a structured query
abbrev pub FindsByTexts : Tables → IndexOf CatalogueBody → List ℕ → List ℕ → Result Found KeepFault → Type 0
FindsByTexts ts x query structured result =
    IfOk result (GivesFound (catalogue_refusal ts x query structured) (table_at ts x.table) (catalogue_rows ts x query) (where_found (where_verdict (chars structured))))

-- a call that didn't fail gave the rules of an index that hold of a document, in the order of their keys
abbrev pub GivesHeld : RuleIndex → List ℕ → Vec RowKey Global → Type 0
GivesHeld x text rows = map (λ (r : RowKey). r.0) rows.items ≡ rules_held x text

-- a call that didn't fail gave what a rule index finds by a document
abbrev pub FindsByDocument : Tables → RuleIndex → List ℕ → Result Found KeepFault → Type 0
FindsByDocument ts x text result = IfOk result (GivesFound None (table_at ts x.table) (rule_rows x text) nothing_asked)

-- a call that didn't fail gave what a search finds in its index
abbrev pub FindsBySearch : Tables → Thesauri → Index → Search → Result Found KeepFault → Type 0
FindsBySearch ts thesauri x search result = IfOk result (GivesFound (search_refusal ts thesauri x search) (table_at ts x.table) (search_rows ts thesauri x search) (asked_where search))

-- a call that didn't fail gave what an index finds by a query with a score above a number
abbrev pub FindsBy : Tables → IndexOf ContextIndex → Option Flat → Option ℕ → Result (Vec Hit Global) KeepFault → Type 0
FindsBy ts x flat above result = IfOk result (λ found. hit_rows found.items ≡ found_by ts x (Finds (option_map reduced_of flat)) above)

-- computed examples: where nothing is found nothing is enough, and a query of stopwords alone finds nothing
nothing_is_enough : (t : Table) (conds : List Cond) → AreEnough t conds [] []
nothing_is_enough t conds = record { met = refl; few = omega arith; rise = refl }

nothing_is_found : (ts : Tables) (x : IndexOf ContextIndex) → found_by ts x (Finds None) (Some 0) ≡ []
nothing_is_found ts x = refl
