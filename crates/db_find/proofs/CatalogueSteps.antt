-- What a catalogue finds, step by step, and what it reads for that.
use Rattle.std.proofs.Common.{◌≡◌, ℕ, ℤ, List, [], ◌∷◌, map, Option, Some, None, refl, sym, ap, subst, ◌∙◌, arith}
use Rattle.std.specs.Prelude.{IfOk, Result, Vec}
use Rattle.std.specs.declared.alloc.Global.{Global}
use Rattle.std.specs.Option.{option_map, option_or}
use Rattle.std.specs.Str.{chars}
use Rattle.std.proofs.lemmas.Result.{IfOk-weaker}
use Rattle.ct_base.specs.declared.numbers.RowKey.{RowKey}
use Rattle.ct_keep.specs.declared.keepers.KeepFault.{KeepFault}
use Rattle.ct_keep.specs.KeeperViews.{Counts}
use Rattle.ct_keep.specs.Looks.{no_looks, RisesBy}
use Rattle.tx_settings.specs.declared.preferences.Prefs.{Prefs}
use Rattle.st_parse.specs.declared.statements.Cond.{Cond}
use Rattle.tb_table.specs.declared.columns.Column.{Column}
use Rattle.tb_table.specs.Tables.{Tables}
use Rattle.q_tree.specs.declared.flats.Flat.{Flat}
use Rattle.q_tree.specs.ReducedQueries.{reduced_of}
use Rattle.ix_kinds.specs.Rows.{table_at}
use Rattle.ix_kinds.specs.Indextypes.{IndexOf}
use Rattle.ix_search.specs.Hits.{hit_rows}
use Rattle.cat_where.specs.declared.stages.Where.{Where}
use Rattle.cat_where.specs.Verdicts.{verdict as where_verdict}
use Rattle.cat_index.specs.Catalogues.{CatalogueBody}
use Rattle.cat_search.specs.Looking.{ReadsTexts}
use Rattle.db_cond.specs.Faults.{Refusal}
use Rattle.db_find.specs.declared.finding.Found.{Found}
use Rattle.db_find.specs.declared.finding.Found.TheVariants.{Refused as RefusedSearch, Rows}
use Rattle.db_find.specs.declared.querying.Meaning.{Meaning as Held}
use Rattle.db_find.specs.declared.querying.Meaning.TheVariants.{Refused as RefusedQuery, Finds as FindsQuery}
use Rattle.db_find.specs.declared.structured.Structured.{Structured}
use Rattle.db_find.specs.declared.structured.Structured.TheVariants.{Refused as RefusedAsked, Asks}
use Rattle.db_find.specs.Querying.{Meaning, Finds, Refuses, refusal_in}
use Rattle.db_find.specs.Meanings.{Means}
use Rattle.db_find.specs.Structured.{MeansStructured, structured_refusal, where_found}
use Rattle.db_find.specs.Catalogues.{catalogue_refusal, catalogue_rows, catalogue_texts, rows_meant, texts_meant, unless_refused, unscored, catsearch_meaning}
use Rattle.db_find.specs.Finding.{AreEnough, FindsByTexts, FindsMeant, GivesFound, GivesMeant, meant_unscored}
use Rattle.db_find.proofs.Enough.{all_are_enough}

-- ---- texts that are read

pub reads_fewer : (most : ℕ) (old new : Counts) → RisesBy no_looks old new → ReadsTexts most old new
reads_fewer most old new none = record { texts = omega (arith, none.texts); rows = omega (arith, none.rows) }

pub reads_behind : (most : ℕ) (old mid new : Counts) → RisesBy no_looks old mid → ReadsTexts most mid new → ReadsTexts most old new
reads_behind most old mid new none reads = record { texts = omega (arith, none.texts, reads.texts); rows = omega (arith, none.rows, reads.rows) }

-- ---- rows

-- as many of those that a query finds, as code holds it, as conditions need
pub met_by : (ts : Tables) (x : IndexOf CatalogueBody) (flat : Option Flat) (f : Flat) (conds : List Cond) (result : Result (Vec RowKey Global) KeepFault) → flat ≡ Some f → FindsMeant ts x (Some f) conds result → FindsMeant ts x flat conds result
met_by ts x flat f conds result is met = subst (λ (o : Option Flat). FindsMeant ts x o conds result) (sym is) met

pub no_query : (ts : Tables) (x : IndexOf CatalogueBody) (flat : Option Flat) (conds : List Cond) (rows : List RowKey) → flat ≡ None → rows ≡ []
    → AreEnough (table_at ts x.table) conds (meant_unscored ts x flat) (map (λ r. unscored r.0) rows)
no_query ts x flat conds rows is none =
    let t = table_at ts x.table in
    subst (λ (l : List RowKey). AreEnough t conds (meant_unscored ts x flat) (map (λ r. unscored r.0) l)) (sym none)
    (subst (λ (o : Option Flat). AreEnough t conds (meant_unscored ts x o) []) (sym is) (all_are_enough t conds [] [] refl refl))

abbrev flat_texts : Tables → IndexOf CatalogueBody → Option Flat → ℕ
flat_texts ts x flat = texts_meant (table_at ts x.table) x (Finds (option_map reduced_of flat))

pub read_by : (ts : Tables) (x : IndexOf CatalogueBody) (flat : Option Flat) (f : Flat) (old new : Counts) → flat ≡ Some f → ReadsTexts (flat_texts ts x (Some f)) old new → ReadsTexts (flat_texts ts x flat) old new
read_by ts x flat f old new is reads = subst (λ (o : Option Flat). ReadsTexts (flat_texts ts x o) old new) (sym is) reads

pub keys_unscored : (rows : List RowKey) → map (λ r. unscored r.0) rows ≡ map unscored (map (λ r. r.0) rows)
keys_unscored [] = refl
keys_unscored (r ∷ rows) = ap (λ l. unscored r.0 ∷ l) (keys_unscored rows)

-- ---- what a query text and a structured query come to

module _ (ts : Tables) (x : IndexOf CatalogueBody) (p : Prefs) (its_prefs : x.prefs ≡ p) (query structured : List ℕ) where
  abbrev its_refusal : Option Refusal
  its_refusal = structured_refusal (table_at ts x.table).columns x.body.names (where_verdict (chars structured))

  by_query : (meaning : Meaning) → catsearch_meaning p query ≡ meaning → catalogue_refusal ts x query structured ≡ option_or (refusal_in meaning) its_refusal
  by_query meaning is = ap (λ (q : Prefs). option_or (refusal_in (catsearch_meaning q query)) its_refusal) its_prefs ∙ ap (λ (w : Meaning). option_or (refusal_in w) its_refusal) is

  -- the query text is refused
  pub refused_query : (rows : List (ℤ × ℕ)) (w : Where) (held : Held) (line : Vec ℕ Global) → held ≡ RefusedQuery line → Means held (catsearch_meaning p query) → GivesFound (catalogue_refusal ts x query structured) (table_at ts x.table) rows w (RefusedSearch line)
  refused_query rows w held line is means =
      let told = subst (λ (h : Held). Means h (catsearch_meaning p query)) is means in
      (told.0, (by_query (Refuses told.0) told.1.0, told.1.1))

  module _ (columns : List Column) (subs : List (List (List ℕ))) (are : (table_at ts x.table).columns ≡ columns) (names : x.body.names ≡ subs)
      (held : Held) (flat : Option Flat) (finds : held ≡ FindsQuery flat) (means : Means held (catsearch_meaning p query)) where
    meant : catsearch_meaning p query ≡ Finds (option_map reduced_of flat)
    meant = subst (λ (h : Held). Means h (catsearch_meaning p query)) finds means

    -- the structured query is refused, or it isn't
    by_structured : (o : Option Refusal) → structured_refusal columns subs (where_verdict (chars structured)) ≡ o → catalogue_refusal ts x query structured ≡ o
    by_structured o is = by_query (Finds (option_map reduced_of flat)) meant ∙ (λ j. structured_refusal (are j) (names j) (where_verdict (chars structured))) ∙ is

    pub refused_structured : (rows : List (ℤ × ℕ)) (w : Where) (asked : Structured) (line : Vec ℕ Global) → asked ≡ RefusedAsked line → MeansStructured asked (structured_refusal columns subs (where_verdict (chars structured))) w
        → GivesFound (catalogue_refusal ts x query structured) (table_at ts x.table) rows w (RefusedSearch line)
    refused_structured rows w asked line is told =
        let why = subst (λ (a : Structured). MeansStructured a (structured_refusal columns subs (where_verdict (chars structured))) w) is told in
        (why.0, (by_structured (Some why.0) why.1.0, why.1.1))

    module _ (asked : Structured) (w : Where) (asks : asked ≡ Asks w) (told : MeansStructured asked (structured_refusal columns subs (where_verdict (chars structured))) (where_found (where_verdict (chars structured)))) where
      its_where : (structured_refusal columns subs (where_verdict (chars structured)) ≡ None) × (w ≡ where_found (where_verdict (chars structured)))
      its_where = subst (λ (a : Structured). MeansStructured a (structured_refusal columns subs (where_verdict (chars structured))) (where_found (where_verdict (chars structured)))) asks told

      passes : catalogue_refusal ts x query structured ≡ None
      passes = by_structured None its_where.0

      its_meaning : catsearch_meaning x.prefs query ≡ Finds (option_map reduced_of flat)
      its_meaning = ap (λ (q : Prefs). catsearch_meaning q query) its_prefs ∙ meant

      -- the texts that are read are those that the query needs
      pub reads_meant : (old new : Counts) → ReadsTexts (texts_meant (table_at ts x.table) x (Finds (option_map reduced_of flat))) old new → ReadsTexts (catalogue_texts ts x query structured) old new
      reads_meant old new reads =
          let same : catalogue_texts ts x query structured ≡ texts_meant (table_at ts x.table) x (Finds (option_map reduced_of flat)) =
          ap (λ (o : Option Refusal). unless_refused o (texts_meant (table_at ts x.table) x (catsearch_meaning x.prefs query))) passes ∙ ap (texts_meant (table_at ts x.table) x) its_meaning in
          subst (λ (n : ℕ). ReadsTexts n old new) (sym same) reads

      -- the rows are as many as that needs
      gives : (found : Found) → GivesMeant ts x flat w found → GivesFound (catalogue_refusal ts x query structured) (table_at ts x.table) (catalogue_rows ts x query) (where_found (where_verdict (chars structured))) found
      gives (RefusedSearch line) given = absurd given
      gives (Rows hits asked) given =
          let t = table_at ts x.table in
          let all : meant_unscored ts x flat ≡ catalogue_rows ts x query = ap (λ (m : Meaning). map unscored (rows_meant t x m)) (sym its_meaning) in (
            passes,
            (
              given.0 ∙ its_where.1,
              subst (λ (v : Where). AreEnough t v.conds (catalogue_rows ts x query) (hit_rows hits.items)) its_where.1
                  (subst (λ (l : List (ℤ × ℕ)). AreEnough t w.conds l (hit_rows hits.items)) all given.1),
            ),
          )

      pub gives_meant : (result : Result Found KeepFault) → IfOk result (GivesMeant ts x flat w) → FindsByTexts ts x query structured result
      gives_meant result given = IfOk-weaker result _ _ gives given
