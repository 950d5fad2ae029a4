-- What a catalogue finds are no more rows than have a word that the query takes, by its verdict.
use Rattle.std.proofs.Common.{ℕ, ℤ, ◌≡◌, ◌≤◌, ◌^◌, Bool, true, false, cond, List, [], length, Option, Some, None, IfSome, refl, ap, sym, subst, arith}
use Rattle.std.specs.Str.{chars}
use Rattle.std.proofs.lemmas.List.{length-map}
use Rattle.tx_settings.specs.PrefsBytes.{IsPrefs}
use Rattle.tb_table.specs.Tables.{Table}
use Rattle.tb_table.specs.Rules.{IsTable}
use Rattle.q_tree.specs.Limits.{keeps_limits}
use Rattle.q_tree.specs.ReducedQueries.{Reduced}
use Rattle.q_tree.specs.Soundness.{is_sound}
use Rattle.q_tree.specs.Trees.{Tree}
use Rattle.q_reduce.specs.Promises.{ReducedIsSound}
use Rattle.q_reduce.specs.Reducing.{reduced}
use Rattle.ix_kinds.specs.Rows.{table_at, table_or_none}
use Rattle.ix_kinds.specs.Indextypes.{IndexOf}
use Rattle.ix_context.specs.Indexes.{texts_in}
use Rattle.ix_context.specs.Postings.{IsShortOrNone}
use Rattle.ix_context.specs.laws.Texts.{texts_short}
use Rattle.cat_index.specs.Catalogues.{CatalogueBody}
use Rattle.cat_query.specs.PlainTrees.{is_plain_tree}
use Rattle.cat_query.specs.Verdicts.{Verdict, TooLarge, Found, Fault, verdict}
use Rattle.cat_search.specs.Words.{is_exact}
use Rattle.cat_search.specs.Looking.{slot_key_rows}
use Rattle.cat_search.specs.Promises.{MetRowsHaveWords}
use Rattle.db_cond.specs.Faults.{Refusal}
use Rattle.db_find.specs.Querying.{Finds, reduction_context}
use Rattle.db_find.specs.Catalogues.{catalogue_refusal, verdict_meaning, rows_meant, texts_meant, unless_refused, unscored, catsearch_meaning}
use Rattle.db_find.specs.WordRows.{CataloguesFindWordRows, slot_rows_meant, slot_rows_of}
use Rattle.db_find.specs.laws.Catalogues.{holds_catalogue}
use Rattle.db_find.proofs.PlainQueries.{IsPlainOrNone, plain_reduced}

-- none where it is exact, else one for each of them
at_most_each : (exact : Bool) (n : ℕ) → cond exact 0 n ≤ n
at_most_each true n = omega arith
at_most_each false n = omega arith

unless_fewer : (o : Option Refusal) (n most : ℕ) → n ≤ most → unless_refused o n ≤ most
unless_fewer None n most few = few
unless_fewer (Some refusal) n most few = omega arith

module _ (words : MetRowsHaveWords) (sound : ReducedIsSound) (t : Table) (x : IndexOf CatalogueBody) (prefs : IsPrefs x.prefs) (rules : IsTable t) where
  short : (r : ℤ) (text : List ℕ) → texts_in t x.column r ≡ Some text → length text ≤ 2 ^ 24
  short r text seen = let few : IsShortOrNone (Some text) = subst IsShortOrNone seen (texts_short t rules x.column r) in omega (arith, few)

  of_query : (o : Option Reduced) → IsPlainOrNone o → IfSome o (λ q. is_sound q ≡ true) → (length (rows_meant t x (Finds o)) ≤ slot_rows_meant t x (Finds o)) × (texts_meant t x (Finds o) ≤ slot_rows_meant t x (Finds o))
  of_query None plain is_sound = (omega arith, omega arith)
  of_query (Some q) plain is_sound = ((words t x q prefs short plain is_sound).few, at_most_each (is_exact q) (length (slot_key_rows t x q)))

  of_verdict : (v : Verdict) → ((tree : Tree) → v ≡ Found tree → (keeps_limits tree ≡ true) × (is_plain_tree tree ≡ true))
      → (length (rows_meant t x (verdict_meaning x.prefs v)) ≤ slot_rows_meant t x (verdict_meaning x.prefs v)) × (texts_meant t x (verdict_meaning x.prefs v) ≤ slot_rows_meant t x (verdict_meaning x.prefs v))
  of_verdict TooLarge good = (omega arith, omega arith)
  of_verdict (Fault place) good = (omega arith, omega arith)
  of_verdict (Found tree) good =
      let is = good tree refl in
      let context = reduction_context x.prefs [] in
      of_query (reduced context tree) (plain_reduced context tree is.1) (sound context tree is.0 prefs.group)

pub catalogues_find_word_rows : ((text : List ℕ) (t : Tree) → verdict text ≡ Found t → keeps_limits t ≡ true) → ((text : List ℕ) (t : Tree) → verdict text ≡ Found t → is_plain_tree t ≡ true)
    → ReducedIsSound → MetRowsHaveWords → CataloguesFindWordRows
catalogues_find_word_rows limits plain sound words c m i x stands is query =
    let holds = holds_catalogue c m stands i x is in
    let t = table_at m.tables x.table in
    let rules : IsTable t = subst IsTable (sym (ap table_or_none holds.target.there)) (holds.tables.rules.each x.table holds.target.table holds.target.there) in
    let few = of_verdict words sound t x holds.prefs rules (verdict (chars query)) (λ tree found. (limits (chars query) tree found, plain (chars query) tree found)) in
    record {
      rows = subst (λ (n : ℕ). n ≤ slot_rows_of m.tables x query) (sym (length-map (rows_meant t x (catsearch_meaning x.prefs query)) unscored)) few.0;
      texts = λ structured. unless_fewer (catalogue_refusal m.tables x query structured) (texts_meant t x (catsearch_meaning x.prefs query)) (slot_rows_of m.tables x query) few.1;
    }
