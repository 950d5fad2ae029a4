-- What a SELECT with a search does where its index is there, and its values and numbers pass.
use Rattle.std.proofs.Common.{◌≡◌, ◌≤◌, ◌*◌, List, [], ◌∷◌, ℕ, ℤ, length, Option, Some, None, Vec, sym, ap, subst, ◌∙◌}
use Rattle.std.specs.FinMap.{get}
use Rattle.std.specs.declared.alloc.Global.{Global}
use Rattle.ct_keep.specs.Content.{Content}
use Rattle.ct_keep.specs.KeeperViews.{Counts}
use Rattle.ct_keep.specs.Looks.{RisesBy, scan_looks}
use Rattle.ct_entry.specs.declared.kinds.Kind.TheVariants as kind
use Rattle.ct_entry.specs.Kinds.{code}
use Rattle.ix_search.specs.Looking.{QueriesLookFew}
use Rattle.ix_kinds.specs.Rows.{table_at}
use Rattle.ix_indexes.specs.Indexes.{AreIndexes, Index}
use Rattle.ix_search.specs.declared.hits.Hit.{Hit}
use Rattle.ix_search.specs.Hits.{hit_rows}
use Rattle.st_parse.specs.declared.statements.Cond.{Cond}
use Rattle.tb_table.specs.declared.columns.Column.{Column}
use Rattle.tb_table.specs.Rules.{AreTables}
use Rattle.tb_table.specs.Tables.{Table}
use Rattle.cat_where.specs.declared.stages.Where.{Where}
use Rattle.db_cond.specs.Faults.{Refusal}
use Rattle.db_state.specs.Effects.{Does, Effect, refuse_by}
use Rattle.db_state.specs.States.{StoreState}
use Rattle.db_rows.specs.Texts.{RisesLeaving, texts_alone}
use Rattle.db_find.specs.declared.finding.Found.{Found}
use Rattle.db_find.specs.declared.finding.Found.TheVariants.{Refused, Rows as FoundRows}
use Rattle.db_find.specs.Finding.{Answers, GivesFound, found_in, search_refusal, search_rows}
use Rattle.db_find.specs.Looking.{leaving_rules, search_looks}
use Rattle.db_find.specs.Searches.{Search}
use Rattle.db_find.specs.Seeking.{NeedsIndex, index_of_search, named_index}
use Rattle.db_find.specs.Structured.{asked_where}
use Rattle.db_find.specs.laws.Seeking.{needed_answers, needed_is_on, needed_named}
use Rattle.db_select.specs.declared.finds.FoundRow.{FoundRow}
use Rattle.db_select.specs.declared.finds.Selected.TheVariants.{Refused as RefusedFound, Rows}
use Rattle.db_select.specs.Checking.{check_values}
use Rattle.db_select.specs.Hits.{GivesAsked, all_conds, found_rows, hits}
use Rattle.db_select.specs.Listing.{rows_reply}
use Rattle.db_select.specs.Looking.{read_texts}
use Rattle.db_select.specs.Selecting.{Selects, select_rows}
use Rattle.db_select.specs.Choosing.{Selection, asked_by}
use Rattle.db_select.proofs.AskedLaws.{searched_are}
use Rattle.db_select.proofs.SearchLooks.{most_by, rows_met, search_alone}
use Rattle.db_select.proofs.SelectLaws.{by_index, by_query, few_columns, has_needed}

-- The search has an index, with this name; and behind the checks the SELECT is refused as the search is, or lists its rows.
pub record IsKnownSearch (m : StoreState) (t : List ℕ) (x : Table) (want : Selection) (s : Search) (conds : List Cond) (i : List ℕ) : Type 0 where
  pub index : Index
  pub there : get m.indexes i ≡ Some index
  pub here : index_of_search m t x.columns s ≡ Some index
  pub table : table_at m.tables index.table ≡ x
  pub answers : Answers m.tables index x.columns s
  pub named : named_index m t x.columns s ≡ Some (i, index)
  pub effect : select_rows m t x want (Some s) conds ≡ refuse_by (search_refusal m.tables m.thesauri index s) (λ refusal. refusal) (Does m (rows_reply m.tables t x.columns want.list (hits m t x want (Some s) conds)))

module _ (m : StoreState) (t : List ℕ) (x : Table) (want : Selection) (s : Search) (conds : List Cond) (columns : List Column) (same : x.columns ≡ columns) where
  -- the index that was found, and that the checks find nothing wrong
  pub known_search : (i : List ℕ) (found : Option (List ℕ)) → AreTables m.tables → AreIndexes m.tables m.indexes → get m.tables t ≡ Some x
      → (length columns ≤ 256 → NeedsIndex m t columns s found) → found ≡ Some i → ((done : Effect) → check_values columns want (Some s) conds done ≡ done) → IsKnownSearch m t x want s conds i
  known_search i found tables indexes there needs found_is passes =
      let needed : NeedsIndex m t x.columns s (Some i) =
      subst (λ (cs : List Column). NeedsIndex m t cs s (Some i)) (sym same) (subst (NeedsIndex m t columns s) found_is (needs (few_columns m t x columns tables there same))) in
      record {
        index = needed.0;
        there = needed.1.0;
        here = needed.1.1;
        table = needed_is_on m t x x.columns s i there needed;
        answers = needed_answers m t x s i there needed;
        named = needed_named m t x.columns s i indexes needed;
        effect =
            by_query m t x want (Some s) conds columns same (has_needed m t x s needed.0 needed.1.1) passes
            (search_refusal m.tables m.thesauri needed.0 s) (by_index m t x s needed.0 needed.1.1);
      }

module _ {m : StoreState} {t : List ℕ} {x : Table} {want : Selection} {s : Search} {conds : List Cond} {i : List ℕ} (known : IsKnownSearch m t x want s conds i) where
  -- with the columns as code holds them
  pub known_answers : (columns : List Column) → x.columns ≡ columns → Answers m.tables known.index columns s
  known_answers columns same = subst (λ (cs : List Column). Answers m.tables known.index cs s) same known.answers

  -- what it finds in that index
  abbrev pub GivesKnown : Found → Type 0
  GivesKnown found = GivesFound (search_refusal m.tables m.thesauri known.index s) x (search_rows m.tables m.thesauri known.index s) (asked_where s) found

  pub gives_known : (found held : Found) → found ≡ held
      → GivesFound (search_refusal m.tables m.thesauri known.index s) (table_at m.tables known.index.table) (search_rows m.tables m.thesauri known.index s) (asked_where s) found → GivesKnown held
  gives_known found held is gives =
      subst GivesKnown is
      (subst (λ (y : Table). GivesFound (search_refusal m.tables m.thesauri known.index s) y (search_rows m.tables m.thesauri known.index s) (asked_where s) found) known.table gives)

  -- where its query is refused
  pub refused_search : (line : Vec ℕ Global) → GivesKnown (Refused line) → Selects m t x want (Some s) conds (RefusedFound line)
  refused_search line gives =
      (gives.0, (known.effect ∙ ap (λ (r : Option Refusal). refuse_by r (λ refusal. refusal) (Does m (rows_reply m.tables t x.columns want.list (hits m t x want (Some s) conds)))) gives.1.0, gives.1.1))

  -- and where it isn't
  pub not_refused : search_refusal m.tables m.thesauri known.index s ≡ None → select_rows m t x want (Some s) conds ≡ Does m (rows_reply m.tables t x.columns want.list (hits m t x want (Some s) conds))
  not_refused none = known.effect ∙ ap (λ (r : Option Refusal). refuse_by r (λ refusal. refusal) (Does m (rows_reply m.tables t x.columns want.list (hits m t x want (Some s) conds)))) none

  pub passed_search : (w : Where) (lent : List Hit) (enough : Vec Hit Global) (rows : Vec FoundRow Global) → GivesKnown (FoundRows enough w) → lent ≡ enough.items → GivesAsked x (asked_by want w) conds lent rows.items
      → Selects m t x want (Some s) conds (Rows rows)
  passed_search w lent enough rows gives same asked =
      (not_refused gives.0, searched_are m t x want s conds known.index w lent enough.items rows.items known.here gives.1.0 same gives.1.1 asked)

  -- ---- what was looked up

  -- the index, and what the search looks at
  pub known_alone : (c : Content) (looking : QueriesLookFew) (a b d : Counts) → RisesBy (scan_looks (code kind.Indexes ∷ []) c) a b
      → RisesBy (leaving_rules s d (search_looks c m.tables m.thesauri i known.index s)) b d → RisesLeaving (leaving_rules s d (most_by c m t x want s conds (select_rows m t x want (Some s) conds))) 0 a d
  known_alone c looking a b d first second =
      search_alone c m t x want s conds looking i known.index known.named (select_rows m t x want (Some s) conds) (rows_reply m.tables t x.columns want.list (hits m t x want (Some s) conds)) a b d known.effect first second

  -- and what was read of rows that it found, which are no more than all
  pub known_rows : (c : Content) (looking : QueriesLookFew) (columns : List Column) (w : Where) (lent : List Hit) (enough : Vec Hit Global) (left : ℕ) (a b d e : Counts) → x.columns ≡ columns
      → GivesKnown (FoundRows enough w) → lent ≡ enough.items → RisesBy (scan_looks (code kind.Indexes ∷ []) c) a b
      → RisesBy (leaving_rules s d (search_looks c m.tables m.thesauri i known.index s)) b d → RisesLeaving (texts_alone (length lent * length (read_texts want.list (asked_by want w).orders (all_conds w conds) columns))) left d e
      → RisesLeaving (leaving_rules s e (most_by c m t x want s conds (select_rows m t x want (Some s) conds))) left a e
  known_rows c looking columns w lent enough left a b d e same gives lent_is first second third =
      let few : length (hit_rows enough.items) ≤ length (found_rows m t x (Some s)) =
      subst (λ (rows : List (ℤ × ℕ)). length (hit_rows enough.items) ≤ length rows) (sym (ap (λ (o : Option Index). found_in m.tables m.thesauri o s) known.here)) gives.1.1.few in
      rows_met c m t x want s conds looking i known.index known.named (select_rows m t x want (Some s) conds) (rows_reply m.tables t x.columns want.list (hits m t x want (Some s) conds)) columns w lent enough.items left a b d e
      (not_refused gives.0) same gives.1.0 lent_is few first second third
