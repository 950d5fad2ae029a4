-- The ways out of a SELECT, and its lines.
use Rattle.std.proofs.Common.{◌≡◌, ◌≤◌, ℕ, Bool, true, false, List, [], ◌∷◌, length, map, Option, Some, None, Vec, refl, sym, ap, ◌∙◌, arith}
use Rattle.std.specs.Prelude.{is_none}
use Rattle.std.specs.FinMap.{get}
use Rattle.std.specs.declared.alloc.Global.{Global}
use Rattle.st_parse.specs.declared.statements.Item.{Item}
use Rattle.st_parse.specs.declared.statements.Item.TheVariants.{Column as ColumnItem}
use Rattle.st_parse.specs.declared.statements.Pred.{Pred}
use Rattle.tb_table.specs.declared.columns.Column.{Column}
use Rattle.tb_table.specs.Tables.{Table}
use Rattle.tb_table.specs.Rules.{AreTables}
use Rattle.st_parse.specs.declared.statements.Cond.{Cond}
use Rattle.ix_search.specs.declared.hits.Hit.{Hit}
use Rattle.ix_search.specs.Hits.{hit_rows}
use Rattle.ix_indexes.specs.Indexes.{Index}
use Rattle.db_cond.specs.Faults.{Refusal, UnknownName, NoIndexOfKind, refusal_line}
use Rattle.db_state.specs.States.{StoreState}
use Rattle.db_state.specs.Effects.{Effect, Does, Refused, refuse, refuse_by, with_found, reply_by}
use Rattle.db_state.specs.Columns.{first_unknown}
use Rattle.db_select.specs.declared.finds.FoundRow.{FoundRow}
use Rattle.db_select.specs.declared.finds.Selected.{Selected}
use Rattle.db_select.specs.declared.finds.Selected.TheVariants.{Refused as RefusedFound, Rows}
use Rattle.db_find.specs.Searches.{Search, search_in}
use Rattle.db_find.specs.Seeking.{index_of_search}
use Rattle.db_find.specs.Finding.{refused_by, search_refusal}
use Rattle.db_select.specs.declared.sources.FieldSource.{FieldSource}
use Rattle.db_select.specs.Predicates.{conds_in, named_columns}
use Rattle.db_select.specs.Checking.{check_values}
use Rattle.db_select.specs.Fields.{hit_fields}
use Rattle.db_select.specs.Hits.{hits, hits_of}
use Rattle.db_select.specs.Listing.{all_columns, found_reply, hit_line, rows_reply}
use Rattle.db_select.specs.Selecting.{Selects, lacks_index, query_refusal, select, select_rows}
use Rattle.db_select.specs.Sources.{column_source, field_source}
use Rattle.db_select.specs.Choosing.{Selection}
use Rattle.db_select.proofs.FieldLaws.{hit_line_is}

-- ---- the table

pub few_columns : (m : StoreState) (t : List ℕ) (x : Table) (columns : List Column) → AreTables m.tables → get m.tables t ≡ Some x → x.columns ≡ columns → length columns ≤ 256
few_columns m t x columns are here same = let few = (are.each t x here).columns.few in omega (arith, few, ap length same)

-- ---- the lines

pub map_map : {X Y Z : Type 0} (f : Y → Z) (g : X → Y) (xs : List X) → map (λ x. f (g x)) xs ≡ map f (map g xs)
map_map f g [] = refl
map_map f g (x ∷ xs) = ap (λ l. f (g x) ∷ l) (map_map f g xs)

map_same : {X Y : Type 0} (f g : X → Y) → ((x : X) → f x ≡ g x) → (xs : List X) → map f xs ≡ map g xs
map_same f g same [] = refl
map_same f g same (x ∷ xs) = λ i. same x i ∷ map_same f g same xs i

pub rows_are : (m : StoreState) (t : List ℕ) (x : Table) (items : List Item) (columns : List Column) (sources : List FieldSource) (hits : List Hit) → AreTables m.tables → get m.tables t ≡ Some x → x.columns ≡ columns → sources ≡ map (field_source columns) items
    → map (λ h. hit_fields m.tables t sources (h.key.0, h.score)) hits ≡ map (hit_line m.tables t x.columns items) (map (λ h. (h.key.0, h.score)) hits)
rows_are m t x items columns sources hits are here same from =
    map_map (hit_fields m.tables t sources) (λ (h : Hit). (h.key.0, h.score)) hits
    ∙ map_same (hit_fields m.tables t sources) (hit_line m.tables t x.columns items)
    (λ h. ap (λ (ss : List FieldSource). hit_fields m.tables t ss h) (from ∙ ap (λ (cs : List Column). map (field_source cs) items) (sym same)) ∙ hit_line_is m.tables t x items are here h) (map (λ h. (h.key.0, h.score)) hits)

-- the sources of the columns are those of the items that name them
pub columns_are : (columns : List Column) (sources : List FieldSource) (x : Table) → x.columns ≡ columns → sources ≡ map (column_source columns) columns → sources ≡ map (field_source columns) (all_columns x.columns)
columns_are columns sources x same is =
    is ∙ map_map (field_source columns) (λ c. ColumnItem c.name) columns
    ∙ ap (λ (cs : List Column). map (field_source columns) (all_columns cs)) (sym same)

-- ---- the replies

module _ (m : StoreState) (t : List ℕ) (x : Table) (want : Selection) (search : Option Search) (conds : List Cond) (columns : List Column) (same : x.columns ≡ columns) where
  -- what follows the checks
  abbrev pub listed : Effect
  listed = Does m (rows_reply m.tables t x.columns want.list (hits m t x want search conds))

  abbrev queried : Effect
  queried = refuse_by (query_refusal m t x.columns search) (λ refusal. refusal) listed

  behind_index : lacks_index m t x.columns search ≡ false → select_rows m t x want search conds ≡ check_values columns want search conds queried
  behind_index there = ap (λ (b : Bool). refuse b NoIndexOfKind (check_values x.columns want search conds queried)) there ∙ λ i. check_values (same i) want search conds queried

  pub faulty : lacks_index m t x.columns search ≡ false → (refusal : Refusal) → ((done : Effect) → check_values columns want search conds done ≡ Refused refusal) → (line : Vec ℕ Global) → line.items ≡ refusal_line refusal
      → Selects m t x want search conds (RefusedFound line)
  faulty there refusal fails line says = (refusal, (behind_index there ∙ fails queried, says))

  -- behind the checks, where the query text is refused or isn't
  pub by_query : lacks_index m t x.columns search ≡ false → ((done : Effect) → check_values columns want search conds done ≡ done) → (refused : Option Refusal) → query_refusal m t x.columns search ≡ refused
      → select_rows m t x want search conds ≡ refuse_by refused (λ refusal. refusal) listed
  by_query there passes refused is = behind_index there ∙ passes queried ∙ ap (λ (o : Option Refusal). refuse_by o (λ refusal. refusal) listed) is

  pub passed : lacks_index m t x.columns search ≡ false → ((done : Effect) → check_values columns want search conds done ≡ done) → query_refusal m t x.columns search ≡ None → (found : Vec FoundRow Global) → hit_rows (hits_of found.items) ≡ hits m t x want search conds
      → Selects m t x want search conds (Rows found)
  passed there passes none found are = (by_query there passes None none, are)

-- where it lacks its index
pub unindexed : (m : StoreState) (t : List ℕ) (x : Table) (want : Selection) (search : Option Search) (conds : List Cond) → lacks_index m t x.columns search ≡ true → (line : Vec ℕ Global) → line.items ≡ refusal_line NoIndexOfKind
    → Selects m t x want search conds (RefusedFound line)
unindexed m t x want search conds lacks line says =
    let rest = check_values x.columns want search conds (refuse_by (query_refusal m t x.columns search) (λ refusal. refusal) (Does m (rows_reply m.tables t x.columns want.list (hits m t x want search conds)))) in
    (NoIndexOfKind, (ap (λ (b : Bool). refuse b NoIndexOfKind rest) lacks, says))

pub has_needed : (m : StoreState) (t : List ℕ) (x : Table) (s : Search) (y : Index) → index_of_search m t x.columns s ≡ Some y → lacks_index m t x.columns (Some s) ≡ false
has_needed m t x s y needed = ap is_none needed

pub needs_none : (m : StoreState) (t : List ℕ) (x : Table) (s : Search) → index_of_search m t x.columns s ≡ None → lacks_index m t x.columns (Some s) ≡ true
needs_none m t x s none = ap is_none none

-- ---- the query of a search

module _ (m : StoreState) (t : List ℕ) (x : Table) (s : Search) (y : Index) (needed : index_of_search m t x.columns s ≡ Some y) where
  pub by_index : query_refusal m t x.columns (Some s) ≡ search_refusal m.tables m.thesauri y s
  by_index = ap (λ (o : Option Index). refused_by m.tables m.thesauri o s) needed

-- ---- what was found, and the reply to it

pub selects_reply : (m : StoreState) (t : List ℕ) (x : Table) (want : Selection) (search : Option Search) (conds : List Cond) (found : Selected) → Selects m t x want search conds found
    → found_reply m.tables t x.columns want.list found ≡ reply_by (select_rows m t x want search conds)
selects_reply m t x want search conds (RefusedFound line) is = is.1.1 ∙ sym (ap reply_by is.1.0)
selects_reply m t x want search conds (Rows found) is = ap (rows_reply m.tables t x.columns want.list) is.1 ∙ sym (ap reply_by is.0)

-- ---- the whole of a table

module _ (m : StoreState) (want : Selection) (t : List ℕ) (preds : List Pred) (x : Table) (there : get m.tables t ≡ Some x) (columns : List Column) (same : x.columns ≡ columns) where
  pub known : first_unknown (named_columns want preds) columns ≡ None → select m want t preds ≡ select_rows m t x want (search_in preds) (conds_in preds)
  known none =
      ap (λ (o : Option Table). with_found o (UnknownName t) (λ (x : Table). refuse_by (first_unknown (named_columns want preds) x.columns) UnknownName (select_rows m t x want (search_in preds) (conds_in preds)))) there
      ∙ ap (λ (o : Option (List ℕ)). refuse_by o UnknownName (select_rows m t x want (search_in preds) (conds_in preds))) (ap (first_unknown (named_columns want preds)) same ∙ none)

  -- a name of the list, of the predicates or of the order that the table hasn't
  pub unknown : (name : List ℕ) → first_unknown (named_columns want preds) columns ≡ Some name → (line : List ℕ) → line ≡ refusal_line (UnknownName name) → line ≡ reply_by (select m want t preds)
  unknown name some line is =
      is ∙ sym (ap reply_by (
      ap (λ (o : Option Table). with_found o (UnknownName t) (λ (x : Table). refuse_by (first_unknown (named_columns want preds) x.columns) UnknownName (select_rows m t x want (search_in preds) (conds_in preds)))) there
      ∙ ap (λ (o : Option (List ℕ)). refuse_by o UnknownName (select_rows m t x want (search_in preds) (conds_in preds))) (ap (first_unknown (named_columns want preds)) same ∙ some)))

  pub table_reply : first_unknown (named_columns want preds) columns ≡ None → (search : Option Search) (conds : List Cond) → search ≡ search_in preds → conds ≡ conds_in preds
      → reply_by (select_rows m t x want search conds) ≡ reply_by (select m want t preds)
  table_reply none search conds searched conditions =
      ap (λ (s : Option Search). reply_by (select_rows m t x want s conds)) searched
      ∙ ap (λ (cs : List Cond). reply_by (select_rows m t x want (search_in preds) cs)) conditions
      ∙ ap reply_by (sym (known none))
