-- What a SELECT with a search looks up.
use Rattle.std.proofs.Common.{◌≡◌, ◌≤◌, ◌+◌, ◌*◌, ℕ, Bool, true, false, List, [], ◌∷◌, length, Option, Some, None, refl, sym, ap, subst, ◌∙◌, add-zero, arith}
use Rattle.std.specs.Prelude.{◌&&◌}
use Rattle.std.specs.Bool.{if◌then◌else◌}
use Rattle.std.specs.FinMap.{get}
use Rattle.std.proofs.lemmas.List.{length-map}
use Rattle.std.proofs.Math.Nat.{mul-le-mul_right}
use Rattle.ct_keep.specs.Content.{Content}
use Rattle.ct_keep.specs.KeeperViews.{Counts}
use Rattle.ct_keep.specs.Looks.{no_looks, scan_looks, RisesBy}
use Rattle.ct_entry.specs.declared.kinds.Kind.TheVariants as kind
use Rattle.ct_entry.specs.Kinds.{code}
use Rattle.st_parse.specs.declared.statements.Cond.{Cond}
use Rattle.st_parse.specs.declared.statements.Pred.{Pred}
use Rattle.tb_table.specs.declared.columns.Column.{Column}
use Rattle.tb_table.specs.Tables.{Table}
use Rattle.ix_search.specs.declared.hits.Hit.{Hit}
use Rattle.ix_search.specs.Hits.{hit_rows}
use Rattle.ix_search.specs.Looking.{QueriesLookFew}
use Rattle.ix_indexes.specs.Indexes.{Index}
use Rattle.db_cond.specs.Faults.{Refusal}
use Rattle.db_state.specs.States.{StoreState}
use Rattle.db_state.specs.Effects.{Effect, Does, is_done, refuse_by}
use Rattle.db_rows.specs.Texts.{RisesLeaving, texts_alone}
use Rattle.db_rows.specs.laws.Texts.{rises_end, rises_on}
use Rattle.db_find.specs.Finding.{search_refusal}
use Rattle.cat_where.specs.declared.stages.Where.{Where}
use Rattle.db_find.specs.Looking.{leaving_rules, looks_in, search_looks, texts_in_index}
use Rattle.db_find.specs.declared.searches.Search.{Search as Held}
use Rattle.db_find.specs.Searches.{Search, Catsearch, Contains, Matches, held_search, search_in, sought}
use Rattle.db_find.specs.Seeking.{named_index}
use Rattle.db_find.specs.Structured.{asked_where}
use Rattle.db_find.specs.laws.Looking.{in_texts, indexes_texts, refused_looks, rises_as, rises_behind, rises_weaker}
use Rattle.db_select.specs.Hits.{all_conds, found_rows}
use Rattle.db_select.specs.Looking.{LooksFew, LooksFewLeaving, found_looks, index_looks, looks_by, read_texts, row_texts, table_looks}
use Rattle.db_select.specs.Predicates.{conds_in}
use Rattle.db_select.specs.Selecting.{select_rows}
use Rattle.db_select.specs.Views.{is_view_list, is_whole}
use Rattle.db_select.specs.laws.Allowing.{leaving_rows, leaving_texts}
use Rattle.db_select.specs.Choosing.{Selection, asked_by}

-- ---- where nothing is said of rules

-- the same bound, and so many texts of it left
leaving_left : (s : Search) (most : Counts) (left : ℕ) (old new : Counts) → RisesLeaving most left old new → RisesLeaving (leaving_rules s new most) left old new
leaving_left (Contains column query label above) most left old new rises = rises
leaving_left (Matches column document) most left old new rises = rises
leaving_left (Catsearch column query structured) most left old new rises = record { texts = rises.texts; rows = rises.rows; rules = omega arith }

-- these are read behind it
leaving_on : (s : Search) (most : Counts) (left : ℕ) (a b d : Counts) → RisesLeaving (leaving_rules s b most) left a b → RisesBy (texts_alone left) b d → RisesLeaving (leaving_rules s d most) 0 a d
leaving_on (Contains column query label above) most left a b d first second = rises_on most left left 0 a b d (sym (add-zero left)) first second
leaving_on (Matches column document) most left a b d first second = rises_on most left left 0 a b d (sym (add-zero left)) first second
leaving_on (Catsearch column query structured) most left a b d first second =
    let texts : d.texts ≤ b.texts + left = second.texts in
    record { texts = omega (arith, first.texts, texts); rows = omega (arith, first.rows, second.rows); rules = omega arith }

-- a search, behind what handed out so many rules, and before what hands out none
leaving_whole : (s : Search) (most looks : Counts) (n left : ℕ) (a b d e : Counts) → e.texts + left ≤ a.texts + most.texts → e.rows ≤ a.rows + most.rows → b.rules ≤ a.rules + n
    → RisesBy (leaving_rules s d looks) b d → e.rules ≤ d.rules → n + looks.rules ≤ most.rules → RisesLeaving (leaving_rules s e most) left a e
leaving_whole (Contains column query label above) most looks n left a b d e texts rows first second third both =
    let search : d.rules ≤ b.rules + looks.rules = second.rules in
    record { texts = texts; rows = rows; rules = omega (arith, first, search, third, both) }
leaving_whole (Matches column document) most looks n left a b d e texts rows first second third both =
    let search : d.rules ≤ b.rules + looks.rules = second.rules in
    record { texts = texts; rows = rows; rules = omega (arith, first, search, third, both) }
leaving_whole (Catsearch column query structured) most looks n left a b d e texts rows first second third both = record { texts = texts; rows = rows; rules = omega arith }

-- ---- the rows that are found

module _ (c : Content) (m : StoreState) (t : List ℕ) (x : Table) (want : Selection) (s : Search) (conds : List Cond) where
  abbrev pub most_by : Effect → Counts
  most_by effect = looks_by effect (index_looks c) (found_looks c m t x want s conds)

  -- where it is left behind the search for the index
  index_first : (done : Bool) (a b : Counts) → RisesBy (scan_looks (code kind.Indexes ∷ []) c) a b
      → RisesLeaving (if done then found_looks c m t x want s conds else index_looks c) 0 a b
  index_first false a b rises =
      let none = indexes_texts c in
      record { texts = omega (arith, none, rises.texts); rows = rises.rows; rules = rises.rules }
  index_first true a b rises =
      let none = indexes_texts c in
      record { texts = omega (arith, none, rises.texts); rows = omega (arith, rises.rows); rules = omega (arith, rises.rules) }

  pub index_alone : (effect : Effect) (a b : Counts) → RisesBy (scan_looks (code kind.Indexes ∷ []) c) a b → RisesLeaving (leaving_rules s b (most_by effect)) 0 a b
  index_alone effect a b rises = leaving_left s (most_by effect) 0 a b (index_first (is_done effect) a b rises)

  module _ (looking : QueriesLookFew) (i : List ℕ) (y : Index) (named : named_index m t x.columns s ≡ Some (i, y)) where
    abbrev searched : Counts
    searched = search_looks c m.tables m.thesauri i y s

    looks_are : looks_in c m.tables m.thesauri (named_index m t x.columns s) s ≡ searched
    looks_are = ap (λ (o : Option (List ℕ × Index)). looks_in c m.tables m.thesauri o s) named

    search_reads : searched.texts ≡ texts_in_index m.tables (named_index m t x.columns s) s
    search_reads = in_texts looking c m.tables m.thesauri (Some (i, y)) s ∙ sym (ap (λ (o : Option (List ℕ × Index)). texts_in_index m.tables o s) named)

    -- where it is left behind the search, by what that refuses
    by_refusal : (lines : List ℕ) (a b d : Counts) (refused : Option Refusal) → search_refusal m.tables m.thesauri y s ≡ refused → RisesBy (scan_looks (code kind.Indexes ∷ []) c) a b
        → RisesBy (leaving_rules s d searched) b d → RisesLeaving (leaving_rules s d (most_by (refuse_by refused (λ r. r) (Does m lines)))) 0 a d
    by_refusal lines a b d None is first second =
        let none = indexes_texts c in
        let rows = ap (λ (k : Counts). k.rows) looks_are in
        let rules = ap (λ (k : Counts). k.rules) looks_are in
        let texts_behind = leaving_texts s searched b d second in
        let rows_behind = leaving_rows s searched b d second in
        leaving_whole s (found_looks c m t x want s conds) searched (scan_looks (code kind.Indexes ∷ []) c).rules 0 a b d d
        (omega (arith, none, search_reads, first.texts, texts_behind)) (omega (arith, rows, first.rows, rows_behind)) first.rules second (omega arith) (omega (arith, rules))
    by_refusal lines a b d (Some refusal) is first second =
        let none = indexes_texts c in
        let still : RisesBy (leaving_rules s d no_looks) b d = subst (λ (k : Counts). RisesBy (leaving_rules s d k) b d) (refused_looks c m.tables m.thesauri i y s refusal is) second in
        let texts_behind = leaving_texts s no_looks b d still in
        let rows_behind = leaving_rows s no_looks b d still in
        leaving_whole s (index_looks c) no_looks (scan_looks (code kind.Indexes ∷ []) c).rules 0 a b d d
        (omega (arith, none, first.texts, texts_behind)) (omega (arith, first.rows, rows_behind)) first.rules still (omega arith) (omega arith)

    pub search_alone : (effect : Effect) (lines : List ℕ) (a b d : Counts) → effect ≡ refuse_by (search_refusal m.tables m.thesauri y s) (λ r. r) (Does m lines)
        → RisesBy (scan_looks (code kind.Indexes ∷ []) c) a b → RisesBy (leaving_rules s d searched) b d → RisesLeaving (leaving_rules s d (most_by effect)) 0 a d
    search_alone effect lines a b d is first second =
        subst (λ (e : Effect). RisesLeaving (leaving_rules s d (most_by e)) 0 a d) (sym is)
        (by_refusal lines a b d (search_refusal m.tables m.thesauri y s) refl first second)

    -- where rows were asked of those that were found, of which so many texts are left
    pub rows_met : (effect : Effect) (lines : List ℕ) (columns : List Column) (w : Where) (lent found : List Hit) (left : ℕ) (a b d e : Counts) → effect ≡ Does m lines → x.columns ≡ columns → w ≡ asked_where s
        → lent ≡ found → length (hit_rows found) ≤ length (found_rows m t x (Some s)) → RisesBy (scan_looks (code kind.Indexes ∷ []) c) a b → RisesBy (leaving_rules s d searched) b d
        → RisesLeaving (texts_alone (length lent * length (read_texts want.list (asked_by want w).orders (all_conds w conds) columns))) left d e → RisesLeaving (leaving_rules s e (most_by effect)) left a e
    rows_met effect lines columns w lent found left a b d e is same asks lent_is few first second third =
        let none = indexes_texts c in
        let rows = ap (λ (k : Counts). k.rows) looks_are in
        let rules = ap (λ (k : Counts). k.rules) looks_are in
        let each : length (read_texts want.list (asked_by want w).orders (all_conds w conds) columns) ≡ row_texts want s conds x.columns = λ k. length (read_texts want.list (asked_by want (asks k)).orders (all_conds (asks k) conds) (sym same k)) in
        let count : length lent ≡ length (hit_rows found) = ap length lent_is ∙ sym (length-map found (λ h. (h.key.0, h.score))) in
        let all : length lent * length (read_texts want.list (asked_by want w).orders (all_conds w conds) columns) ≡ length (hit_rows found) * row_texts want s conds x.columns = λ k. count k * each k in
        let fewer : length (hit_rows found) * row_texts want s conds x.columns ≤ length (found_rows m t x (Some s)) * row_texts want s conds x.columns = mul-le-mul_right (row_texts want s conds x.columns) few in
        let texts : e.texts + left ≤ d.texts + length lent * length (read_texts want.list (asked_by want w).orders (all_conds w conds) columns) = third.texts in
        let texts_behind = leaving_texts s searched b d second in
        let rows_behind = leaving_rows s searched b d second in
        let no_rows : e.rows ≤ d.rows + 0 = third.rows in
        let no_rules : e.rules ≤ d.rules + 0 = third.rules in
        subst (λ (f : Effect). RisesLeaving (leaving_rules s e (most_by f)) left a e) (sym is)
        (leaving_whole s (found_looks c m t x want s conds) searched (scan_looks (code kind.Indexes ∷ []) c).rules left a b d e
        (omega (arith, none, search_reads, all, fewer, first.texts, texts_behind, texts)) (omega (arith, rows, first.rows, rows_behind, no_rows)) first.rules second (omega (arith, no_rules)) (omega (arith, rules)))

-- with a search, and without one
pub unsought_few : (held : Option Held) → held ≡ None → (c : Content) (m : StoreState) (t : List ℕ) (x : Table) (want : Selection) (conds : List Cond) (left : ℕ) (a b : Counts) → LooksFewLeaving c m t x want (sought held) conds left a b
unsought_few held none c m t x want conds left a b = subst (λ (o : Option Held). LooksFewLeaving c m t x want (sought o) conds left a b) (sym none) tt

pub sought_few : (held : Option Held) (search : Held) → held ≡ Some search → (c : Content) (m : StoreState) (t : List ℕ) (x : Table) (want : Selection) (conds : List Cond) (left : ℕ) (a b : Counts)
    → LooksFewLeaving c m t x want (Some (held_search search)) conds left a b → LooksFewLeaving c m t x want (sought held) conds left a b
sought_few held search some c m t x want conds left a b few = subst (λ (o : Option Held). LooksFewLeaving c m t x want (sought o) conds left a b) (sym some) few

-- ---- the lines

-- what is left is read for them
pub lines_few : (c : Content) (m : StoreState) (t : List ℕ) (x : Table) (want : Selection) (search : Option Search) (conds : List Cond) (left : ℕ) (a b d : Counts)
    → LooksFewLeaving c m t x want search conds left a b → RisesBy (texts_alone left) b d → LooksFewLeaving c m t x want search conds 0 a d
lines_few c m t x want None conds left a b d few rises = tt
lines_few c m t x want (Some s) conds left a b d few rises = leaving_on s (most_by c m t x want s conds (select_rows m t x want (Some s) conds)) left a b d few rises

-- ---- the whole

-- nothing was looked up
pub still_few : (effect : Effect) (c : Content) (m : StoreState) (want : Selection) (t : List ℕ) (preds : List Pred) (search : Option Search) (a b : Counts) → RisesBy no_looks a b → LooksFew effect c m want t preds search a b
still_few effect c m want t preds None a b none = tt
still_few effect c m want t preds (Some s) a b none = rises_weaker _ a b none

-- where something is searched for, there is a predicate
not_bare : (b : Bool) → (b && false) ≡ false
not_bare true = refl
not_bare false = refl

searches : (want : Selection) (preds : List Pred) (s : Search) → search_in preds ≡ Some s → is_whole want preds ≡ false
searches want [] s is = absurd (cc)
searches want (pred ∷ preds) s is = not_bare (is_view_list want.list)

-- a view is asked for all its lines or their number, or nothing was looked up
pub view_few : (effect : Effect) (c : Content) (m : StoreState) (want : Selection) (t : List ℕ) (preds : List Pred) (a b : Counts) → (is_whole want preds ≡ false → RisesBy no_looks a b) → LooksFew effect c m want t preds (search_in preds) a b
view_few effect c m want t preds a b none = go (search_in preds) refl
  where
    go : (search : Option Search) → search_in preds ≡ search → LooksFew effect c m want t preds search a b
    go None is = tt
    go (Some s) is = rises_weaker _ a b (none (searches want preds s is))

-- as of the table
pub table_few : (effect : Effect) (c : Content) (m : StoreState) (want : Selection) (t : List ℕ) (preds : List Pred) (x : Table) (search : Option Search) (conds : List Cond) (a b d : Counts)
    → get m.tables t ≡ Some x → conds ≡ conds_in preds → effect ≡ select_rows m t x want search conds
    → RisesBy no_looks a b → LooksFewLeaving c m t x want search conds 0 b d → LooksFew effect c m want t preds search a d
table_few effect c m want t preds x None conds a b d there conditions is none few = tt
table_few effect c m want t preds x (Some s) conds a b d there conditions is none few =
    rises_as _ (leaving_rules s d (most_by c m t x want s conds (select_rows m t x want (Some s) conds))) a d
    (λ i. leaving_rules s d (looks_by (is i) (index_looks c) (table_looks c m t (there i) want s (sym conditions i))))
    (rises_behind _ a b d none (rises_end _ 0 b d few))
