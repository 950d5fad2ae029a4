-- What the checks of CREATE INDEX read.
use Rattle.std.proofs.Common.{◌≡◌, ℕ, suc, ◌+◌, ◌<◌, Bool, true, false, cond, List, [], ◌∷◌, length, Option, Some, None, refl, sym, ap, subst, ◌∙◌, arith}
use Rattle.std.specs.Prelude.{◌||◌, is_some, not, filter, nat_le}
use Rattle.std.specs.List.{list_any}
use Rattle.std.specs.Option.{option_map}
use Rattle.std.specs.Ordering.{nat_cmp, eq_by_cmp}
use Rattle.std.specs.Cmp.Lexicographic.{slice_cmp}
use Rattle.std.specs.FinMap.{get, entries, from_entries, find, get-from_entries, empty, len-entries, len-empty}
use Rattle.std.proofs.lemmas.Bool.{le-leb, and_parts, or_parts}
use Rattle.std.proofs.lemmas.Cmp.{nat_list_cmp_total}
use Rattle.std.proofs.lemmas.List.{length-map}
use Rattle.ct_keep.specs.Content.{Content}
use Rattle.ct_keep.specs.laws.FoundKeys.{none_below}
use Rattle.ct_keep.specs.laws.RisingKeys.{below, rises, entries_rise}
use Rattle.ct_entry.specs.Keys.{same_list}
use Rattle.ct_entry.specs.Maps.{Names}
use Rattle.ct_entry.specs.laws.Maps.{names_tie}
use Rattle.ct_entry.specs.Listings.{key_order}
use Rattle.ct_entry.specs.laws.Owners.{key_order_total, key_order_tie}
use Rattle.tb_table.specs.declared.columns.Column.{Column}
use Rattle.tb_table.specs.Tables.{Table}
use Rattle.tb_table.specs.Rules.{AreTables}
use Rattle.st_parse.specs.declared.statements.Whole.{Whole}
use Rattle.tx_prefs.specs.declared.requests.Request.{Request}
use Rattle.ix_kinds.specs.Rows.{table_at}
use Rattle.ix_kinds.specs.Targets.{is_text_at}
use Rattle.ix_kinds.specs.laws.Tables.{table_is}
use Rattle.ix_context.specs.Indexes.{rows_within, mark_limit}
use Rattle.ix_context.specs.laws.ContextCreates.{all_within}
use Rattle.ix_indexes.specs.Indexes.{Index, kinds}
use Rattle.db_names.specs.declared.heads.IndexHead.{IndexHead}
use Rattle.db_names.specs.declared.heads.IndexKind.{IndexKind}
use Rattle.db_names.specs.Promises.{is_on_table, heads_of}
use Rattle.db_cond.specs.declared.faults.Fault.{Fault}
use Rattle.db_cond.specs.Faults.{UnknownName, ExistsAlready, WrongValues, BadValue, OutOfRange, LimitReached}
use Rattle.db_cond.specs.Refused.{refusal_of}
use Rattle.db_state.specs.States.{StoreState, indexes_on, index_limit}
use Rattle.db_state.specs.Effects.{Effect, Refused, Checks, refuse, refuse_by, with_found}
use Rattle.db_state.specs.declared.plans.Plan.{Plan}
use Rattle.db_state.specs.Plans.{IsPlan}
use Rattle.db_state.specs.Columns.{column_place, place_from}
use Rattle.db_state.specs.Lookups.{is_on_column, index_among, FoundOn}
use Rattle.db_state.specs.laws.Chains.{checked, passed_to, refused}
use Rattle.db_state.specs.laws.EachValue.{entries-each_value, count_alike}
use Rattle.db_state.specs.laws.Heads.{store_head, store_heads}
use Rattle.db_index.specs.declared.kinds.BuiltKind.{BuiltKind}
use Rattle.db_index.specs.declared.kinds.BuiltKind.TheVariants.{Context, Catalogue, Rules}
use Rattle.db_index.specs.declared.asking.Wanted.{Wanted}
use Rattle.db_index.specs.Asking.{AsksForIndex, SectionsFit, are_sub_columns, fitting, requests_in, first_unknown_name, wanted_in}
use Rattle.db_index.specs.Indexing.{IsFreeIndex, all_rows, asked_for, check_flags, check_index, columns_or_none, create_index, create_index_by, create_index_on, has_index_on, has_too_many_rows, index_made_by, is_degree, is_index_taken, passes_limit, target}
use Rattle.db_index.specs.laws.Counting.{counted, count-cons, count_insert}
use Rattle.db_index.specs.laws.AllRows.{every_row}

-- ---- the index on a column

any_among : (kind : IndexKind) (t : List ℕ) (place : ℕ) (es : List (List ℕ × Index)) → is_some (index_among kind t place es) ≡ list_any (λ (e : List ℕ × Index). is_on_column kind t place e.1) es
any_among kind t place [] = refl
any_among kind t place (e ∷ es) = go (is_on_column kind t place e.1) (any_among kind t place es)
  where
    go : (b : Bool) → is_some (index_among kind t place es) ≡ list_any (λ (e : List ℕ × Index). is_on_column kind t place e.1) es
        → is_some (cond b (Some e.1) (index_among kind t place es)) ≡ (b || list_any (λ (e : List ℕ × Index). is_on_column kind t place e.1) es)
    go true rest = refl
    go false rest = rest

pub found_on : (kind : IndexKind) (xs : Names Index) (t : List ℕ) (place : ℕ) (found : Option (List ℕ)) → FoundOn kind xs t place found → is_some found ≡ has_index_on kind xs t place
found_on kind xs t place None is = sym (ap is_some is) ∙ any_among kind t place (entries xs)
found_on kind xs t place (Some i) is = sym (ap is_some is.1.1) ∙ any_among kind t place (entries xs)

-- ---- how many indexes a table has

module _ {X : Type 0} (p : X → Bool) where
  apart : (k : List ℕ) (es : List (List ℕ × X)) → below (slice_cmp nat_cmp) k es ≡ true → find key_order k es ≡ None
  apart k es low = alike es ∙ none_below (slice_cmp nat_cmp) k es low
    where
      alike : (es : List (List ℕ × X)) → find key_order k es ≡ find (slice_cmp nat_cmp) k es
      alike [] = refl
      alike (e ∷ es) =
          ap (λ (b : Bool). cond b (Some e.1) (find key_order k es)) (key_order_tie k e.0 ∙ sym (names_tie k e.0))
          ∙ ap (cond (eq_by_cmp (slice_cmp nat_cmp) k e.0) (Some e.1)) (alike es)

  reordered : (es : List (List ℕ × X)) → rises (slice_cmp nat_cmp) es ≡ true
      → length (filter (λ (e : List ℕ × X). p e.1) (entries (from_entries {R = key_order} es))) ≡ length (filter (λ (e : List ℕ × X). p e.1) es)
  reordered [] h = ap (λ (es : List (List ℕ × X)). length (filter (λ (e : List ℕ × X). p e.1) es)) (nothing (entries (empty {X = X} {R = key_order})) (sym (len-entries (empty {X = X} {R = key_order})) ∙ len-empty key_order X))
    where
      nothing : (es : List (List ℕ × X)) → length es ≡ 0 → es ≡ []
      nothing [] h = refl
      nothing (e ∷ es) h = absurd (omega arith)
  reordered (e ∷ es) h =
      let b = and_parts (below (slice_cmp nat_cmp) e.0 es) (rises (slice_cmp nat_cmp) es) h in
      let counts = count_insert key_order p key_order_total (from_entries es) e.0 e.1 in
      let free : counted key_order p (get (from_entries {R = key_order} es) e.0) ≡ 0 = ap (counted key_order p) (get-from_entries key_order_total es e.0 ∙ apart e.0 es b.0) in
      let more = count-cons key_order p e.0 e.1 es in
      let rest = reordered es b.1 in
      omega (arith, counts, free, more, rest)

-- as many as the indexes on it
pub heads_count : (xs : Names Index) (t : List ℕ) → length (heads_of t (store_heads xs)) ≡ length (indexes_on xs t)
heads_count xs t =
    reordered (is_on_table t) (entries (store_heads xs)) (entries_rise (slice_cmp nat_cmp) (store_heads xs))
    ∙ ap (λ (es : List (List ℕ × IndexHead)). length (filter (λ (e : List ℕ × IndexHead). is_on_table t e.1) es)) (entries-each_value (slice_cmp nat_cmp) store_head nat_list_cmp_total xs)
    ∙ count_alike (λ (e : List ℕ × Index). (e.0, store_head e.1)) (λ (e : List ℕ × IndexHead). is_on_table t e.1) (λ (e : List ℕ × Index). same_list e.1.table t) (λ e. refl) (entries xs)

-- ---- the checks

or_false : (a b : Bool) → b ≡ false → (a || b) ≡ a
or_false true b h = refl
or_false false b h = h

-- no table has more rows than an index has numbers
few_rows : (m : StoreState) (t : List ℕ) (kind : BuiltKind) (x : Table) (w : Wanted) → AreTables m.tables → get m.tables t ≡ Some x → has_too_many_rows m t kind w ≡ false
few_rows m t Context x w are there =
    let is = table_is m.tables t x are there in
    let all = ap length (all_within (table_at m.tables t) is all_rows every_row) ∙ length-map (entries (table_at m.tables t).rows) (λ e. e.0) in
    let few = is.few in
    ap not (le-leb (length (rows_within (table_at m.tables t) all_rows)) mark_limit (omega (arith, all, few)))
few_rows m t Catalogue x w are there = refl
few_rows m t Rules x w are there = refl

-- what is done by what is wanted; where that is nothing, the check of its form refuses
abbrev pub done_by : Option Wanted → (Wanted → Effect) → Effect
done_by None done = Refused BadValue
done_by (Some w) done = done w

by_flags : (there texts : Bool) (found : Option Wanted) (ranged : Bool) (many_by : Wanted → Bool) (many : Bool) (i : List ℕ) (done : Wanted → Effect) → ((w : Wanted) → many_by w ≡ many)
    → check_index there texts found ranged many_by i done ≡ check_flags there texts (is_some found) ranged many i (done_by found done)
by_flags there texts None ranged many_by many i done same = refl
by_flags there texts (Some w) ranged many_by many i done same =
    ap (λ (b : Bool). refuse there (ExistsAlready i) (refuse (not texts) WrongValues (refuse (not ranged) OutOfRange (refuse b LimitReached (done w))))) (same w)

-- what fits is what is wanted
pub fitting_is : (cs : List Column) (found : Option Wanted) (w : Wanted) → found ≡ Some w → is_some (fitting cs found) ≡ true → (fitting cs found ≡ Some w) × (are_sub_columns cs w.subs ≡ true)
fitting_is cs None w is h = cc
fitting_is cs (Some v) w is h = let same : v ≡ w = cc in go (are_sub_columns cs v.subs) refl h same
  where
    go : (b : Bool) → are_sub_columns cs v.subs ≡ b → is_some (cond b (Some v) None) ≡ true → v ≡ w → (cond b (Some v) None ≡ Some w) × (are_sub_columns cs w.subs ≡ true)
    go true are h same = (ap Some same, ap (λ (u : Wanted). are_sub_columns cs u.subs) (sym same) ∙ are)
    go false are h same = cc

-- the effect by the fault that the checks of what was read found, or where they found none
module _ (m : StoreState) (i t : List ℕ) (kind : BuiltKind) (parallel : Option Whole) (x : Table) (place : ℕ) (wanted : Option Wanted) (taken texts formed ranged many : Bool) (found : Option Fault) (are : AreTables m.tables) (there : get m.tables t ≡ Some x)
    (taken_is : taken ≡ is_index_taken kind m i t place) (texts_is : texts ≡ is_text_at x.columns place) (formed_is : formed ≡ is_some (fitting x.columns wanted))
    (ranged_is : ranged ≡ is_degree parallel) (many_is : many ≡ nat_le index_limit (length (indexes_on m.indexes t)))
    (checks : (done : Effect) → Checks found (check_flags taken texts formed ranged many i done) done) where
  abbrev made_of : Wanted → Effect
  made_of w = index_made_by m i t kind place w

  abbrev made : Effect
  made = done_by (fitting x.columns wanted) made_of

  -- the effect by what was read
  as_checked : create_index_on m i t kind parallel x place wanted ≡ check_flags taken texts formed ranged many i made
  as_checked =
      ap (λ (b : Bool). check_index b (is_text_at x.columns place) (fitting x.columns wanted) (is_degree parallel) (passes_limit m t kind) i made_of) (sym taken_is)
      ∙ ap (λ (b : Bool). check_index taken b (fitting x.columns wanted) (is_degree parallel) (passes_limit m t kind) i made_of) (sym texts_is)
      ∙ ap (λ (b : Bool). check_index taken texts (fitting x.columns wanted) b (passes_limit m t kind) i made_of) (sym ranged_is)
      ∙ by_flags taken texts (fitting x.columns wanted) ranged (passes_limit m t kind) many i made_of (λ w. or_false _ _ (few_rows m t kind x w are there) ∙ sym many_is)
      ∙ ap (λ (b : Bool). check_flags taken texts b ranged many i made) (sym formed_is)

  pub faulty : (fault : Fault) → found ≡ Some fault → create_index_on m i t kind parallel x place wanted ≡ Refused (refusal_of fault)
  faulty fault is = as_checked ∙ refused found fault (check_flags taken texts formed ranged many i made) made is (checks made)

  -- where something is wanted, no check holds, and the index is made
  pub faultless : (w : Wanted) → found ≡ None → wanted ≡ Some w → formed ≡ true → SectionsFit kind w
      → IsFreeIndex m i t kind x place w × (create_index_on m i t kind parallel x place wanted ≡ index_made_by m i t kind place w)
  faultless w none is good sections =
      let fits = fitting_is x.columns wanted w is (sym formed_is ∙ good) in
      let effect = as_checked ∙ checked found (check_flags taken texts formed ranged many i made) made none (checks made) ∙ ap (λ (o : Option Wanted). done_by o made_of) fits.0 in
      let p = passed_to _ _ _ (made_of w) refl
      (ap (λ (o : Option Wanted). check_index (is_index_taken kind m i t place) (is_text_at x.columns place) o (is_degree parallel) (passes_limit m t kind) i made_of) (sym fits.0) ∙ effect) in
      let q = passed_to _ _ _ (made_of w) refl p.1 in
      let s = passed_to _ _ _ (made_of w) refl q.1 in
      let r = passed_to _ _ _ (made_of w) refl s.1 in
      (record { there = there; free = p.0; texts = not_true (is_text_at x.columns place) q.0; subs = fits.1; few = r.0; sections = sections }, effect)
    where
      not_true : (b : Bool) → not b ≡ false → b ≡ true
      not_true true h = refl
      not_true false h = cc

-- an index of which no check holds needs no more documents than there are numbers
pub no_limit_passed : (m : StoreState) (i t : List ℕ) (kind : BuiltKind) (x : Table) (place : ℕ) (w : Wanted) → IsFreeIndex m i t kind x place w
    → kinds.can_create (table_at m.tables (target t place).table) (asked_for kind w) ≡ false → ⊥
no_limit_passed m i t kind x place w free none =
    let few = or_parts (nat_le index_limit (length (indexes_on m.indexes t))) (has_too_many_rows m t kind w) free.few in
    let wrong : true ≡ false = ap not (sym none) ∙ few.1 in
    cc

-- ---- the table and the column

pub no_table : (m : StoreState) (t : List ℕ) (o : Option (List Column)) → o ≡ option_map (λ (x : Table). x.columns) (get m.tables t) → o ≡ None → get m.tables t ≡ None
no_table m t o is none = go (get m.tables t) (sym none ∙ is)
  where
    go : (p : Option Table) → None ≡ option_map (λ (x : Table). x.columns) p → p ≡ None
    go None h = refl
    go (Some x) h = cc

pub the_table : (m : StoreState) (t : List ℕ) (o : Option (List Column)) (cs : List Column)
    → o ≡ option_map (λ (x : Table). x.columns) (get m.tables t) → o ≡ Some cs → (x : Table) × (get m.tables t ≡ Some x) × (cs ≡ x.columns)
the_table m t o cs is some = go (get m.tables t) refl (sym some ∙ is)
  where
    go : (p : Option Table) → get m.tables t ≡ p → Some cs ≡ option_map (λ (x : Table). x.columns) p → (x : Table) × (get m.tables t ≡ Some x) × (cs ≡ x.columns)
    go None there h = cc
    go (Some x) there h = (x, there, cc)

place_within : (name : List ℕ) (cs : List Column) (place : ℕ) → column_place name cs ≡ Some place → place < length cs
place_within name cs place is = let far = go 0 cs is in omega (arith, far)
  where
    go : (from : ℕ) (cs : List Column) → place_from from name cs ≡ Some place → place < from + length cs
    go from [] h = cc
    go from (c ∷ cs) h = at_head (same_list name c.name) h (go (suc from) cs)
      where
        at_head : (b : Bool) → cond b (Some from) (place_from (suc from) name cs) ≡ Some place
            → (place_from (suc from) name cs ≡ Some place → place < suc from + length cs) → place < from + length (c ∷ cs)
        at_head true h rest = let same : from ≡ place = cc in omega (arith, same)
        at_head false h rest = let far = rest h in omega (arith, far)

-- ---- the effect by the table and the column

module _ (m : StoreState) (i t column : List ℕ) (kind : BuiltKind) (parameters : Option (List ℕ)) (parallel : Option Whole) where
  abbrev by_place : Table → ℕ → Effect
  by_place x place = create_index_by m i t kind parallel (requests_in kind parameters) x place

  abbrev by_table : Table → Effect
  by_table x = with_found (column_place column x.columns) (UnknownName column) (by_place x)

  pub unknown_table : get m.tables t ≡ None → create_index m i t column kind parameters parallel ≡ Refused (UnknownName t)
  unknown_table none = ap (λ (o : Option Table). with_found o (UnknownName t) by_table) none

  pub unknown_column : (x : Table) → get m.tables t ≡ Some x → column_place column x.columns ≡ None → create_index m i t column kind parameters parallel ≡ Refused (UnknownName column)
  unknown_column x there none = ap (λ (o : Option Table). with_found o (UnknownName t) by_table) there ∙ ap (λ (o : Option ℕ). with_found o (UnknownName column) (by_place x)) none

  -- The column stands at this place of the table with these columns, of which this was asked for, and the effect is by all these.
  pub record IsOnColumn (columns : List Column) (place : ℕ) (unknown : Option (List ℕ)) (found : Option Wanted) : Type 0 where
    pub table : Table
    pub there : get m.tables t ≡ Some table
    pub same : columns ≡ table.columns
    pub few : place < length table.columns
    pub asks : AsksForIndex m.preferences table.columns (requests_in kind parameters) (record { unknown = unknown; wanted = found })
    pub effect : create_index m i t column kind parameters parallel ≡ create_index_by m i t kind parallel (requests_in kind parameters) table place

  pub on_column : (read : Option (List Column)) (columns : List Column) (place : ℕ) (unknown : Option (List ℕ)) (found : Option Wanted) → read ≡ option_map (λ (x : Table). x.columns) (get m.tables t)
      → AsksForIndex m.preferences (columns_or_none read) (requests_in kind parameters) (record { unknown = unknown; wanted = found })
      → read ≡ Some columns → column_place column columns ≡ Some place → IsOnColumn columns place unknown found
  on_column read columns place unknown found is_read asks some is =
      let x = the_table m t read columns is_read some in
      let at : column_place column x.0.columns ≡ Some place = ap (column_place column) (sym x.2) ∙ is in
      record {
        table = x.0;
        there = x.1;
        same = x.2;
        few = place_within column x.0.columns place at;
        asks = subst (λ (cs : List Column). AsksForIndex m.preferences cs (requests_in kind parameters) (record { unknown = unknown; wanted = found })) (ap columns_or_none some ∙ x.2) asks;
        effect = ap (λ (o : Option Table). with_found o (UnknownName t) by_table) x.1 ∙ ap (λ (o : Option ℕ). with_found o (UnknownName column) (by_place x.0)) at;
      }

-- and by what PARAMETERS asks for
pub unknown_asked : (m : StoreState) (i t : List ℕ) (kind : BuiltKind) (parallel : Option Whole) (requests : Option (List Request)) (x : Table) (place : ℕ) (name : List ℕ)
    → first_unknown_name m.preferences x.columns requests ≡ Some name → create_index_by m i t kind parallel requests x place ≡ Refused (UnknownName name)
unknown_asked m i t kind parallel requests x place name is = ap (λ (o : Option (List ℕ)). refuse_by o UnknownName (create_index_on m i t kind parallel x place (wanted_in m.preferences requests))) is

pub known_asked : (m : StoreState) (i t : List ℕ) (kind : BuiltKind) (parallel : Option Whole) (requests : Option (List Request)) (x : Table) (place : ℕ) (wanted : Option Wanted)
    → first_unknown_name m.preferences x.columns requests ≡ None → wanted ≡ wanted_in m.preferences requests → create_index_by m i t kind parallel requests x place ≡ create_index_on m i t kind parallel x place wanted
known_asked m i t kind parallel requests x place wanted none is =
    ap (λ (o : Option (List ℕ)). refuse_by o UnknownName (create_index_on m i t kind parallel x place (wanted_in m.preferences requests))) none ∙ ap (create_index_on m i t kind parallel x place) (sym is)

-- a plan of one effect is that of an equal one
pub plan_as : (e f : Effect) (line : List ℕ) (c : Content) (plan : Plan) → e ≡ f → IsPlan f line c plan → IsPlan e line c plan
plan_as e f line c plan is fits = subst (λ (x : Effect). IsPlan x line c plan) (sym is) fits
