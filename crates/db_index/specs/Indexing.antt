-- What CREATE INDEX does.
use Rattle.std.specs.Prelude.{ℕ, pos, negsuc, ◌-◌, ◌^◌, ◌≡◌, nat_le, Bool, true, false, not, ◌||◌, ◌&&◌, is_some, ◌<◌, List, [], ◌∷◌, length, Option, Some, None, Result, Vec, IfOk, IfSome, MatchOption, codes, refl}
use Rattle.std.specs.declared.alloc.Global.{Global}
use Rattle.std.specs.Bool.{if◌then◌else◌}
use Rattle.std.specs.List.{list_any}
use Rattle.std.specs.Option.{option_map, unwrap_or}
use Rattle.std.specs.FinMap.{get, entries}
use Rattle.std.proofs.Common.{inl, inr, ap}
use Rattle.ct_entry.specs.Maps.{Names}
use Rattle.tb_table.specs.declared.columns.Column.{Column}
use Rattle.tb_table.specs.declared.columns.Target.{Target}
use Rattle.tb_table.specs.Tables.{Table, docs_columns}
use Rattle.tx_settings.specs.declared.preferences.Prefs.{Prefs}
use Rattle.tx_settings.specs.Defaults.{default_prefs}
use Rattle.tx_prefs.specs.declared.requests.Request.{Request}
use Rattle.ix_context.specs.declared.ranges.KeyRange.{KeyRange}
use Rattle.ix_kinds.specs.Targets.{is_text_at}
use Rattle.ix_kinds.specs.Rows.{row_keys_of, table_at}
use Rattle.ix_kinds.specs.Statements.{with_index}
use Rattle.st_parse.specs.declared.statements.Whole.{Whole}
use Rattle.st_parse.specs.declared.statements.Whole.TheVariants.{Fits, Beyond}
use Rattle.db_names.specs.declared.heads.IndexKind.{IndexKind}
use Rattle.rule_index.specs.RuleIndexes.{new_rules, row_outcome}
use Rattle.ix_indexes.specs.Indexes.{Index, AskedFor, kinds}
use Rattle.db_state.specs.Lookups.{is_on_column}
use Rattle.db_cond.specs.Faults.{UnknownName, ExistsAlready, WrongValues, BadValue, OutOfRange, LimitReached}
use Rattle.db_state.specs.States.{StoreState, indexes_on, index_limit, named_thesauri}
use Rattle.db_state.specs.Effects.{Effect, Works, Creates, refuse, refuse_by, whole_count, with_found, Refused}
use Rattle.db_state.specs.Columns.{column_place}
use Rattle.ct_keep.specs.declared.keepers.KeepFault.{KeepFault}
use Rattle.ct_keep.specs.Content.{Content}
use Rattle.ct_entry.specs.Changes.{spell}
use Rattle.db_state.specs.declared.plans.Plan.{Plan}
use Rattle.db_index.specs.declared.kinds.BuiltKind.{BuiltKind}
use Rattle.db_index.specs.declared.kinds.BuiltKind.TheVariants.{Context, Catalogue, Rules}
use Rattle.db_index.specs.declared.asking.Wanted.{Wanted}
use Rattle.db_index.specs.Kinds.{index_kind}
use Rattle.db_index.specs.Asking.{AsksForIndex, SectionsFit, are_sub_columns, fitting, as_wanted, first_unknown_name, requests_in, wanted_in}
use Rattle.db_state.specs.Plans.{IsPlan, DoneLines, line_for_all}

-- whether a column, by its place in the table, has an index of this kind
abbrev pub has_index_on : IndexKind → Names Index → List ℕ → ℕ → Bool
has_index_on kind xs t place = list_any (λ (e : List ℕ × Index). is_on_column kind t place e.1) (entries xs)

-- all row keys, from the least of 64 bits to the greatest
abbrev pub all_rows : KeyRange
all_rows = record { from = record { 0 = negsuc (2 ^ 63 - 1) }; to = record { 0 = pos (2 ^ 63 - 1) } }

abbrev pub target : List ℕ → ℕ → Target
target t place = record { table = t; column = place }

abbrev pub nothing_more : AskedFor
nothing_more = inr (inr tt)

-- what the kind of index asks for beside the preferences: of a CONTEXT index all rows, of a catalogue its sub-indexes, of a rule index nothing
abbrev pub asked_for : BuiltKind → Wanted → AskedFor
asked_for Context w = inl all_rows
asked_for Catalogue w = inr (inl w.subs)
asked_for Rules w = nothing_more

abbrev pub is_thread_count : Option ℕ → Bool
is_thread_count None = false
is_thread_count (Some n) = nat_le 1 n && nat_le n 16

-- what PARALLEL gives is a number of threads from 1 to 16, or it isn't there
abbrev pub is_degree : Option Whole → Bool
is_degree None = true
is_degree (Some n) = is_thread_count (whole_count n)

-- how many threads may read the texts: as many as PARALLEL gives, or `degree` where it gives no number from 1 to 16
abbrev pub threads_taken : Option Whole → ℕ → ℕ
threads_taken None degree = degree
threads_taken (Some n) degree = if is_thread_count (whole_count n) then unwrap_or (whole_count n) degree else degree

-- The checks in their order: whether there is an index of the name or on the column, whether that is a column of texts, whether PARAMETERS is of its form and its sub-indexes
-- have columns that they may have, whether PARALLEL is in its range, and whether a limit would be passed.
abbrev pub check_index : Bool → Bool → Option Wanted → Bool → (Wanted → Bool) → List ℕ → (Wanted → Effect) → Effect
check_index there texts found ranged many i done =
    refuse there (ExistsAlready i) (refuse (not texts) WrongValues (with_found found BadValue (λ w. refuse (not ranged) OutOfRange (refuse (many w) LimitReached (done w)))))

-- the same by whether these are so
abbrev pub check_flags : Bool → Bool → Bool → Bool → Bool → List ℕ → Effect → Effect
check_flags there texts formed ranged many i done =
    refuse there (ExistsAlready i) (refuse (not texts) WrongValues (refuse (not formed) BadValue (refuse (not ranged) OutOfRange (refuse many LimitReached done))))

abbrev pub index_created : List ℕ
index_created = codes "Index created.\n"

-- the line of every CREATE INDEX that makes one
abbrev pub index_made : Option DoneLines
index_made = Some (line_for_all index_created)

-- by the thesauri as they are now, with which a rule index reads the rules of its rows
abbrev pub with_new_index : StoreState → List ℕ → List ℕ → BuiltKind → ℕ → Wanted → StoreState
with_new_index m i t kind place w = record m { indexes = with_index kinds (asked_for kind w) (named_thesauri m) m.tables i (target t place) w.prefs m.indexes }

-- there are more rows than an index has numbers
abbrev pub has_too_many_rows : StoreState → List ℕ → BuiltKind → Wanted → Bool
has_too_many_rows m t kind w = not (kinds.can_create (table_at m.tables t) (asked_for kind w))

-- the table has as many indexes as it may have, or too many rows
abbrev pub passes_limit : StoreState → List ℕ → BuiltKind → Wanted → Bool
passes_limit m t kind w = nat_le index_limit (length (indexes_on m.indexes t)) || has_too_many_rows m t kind w

-- whether the name is that of an index, or the column has one of this kind
abbrev pub is_index_taken : BuiltKind → StoreState → List ℕ → List ℕ → ℕ → Bool
is_index_taken kind m i t place = is_some (get m.indexes i) || has_index_on (index_kind kind) m.indexes t place

-- the index is made
abbrev pub index_made_by : StoreState → List ℕ → List ℕ → BuiltKind → ℕ → Wanted → Effect
index_made_by m i t kind place w = Works (with_new_index m i t kind place w) index_created (Creates m (asked_for kind w) i (target t place) w.prefs)

abbrev pub create_index_on : StoreState → List ℕ → List ℕ → BuiltKind → Option Whole → Table → ℕ → Option Wanted → Effect
create_index_on m i t kind parallel x place found =
    check_index (is_index_taken kind m i t place) (is_text_at x.columns place) (fitting x.columns found) (is_degree parallel) (passes_limit m t kind) i
    (λ w. index_made_by m i t kind place w)

-- no check holds
pub record IsFreeIndex (m : StoreState) (i t : List ℕ) (kind : BuiltKind) (x : Table) (place : ℕ) (w : Wanted) : Type 0 where
  pub there : get m.tables t ≡ Some x
  pub free : is_index_taken kind m i t place ≡ false
  pub texts : is_text_at x.columns place ≡ true
  pub subs : are_sub_columns x.columns w.subs ≡ true
  pub few : passes_limit m t kind w ≡ false
  -- and what is wanted was asked for
  pub sections : SectionsFit kind w

-- what follows where the table and the column are there
abbrev pub create_index_by : StoreState → List ℕ → List ℕ → BuiltKind → Option Whole → Option (List Request) → Table → ℕ → Effect
create_index_by m i t kind parallel requests x place =
    refuse_by (first_unknown_name m.preferences x.columns requests) UnknownName (create_index_on m i t kind parallel x place (wanted_in m.preferences requests))

-- How many threads PARALLEL gives matters to nothing but the time that it takes.
abbrev pub create_index : StoreState → List ℕ → List ℕ → List ℕ → BuiltKind → Option (List ℕ) → Option Whole → Effect
create_index m i t column kind parameters parallel =
    with_found (get m.tables t) (UnknownName t) (λ (x : Table).
    with_found (column_place column x.columns) (UnknownName column) (λ (place : ℕ).
    create_index_by m i t kind parallel (requests_in kind parameters) x place))

-- ---- what its functions give

-- the changes of a new index; none where it would need more documents than there are numbers
abbrev pub MakesOver : StoreState → AskedFor → List ℕ → Target → Prefs → Option (List (List ℕ × Option (List ℕ))) → Type 0
MakesOver m asked i on prefs batch =
    MatchOption batch (kinds.can_create (table_at m.tables on.table) asked ≡ false) (λ changes. changes ≡ spell (kinds.create_changes asked (named_thesauri m) (table_at m.tables on.table) i on prefs))

-- those of what is wanted, on a column by its place
abbrev pub MakesIndex : StoreState → List ℕ → List ℕ → BuiltKind → ℕ → Wanted → Option (List (List ℕ × Option (List ℕ))) → Type 0
MakesIndex m i t kind place w batch = MakesOver m (asked_for kind w) i (target t place) w.prefs batch

-- what the statement comes to where no check holds
abbrev pub PlansFreeIndex : StoreState → Content → List ℕ → List ℕ → BuiltKind → ℕ → Wanted → Result Plan KeepFault → Type 0
PlansFreeIndex m c i t kind place w result =
    (x : Table) → place < 256 → IsFreeIndex m i t kind x place w → IfOk result (IsPlan (index_made_by m i t kind place w) index_created c)

-- what it comes to on a column, by its place, of a table with these columns
abbrev pub PlansIndex : StoreState → Content → Table → List ℕ → List ℕ → BuiltKind → Option Whole → List Column → ℕ → Option Wanted → Result Plan KeepFault → Type 0
PlansIndex m c x i t kind parallel columns place found result =
    place < 256 → columns ≡ x.columns → IfSome found (SectionsFit kind) → IfOk result (IsPlan (create_index_on m i t kind parallel x place found) index_created c)

-- the columns of a table that were read, if it is there; and none where it isn't
abbrev pub columns_read : Option (Vec Column Global) → Option (List Column)
columns_read found = option_map (λ (v : Vec Column Global). v.items) found

abbrev pub columns_or_none : Option (List Column) → List Column
columns_or_none None = []
columns_or_none (Some cs) = cs

-- What the statement comes to, where the table has these columns, if it is there, and PARAMETERS asks for this.
abbrev pub PlansAsked : StoreState → Content → List ℕ → List ℕ → List ℕ → BuiltKind → Option Whole → Option (Vec Column Global) → Option (List ℕ) → Option Wanted → Result Plan KeepFault → Type 0
PlansAsked m c i t column kind parallel read unknown found result =
    (parameters : Option (List ℕ)) → columns_read read ≡ option_map (λ (x : Table). x.columns) (get m.tables t) → AsksForIndex m.preferences (columns_or_none (columns_read read)) (requests_in kind parameters) (record { unknown = unknown; wanted = found })
    → IfOk result (IsPlan (create_index m i t column kind parameters parallel) index_created c)

-- ---- computed examples: an index on a column of a table with the columns id, body and price; the body, a CLOB, is at the place 1

abbrev by_defaults : Wanted
by_defaults = as_wanted default_prefs []

abbrev by_price : Wanted
by_price = as_wanted default_prefs ((codes "price" ∷ []) ∷ [])

abbrev of_a_text : Wanted
of_a_text = as_wanted default_prefs ((codes "body" ∷ []) ∷ [])

a_good_index : (done : Wanted → Effect) → check_index false (is_text_at docs_columns 1) (fitting docs_columns (Some by_price)) true (λ w. false) (codes "ci") done ≡ done by_price
a_good_index done = refl

there_and_on_a_number : (done : Wanted → Effect) → check_index true (is_text_at docs_columns 2) None true (λ w. true) (codes "di") done ≡ Refused (ExistsAlready (codes "di"))
there_and_on_a_number done = refl

on_a_number : (done : Wanted → Effect) → check_index false (is_text_at docs_columns 2) None true (λ w. true) (codes "di") done ≡ Refused WrongValues
on_a_number done = refl

of_no_form : (done : Wanted → Effect) → check_index false (is_text_at docs_columns 1) None false (λ w. true) (codes "di") done ≡ Refused BadValue
of_no_form done = refl

of_a_clob : (done : Wanted → Effect) → check_index false (is_text_at docs_columns 1) (fitting docs_columns (Some of_a_text)) false (λ w. true) (codes "ci") done ≡ Refused BadValue
of_a_clob done = refl

one_index_too_many : (done : Wanted → Effect) → check_index false (is_text_at docs_columns 1) (fitting docs_columns (Some by_defaults)) true (λ w. true) (codes "di") done ≡ Refused LimitReached
one_index_too_many done = refl

-- PARALLEL is looked at before the limits
seventeen_threads : (done : Wanted → Effect) → check_index false (is_text_at docs_columns 1) (fitting docs_columns (Some by_defaults)) (is_degree (Some (Fits (pos 17)))) (λ w. true) (codes "di") done ≡ Refused OutOfRange
seventeen_threads done = refl

sixteen_threads : (is_degree (Some (Fits (pos 16))) ≡ true) × (is_degree (Some (Fits (pos 0))) ≡ false) × (is_degree (Some Beyond) ≡ false)
sixteen_threads = (refl, refl, refl)

by_the_statement : (threads_taken (Some (Fits (pos 16))) 1 ≡ 16) × (threads_taken None 4 ≡ 4) × (threads_taken (Some (Fits (pos 17))) 4 ≡ 4)
by_the_statement = (refl, refl, refl)

-- a catalogue and a rule index may have any number of rows
no_row_too_many : (m : StoreState) (t : List ℕ) (w : Wanted) → has_too_many_rows m t Catalogue w ≡ false
no_row_too_many m t w = refl

no_rule_too_many : (m : StoreState) (t : List ℕ) (w : Wanted) → has_too_many_rows m t Rules w ≡ false
no_rule_too_many m t w = refl

-- in a new rule index no row of the table waits: the rule of each was taken, or is faulty, by the thesauri of the state
each_rule_settled : (m : StoreState) (x : Table) (w : Wanted)
    → kinds.new_body (asked_for Rules w) (named_thesauri m) x (target (codes "rules") 1) w.prefs ≡ inr (inr (new_rules (row_outcome (named_thesauri m) x 1 w.prefs) (row_keys_of x)))
each_rule_settled m x w = refl

-- the first name that isn't there comes before all other checks
unknown_column_first : (m : StoreState) (i t : List ℕ) (parallel : Option Whole) (requests : Option (List Request)) (x : Table) (place : ℕ)
    → first_unknown_name m.preferences x.columns requests ≡ Some (codes "nope") → create_index_by m i t Catalogue parallel requests x place ≡ Refused (UnknownName (codes "nope"))
unknown_column_first m i t parallel requests x place is =
    ap (λ o. refuse_by o UnknownName (create_index_on m i t Catalogue parallel x place (wanted_in m.preferences requests))) is
