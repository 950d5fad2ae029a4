-- How much CTX_QUERY.RESULT_SET looks up, and how much it may.
use Rattle.std.specs.Prelude.{ℕ, ◌*◌, ◌≡◌, List, [], ◌∷◌, length, Option, Some, None, codes, refl}
use Rattle.std.specs.Bool.{if◌then◌else◌}
use Rattle.std.specs.FinMap.{get}
use Rattle.ct_keep.specs.Content.{Content}
use Rattle.ct_keep.specs.KeeperViews.{Counts, KeeperView}
use Rattle.ct_keep.specs.Looks.{no_looks, RisesBy}
use Rattle.st_parse.specs.declared.statements.Arg.{Arg}
use Rattle.st_parse.specs.declared.statements.Arg.TheVariants.{Text as TextArg}
use Rattle.rs_result.specs.declared.descriptors.ResultPart.{ResultPart}
use Rattle.ix_search.specs.Looking.{foxes}
use Rattle.ix_search.specs.Finding.{three_rows}
use Rattle.ix_indexes.specs.Indexes.{Index, as_index}
use Rattle.db_call.specs.Arguments.{argument_name}
use Rattle.db_looks.specs.Allowances.{Allowance, CountsWithin}
use Rattle.db_state.specs.States.{StoreState, OverStates}
use Rattle.db_state.specs.Effects.{Effect, is_done}
use Rattle.db_find.specs.Looking.{four_rows_of_fox, search_allowance, search_looks}
use Rattle.db_hits.specs.Calling.{hits, parts_in, query_in, result_set, search_for, table_of}
use Rattle.db_hits.specs.Descriptors.{named_texts}

-- no parts where there is no descriptor
abbrev pub parts_or_none : Option (List ResultPart) → List ResultPart
parts_or_none None = []
parts_or_none (Some parts) = parts

-- HOW MANY TEXTS RESULT_SET READS at most: of each hit the text of each column of texts that the descriptor names
abbrev pub result_texts : StoreState → Index → List ℕ → List ResultPart → ℕ
result_texts m x query parts = length (hits m x query) * length (named_texts parts (table_of m x).columns)

-- ---- what it looks up at most

-- in an index of this name: these texts, and the rows of postings that the search looks at
abbrev pub found_looks : Content → StoreState → List ℕ → Index → List ℕ → List ResultPart → Counts
found_looks c m i x query parts = record (search_looks c m.tables m.thesauri i x (search_for query)) { texts = result_texts m x query parts }

-- where it is refused, nothing
abbrev pub looks_by : Effect → Counts → Counts
looks_by effect most = if is_done effect then most else no_looks

abbrev pub index_looks : Content → StoreState → List ℕ → Option Index → List Arg → Counts
index_looks c m i None args = no_looks
index_looks c m i (Some x) args = found_looks c m i x (query_in args) (parts_or_none (parts_in args))

abbrev pub named_looks : Content → StoreState → List Arg → Option (List ℕ) → Counts
named_looks c m args None = no_looks
named_looks c m args (Some i) = index_looks c m i (get m.indexes i) args

-- WHAT RESULT_SET LOOKS UP AT MOST
abbrev pub result_looks : Content → StoreState → List Arg → Counts
result_looks c m args = looks_by (result_set m args) (named_looks c m args (argument_name 0 args))

-- It looked up no more than that, over each state that the content stands for.
abbrev pub ResultLooksFew : {K : Type 0} → (K → KeeperView) → K → K → List Arg → Type 0
ResultLooksFew view old new args = OverStates view old (λ m c. RisesBy (result_looks c m args) (view old).counts (view new).counts)

-- ---- what it may look up, by rows

-- where it is refused: nothing
abbrev pub refused_allowance : Allowance
refused_allowance = record { texts = Some 0; rows = Some 0; rules = None }

-- where it isn't: these texts, and as many rows of postings as the search may look up in its index
abbrev pub found_allowance : Content → StoreState → List ℕ → Index → List ℕ → List ResultPart → Allowance
found_allowance c m i x query parts = record {
  texts = Some (result_texts m x query parts);
  rows = Some (search_allowance c m.thesauri i x (search_for query));
  rules = None;
}

abbrev pub index_allowance : Content → StoreState → List ℕ → Option Index → List Arg → Allowance
index_allowance c m i None args = refused_allowance
index_allowance c m i (Some x) args = found_allowance c m i x (query_in args) (parts_or_none (parts_in args))

abbrev pub named_allowance : Content → StoreState → List Arg → Option (List ℕ) → Allowance
named_allowance c m args None = refused_allowance
named_allowance c m args (Some i) = index_allowance c m i (get m.indexes i) args

abbrev pub allowance_by : Effect → Allowance → Allowance
allowance_by effect most = if is_done effect then most else refused_allowance

-- WHAT RESULT_SET MAY LOOK UP of a content that stands for a state
abbrev pub result_allowance : Content → StoreState → List Arg → Allowance
result_allowance c m args = allowance_by (result_set m args) (named_allowance c m args (argument_name 0 args))

-- WHAT LOOKS UP NO MORE THAN RESULT_SET DOES AT MOST is within what it may.
abbrev pub ResultsLookFew : Type 0
ResultsLookFew = (c : Content) (m : StoreState) (args : List Arg) (old new : Counts) → RisesBy (result_looks c m args) old new → CountsWithin (result_allowance c m args) old new

-- ---- computed examples: a name that is none, and the query `fox` in the index `di`, in a content that has three rows of it
nothing_where_it_is_refused : (c : Content) (m : StoreState) → result_allowance c m (TextArg (codes "no name") ∷ TextArg [] ∷ TextArg (codes "count") ∷ []) ≡ refused_allowance
nothing_where_it_is_refused c m = refl

four_rows : (m : StoreState) (parts : List ResultPart) → (found_allowance foxes m (codes "di") (as_index three_rows) (codes "fox") parts).rows ≡ Some 4
four_rows m parts = λ i. Some (four_rows_of_fox m.thesauri i)
