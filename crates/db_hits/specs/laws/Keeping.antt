-- RESULT_SET only looks.
use Rattle.std.specs.Prelude.{not, ◌||◌, List, ℕ, Option, Some, None, refl}
use Rattle.std.specs.FinMap.{get}
use Rattle.st_parse.specs.declared.statements.Arg.{Arg}
use Rattle.tb_table.specs.declared.columns.Column.{Column}
use Rattle.rs_result.specs.declared.descriptors.ResultPart.{ResultPart}
use Rattle.ix_indexes.specs.Indexes.{Index, kinds}
use Rattle.db_cond.specs.Faults.{UnknownName, NoIndexOfKind, WrongValues, OutOfRange}
use Rattle.db_call.specs.Arguments.{are_texts, argument_name}
use Rattle.db_state.specs.States.{StoreState}
use Rattle.db_state.specs.Effects.{OnlyLooks}
use Rattle.db_state.specs.Columns.{first_unknown}
use Rattle.db_state.specs.laws.OnlyLooking.{only_looks_by, only_looks_found, only_looks_unless}
use Rattle.db_find.specs.Finding.{search_refusal}
use Rattle.db_hits.specs.Calling.{is_other_kind, parts_in, query_in, result_named, result_of, result_set, search_for, table_of}
use Rattle.db_hits.specs.Descriptors.{fit_parts, has_bad_cut, named_columns}

of_looks : (m : StoreState) (x : Index) (args : List Arg) (parts : Option (List ResultPart)) → OnlyLooks m (result_of m x args parts)
of_looks m x args (Some parts) =
    let columns : List Column = (table_of m x).columns in
    only_looks_unless m (first_unknown (named_columns parts) columns) UnknownName _
    (only_looks_by m (is_other_kind (kinds.kind x.body)) NoIndexOfKind _
    (only_looks_by m (not (are_texts 3 args) || not (fit_parts columns parts)) WrongValues _
    (only_looks_by m (has_bad_cut parts) OutOfRange _
    (only_looks_unless m (search_refusal m.tables m.thesauri x (search_for (query_in args))) (λ refusal. refusal) _ refl))))
of_looks m x args None = only_looks_by m (is_other_kind (kinds.kind x.body)) NoIndexOfKind _ (only_looks_by m (not (are_texts 3 args)) WrongValues _ tt)

named_looks_only : (m : StoreState) (args : List Arg) (name : Option (List ℕ)) → OnlyLooks m (result_named m args name)
named_looks_only m args (Some i) = only_looks_found m (get m.indexes i) (UnknownName i) _ (λ x. of_looks m x args (parts_in args))
named_looks_only m args None = only_looks_by m (not (are_texts 3 args)) WrongValues _ tt

pub result_only_looks : (m : StoreState) (args : List Arg) → OnlyLooks m (result_set m args)
result_only_looks m args = named_looks_only m args (argument_name 0 args)
