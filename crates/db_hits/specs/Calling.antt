-- What CTX_QUERY.RESULT_SET does.
use Rattle.std.specs.Prelude.{ℕ, ℤ, pos, ◌≡◌, Bool, true, false, not, ◌||◌, List, [], ◌∷◌, Option, Some, None, codes, refl}
use Rattle.std.specs.Option.{option_and_then}
use Rattle.std.specs.FinMap.{get}
use Rattle.std.specs.Str.{chars}
use Rattle.st_parse.specs.declared.statements.Arg.{Arg}
use Rattle.st_parse.specs.declared.statements.Arg.TheVariants.{Text as TextArg, Number as NumberArg}
use Rattle.st_parse.specs.declared.statements.Whole.TheVariants.{Fits}
use Rattle.tb_table.specs.declared.columns.Column.{Column}
use Rattle.tb_table.specs.Tables.{Table}
use Rattle.rs_result.specs.declared.descriptors.ResultPart.{ResultPart}
use Rattle.rs_result.specs.declared.descriptors.ResultPart.TheVariants.{Count, Hits, Group}
use Rattle.rs_result.specs.Reading.{descriptor}
use Rattle.ix_kinds.specs.Rows.{table_at}
use Rattle.ix_indexes.specs.Indexes.{Index, kinds}
use Rattle.db_names.specs.declared.heads.IndexKind.{IndexKind}
use Rattle.db_names.specs.declared.heads.IndexKind.TheVariants.{Context, Catalogue}
use Rattle.db_cond.specs.Faults.{UnknownName, NoIndexOfKind, WrongValues, BadValue, OutOfRange}
use Rattle.db_call.specs.Arguments.{are_texts, argument_name, argument_text}
use Rattle.db_state.specs.States.{StoreState}
use Rattle.db_state.specs.Effects.{Effect, Refused, Does, refuse, refuse_by, with_found}
use Rattle.db_state.specs.Columns.{first_unknown}
use Rattle.db_find.specs.Finding.{search_refusal, search_rows}
use Rattle.db_find.specs.Searches.{Search, Contains}
use Rattle.db_hits.specs.Descriptors.{fit_parts, has_bad_cut, named_columns}
use Rattle.db_hits.specs.Parts.{result_text}

-- ---- the arguments: an index, a query text and a descriptor

-- the query text; the empty one where there is none, which no call comes to that isn't refused
abbrev pub text_or_empty : Option (List ℕ) → List ℕ
text_or_empty None = []
text_or_empty (Some text) = text

abbrev pub query_in : List Arg → List ℕ
query_in args = text_or_empty (argument_text 1 args)

-- the parts of the descriptor, where the third argument is a text that is one
abbrev pub parts_in : List Arg → Option (List ResultPart)
parts_in args = option_and_then (λ text. descriptor (chars text)) (argument_text 2 args)

-- ---- the hits

-- what CONTAINS(.., query) > 0 asks of an index; its column is that of the index, and is looked up nowhere
abbrev pub search_for : List ℕ → Search
search_for query = Contains [] query None (Fits (pos 0))

-- THE HITS: the rows that CONTAINS finds with a score above 0, with their scores, in the order of their keys
abbrev pub hits : StoreState → Index → List ℕ → List (ℤ × ℕ)
hits m x query = search_rows m.tables m.thesauri x (search_for query)

abbrev pub table_of : StoreState → Index → Table
table_of m x = table_at m.tables x.table

-- ---- the statement

-- another kind of indexes has no hits
abbrev pub is_other_kind : IndexKind → Bool
is_other_kind Context = false
is_other_kind kind = true

-- what follows the checks of the arguments: the query text is refused, or the hits are printed
abbrev pub search_effect : StoreState → Index → List ℕ → List ResultPart → Effect
search_effect m x query parts =
    refuse_by (search_refusal m.tables m.thesauri x (search_for query)) (λ refusal. refusal)
    (Does m (result_text (table_of m x) parts (hits m x query)))

-- the checks in their order, where the table has these columns, by whether the index is of another kind and whether the arguments are three texts
abbrev pub check_parts : List Column → Bool → Bool → List ResultPart → Effect → Effect
check_parts columns other texts parts done =
    refuse_by (first_unknown (named_columns parts) columns) UnknownName
    (refuse other NoIndexOfKind
    (refuse (not texts || not (fit_parts columns parts)) WrongValues
    (refuse (has_bad_cut parts) OutOfRange
    done)))

-- Of an index that is there. A text that is no descriptor names nothing.
abbrev pub result_of : StoreState → Index → List Arg → Option (List ResultPart) → Effect
result_of m x args (Some parts) =
    check_parts (table_of m x).columns (is_other_kind (kinds.kind x.body)) (are_texts 3 args) parts
    (search_effect m x (query_in args) parts)
result_of m x args None = refuse (is_other_kind (kinds.kind x.body)) NoIndexOfKind (refuse (not (are_texts 3 args)) WrongValues (Refused BadValue))

-- by the name of the index, where the first argument spells one
abbrev pub result_named : StoreState → List Arg → Option (List ℕ) → Effect
result_named m args (Some i) = with_found (get m.indexes i) (UnknownName i) (λ (x : Index). result_of m x args (parts_in args))
result_named m args None = refuse (not (are_texts 3 args)) WrongValues (Refused BadValue)

-- WHAT RESULT_SET DOES
abbrev pub result_set : StoreState → List Arg → Effect
result_set m args = result_named m args (argument_name 0 args)

-- ---- computed examples
abbrev asks : List ℕ → List Arg
asks descriptor = TextArg (codes "di") ∷ TextArg (codes "red") ∷ TextArg descriptor ∷ []

its_parts : parts_in (asks (codes "count / hits 1 to 2 / group price")) ≡ Some (Count ∷ Hits 1 2 [] ∷ Group (codes "price") ∷ [])
unfolding chars
its_parts = refl

-- a name that is none, and too few arguments beside it
no_name : (m : StoreState) → result_set m (TextArg (codes "no name") ∷ TextArg [] ∷ TextArg (codes "count") ∷ []) ≡ Refused BadValue
no_name m = refl

no_name_and_a_number : (m : StoreState) → result_set m (TextArg (codes "no name") ∷ NumberArg (Fits (pos 1)) ∷ []) ≡ Refused WrongValues
no_name_and_a_number m = refl

-- of a catalogue, whose table lacks the column too: the column comes first, and then the kind, and then the number of arguments
abbrev columns_of : List Column
columns_of = []

column_before_kind : (done : Effect) → check_parts columns_of true false (Group (codes "price") ∷ []) done ≡ Refused (UnknownName (codes "price"))
column_before_kind done = refl

kind_before_arguments : (done : Effect) → check_parts columns_of true false (Hits 2 1 [] ∷ []) done ≡ Refused NoIndexOfKind
kind_before_arguments done = refl

arguments_before_numbers : (done : Effect) → check_parts columns_of false false (Hits 2 1 [] ∷ []) done ≡ Refused WrongValues
arguments_before_numbers done = refl

numbers_last : (done : Effect) → check_parts columns_of false true (Count ∷ Hits 2 1 [] ∷ []) done ≡ Refused OutOfRange
numbers_last done = refl

none_fails : (done : Effect) → check_parts columns_of false true (Count ∷ Hits 1 2 [] ∷ []) done ≡ done
none_fails done = refl

a_catalogue : is_other_kind Catalogue ≡ true
a_catalogue = refl
