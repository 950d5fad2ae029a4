-- What RESULT_SET does is the same in states that are alike.
use Rattle.std.proofs.Common.{◌≡◌, ℕ, Bool, List, Option, Some, None, refl, ap, ◌∙◌}
use Rattle.std.specs.Prelude.{ℤ, ◌||◌, not}
use Rattle.st_parse.specs.declared.statements.Arg.{Arg}
use Rattle.tb_table.specs.declared.columns.Column.{Column}
use Rattle.rs_result.specs.declared.descriptors.ResultPart.{ResultPart}
use Rattle.db_names.specs.declared.heads.IndexKind.{IndexKind}
use Rattle.ix_indexes.specs.Indexes.{Index, kinds}
use Rattle.db_cond.specs.Faults.{BadValue, NoIndexOfKind, OutOfRange, Refusal, UnknownName, WrongValues}
use Rattle.db_call.specs.Arguments.{are_texts, argument_name}
use Rattle.db_state.specs.States.{StoreState}
use Rattle.db_state.specs.Columns.{first_unknown}
use Rattle.db_state.specs.Effects.{Effect, Does, Refused, refuse, refuse_by}
use Rattle.db_state.specs.Alike.{DoesSamePlain, plain_state, plain_effect, plain_index}
use Rattle.db_state.specs.laws.Alike.{kind_plain}
use Rattle.db_state.specs.laws.AlikeChecks.{does_plain, refuse_by_same, refuse_same, with_named_same}
use Rattle.db_find.specs.Finding.{search_refusal}
use Rattle.db_find.specs.laws.Alike.{search_refusal-plain, search_rows-plain}
use Rattle.db_hits.specs.Calling.{check_parts, hits, is_other_kind, parts_in, query_in, result_named, result_of, result_set, search_effect, search_for, table_of}
use Rattle.db_hits.specs.Descriptors.{fit_parts, has_bad_cut, named_columns}
use Rattle.db_hits.specs.Parts.{result_text}

search_effect_plain : (m : StoreState) (x : Index) (query : List ℕ) (parts : List ResultPart)
    → plain_effect (search_effect (plain_state m) (plain_index x) query parts) ≡ plain_effect (search_effect m x query parts)
search_effect_plain m x query parts =
    ap (λ (o : Option Refusal). plain_effect (refuse_by o (λ refusal. refusal) (printed (plain_state m) (plain_index x))))
    (search_refusal-plain m.tables m.thesauri x (search_for query))
    ∙ refuse_by_same (search_refusal m.tables m.thesauri x (search_for query)) (λ refusal. refusal) (printed (plain_state m) (plain_index x)) (printed m x)
    (ap (λ (rows : List (ℤ × ℕ)). plain_effect (Does (plain_state m) (result_text (table_of m x) parts rows)))
    (search_rows-plain m.tables m.thesauri x (search_for query))
    ∙ does_plain m (result_text (table_of m x) parts (hits m x query)))
  where
    printed : StoreState → Index → Effect
    printed n y = Does n (result_text (table_of n y) parts (hits n y query))

check_parts_same : (columns : List Column) (other texts : Bool) (parts : List ResultPart) (e f : Effect) → plain_effect e ≡ plain_effect f
    → plain_effect (check_parts columns other texts parts e) ≡ plain_effect (check_parts columns other texts parts f)
check_parts_same columns other texts parts e f same =
    refuse_by_same (first_unknown (named_columns parts) columns) UnknownName (kind e) (kind f)
    (refuse_same other NoIndexOfKind (values e) (values f)
    (refuse_same (not texts || not (fit_parts columns parts)) WrongValues (refuse (has_bad_cut parts) OutOfRange e) (refuse (has_bad_cut parts) OutOfRange f)
    (refuse_same (has_bad_cut parts) OutOfRange e f same)))
  where
    values : Effect → Effect
    values done = refuse (not texts || not (fit_parts columns parts)) WrongValues (refuse (has_bad_cut parts) OutOfRange done)

    kind : Effect → Effect
    kind done = refuse other NoIndexOfKind (values done)

result_of_plain : (m : StoreState) (x : Index) (args : List Arg) (parts : Option (List ResultPart))
    → plain_effect (result_of (plain_state m) (plain_index x) args parts) ≡ plain_effect (result_of m x args parts)
result_of_plain m x args (Some parts) =
    ap (λ (kind : IndexKind). plain_effect (check_parts (table_of m x).columns (is_other_kind kind) (are_texts 3 args) parts done)) (kind_plain x.body)
    ∙ check_parts_same (table_of m x).columns (is_other_kind (kinds.kind x.body)) (are_texts 3 args) parts done (search_effect m x (query_in args) parts)
    (search_effect_plain m x (query_in args) parts)
  where
    done : Effect
    done = search_effect (plain_state m) (plain_index x) (query_in args) parts
result_of_plain m x args None =
    ap (λ (kind : IndexKind). plain_effect (refuse (is_other_kind kind) NoIndexOfKind (refuse (not (are_texts 3 args)) WrongValues (Refused BadValue))))
    (kind_plain x.body)

pub result_set_plain : (args : List Arg) → DoesSamePlain (λ m. result_set m args)
result_set_plain args m = go (argument_name 0 args)
  where
    go : (name : Option (List ℕ)) → plain_effect (result_named (plain_state m) args name) ≡ plain_effect (result_named m args name)
    go None = refl
    go (Some i) =
        with_named_same m.indexes i (UnknownName i) (λ x. result_of (plain_state m) x args (parts_in args)) (λ x. result_of m x args (parts_in args))
        (λ x. result_of_plain m x args (parts_in args))
