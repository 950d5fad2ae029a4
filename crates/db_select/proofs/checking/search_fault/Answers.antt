use Rattle.std.proofs.Common.{◌≡◌, Option, Some, sym, ap, subst, ◌∙◌}
use Rattle.std.specs.Prelude.{◌||◌}
use Rattle.st_parse.specs.declared.statements.Whole.{Whole}
use Rattle.db_state.specs.Effects.{Checks, Effect}
use Rattle.db_rows.specs.Checking.{has_beyond}
use Rattle.db_find.specs.Searches.{held_search}
use Rattle.db_select.specs.Checking.{check_parts, has_wrong_values, is_out_of_range, is_too_long}
use Rattle.db_select.specs.Choosing.{selection}
use Rattle.db_select.specs.Predicates.{label_in}
use Rattle.db_select.proofs.checking.search_fault.Goals as goal

pub returns-clause-fault : goal.returns-clause-fault
returns-clause-fault c = λ done.
    let s = held_search c.args.search in
    let columns = c.args.columns.now in
    let want = selection c.args.list.now c.args.orders.now in
    let conds = c.args.conds.now in
    let wrong : c.has_wrong_values-wrong_values.result ≡ has_wrong_values columns want (label_in (Some s)) conds =
    c.has_wrong_values-wrong_values.ensures ∙ ap (λ (l : Option Whole). has_wrong_values columns want l conds) c.label.ensures in
    let long : c.has_long_document-too_long.result ≡ is_too_long (Some s) = c.has_long_document-too_long.ensures in
    let out : c.has_bad_number-out_of_range.result ≡ (is_out_of_range (Some s) || has_beyond conds) = c.has_bad_number-out_of_range.ensures in
    subst (λ (e : Effect). Checks c.first_fault.result e done) (λ i. check_parts (wrong i) (long i) (out i) done) (c.first_fault.ensures.fault done)

pub returns-clause-short : goal.returns-clause-short
returns-clause-short c = λ none. sym c.has_long_document-too_long.ensures ∙ c.first_fault.ensures.short none
