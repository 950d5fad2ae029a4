use Rattle.std.proofs.Common.{◌≡◌, refl, Bool, Option, Some, None, true, false, sym, ap, subst, ◌∙◌}
use Rattle.std.specs.Prelude.{◌&&◌, is_some, not}
use Rattle.std.proofs.lemmas.Bool.{false≢true}
use Rattle.std.proofs.lemmas.Result.{IfOk-weaker}
use Rattle.db_state.specs.Effects.{reply_by}
use Rattle.db_select.specs.declared.views.View.{View}
use Rattle.db_select.specs.Choosing.{selection}
use Rattle.db_select.specs.Statements.{select_from, select_statement}
use Rattle.db_select.specs.Views.{is_whole, view_named}
use Rattle.db_select.specs.Looking.{SelectsFew}
use Rattle.db_select.proofs.SearchLooks.{view_few}
use Rattle.db_select.proofs.statements.select.Goals as goal

-- what is wrong of a view isn't whole, and of no view is nothing wrong
wrong_whole : (o : Option View) (whole : Bool) → (is_some o && not whole) ≡ true → whole ≡ false
wrong_whole None whole is = cc
wrong_whole (Some view) true is = cc
wrong_whole (Some view) false is = refl

pub returns-in-Some-clause-reply : goal.returns-in-Some-clause-reply
returns-in-Some-clause-reply g c = λ m k holds stands.
    let named : view_named c.args.table.now ≡ Some c.in-Some.view = sym c.view_named.ensures ∙ c.in-Some.is in
    IfOk-weaker c.select_view.result _ _
    (λ reply is. is ∙ sym (ap (λ (o : Option View). reply_by (select_from o m (selection c.args.list.now c.args.orders.now) c.args.table.now c.args.preds.now)) named))
    (c.select_view.ensures.reply m k holds stands)

pub returns-in-None-clause-reply : goal.returns-in-None-clause-reply
returns-in-None-clause-reply g c = λ m k holds stands.
    let none : view_named c.args.table.now ≡ None = sym c.view_named.ensures ∙ c.in-None.is in
    IfOk-weaker c.select_table.result _ _
    (λ reply is. is ∙ sym (ap (λ (o : Option View). reply_by (select_from o m (selection c.args.list.now c.args.orders.now) c.args.table.now c.args.preds.now)) none))
    (c.select_table.ensures.reply m k holds stands)

pub returns-in-Some-clause-at_most : goal.returns-in-Some-clause-at_most
returns-in-Some-clause-at_most g c = λ m k holds stands.
    let want = selection c.args.list.now c.args.orders.now in
    view_few (select_statement m want c.args.table.now c.args.preds.now) k m want c.args.table.now c.args.preds.now _ _ c.select_view.ensures.refused

pub returns-in-None-clause-at_most : goal.returns-in-None-clause-at_most
returns-in-None-clause-at_most g c =
    let none : view_named c.args.table.now ≡ None = sym c.view_named.ensures ∙ c.in-None.is in
    subst (λ (o : Option View). SelectsFew g.K.Keeper.view c.args.keeper.now c.select_table.new.keeper (λ m want t preds. select_from o m want t preds) (selection c.args.list.now c.args.orders.now) c.args.table.now c.args.preds.now)
    (sym none) c.select_table.ensures.at_most

pub returns-in-Some-clause-wrong_view : goal.returns-in-Some-clause-wrong_view
returns-in-Some-clause-wrong_view g c = λ wrong.
    c.select_view.ensures.refused (wrong_whole (view_named c.args.table.now) (is_whole (selection c.args.list.now c.args.orders.now) c.args.preds.now) wrong)

pub returns-in-None-clause-wrong_view : goal.returns-in-None-clause-wrong_view
returns-in-None-clause-wrong_view g c = λ wrong.
    let none : view_named c.args.table.now ≡ None = sym c.view_named.ensures ∙ c.in-None.is in
    let never : false ≡ true = ap (λ (o : Option View). is_some o && not (is_whole (selection c.args.list.now c.args.orders.now) c.args.preds.now)) (sym none) ∙ wrong in
    absurd (false≢true never)
