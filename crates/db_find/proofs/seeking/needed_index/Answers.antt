use Rattle.std.proofs.Common.{◌≡◌, ℕ, List, Some, sym, ap, ◌∙◌}
use Rattle.std.proofs.lemmas.Result.{IfOk-weaker}
use Rattle.db_state.specs.Columns.{column_place}
use Rattle.db_find.specs.Searches.{held_search, search_column}
use Rattle.db_find.specs.laws.Looking.{rises_still}
use Rattle.db_find.proofs.SeekLaws.{place_small, needed_at}
use Rattle.db_find.proofs.seeking.needed_index.Goals as goal

pub returns-in-Some-clause-index : goal.returns-in-Some-clause-index
returns-in-Some-clause-index g c = λ m k holds stands few.
    let search = held_search c.args.search in
    let columns = c.args.columns.now in
    let at : column_place (search_column search) columns ≡ Some c.in-Some.place = ap (λ (name : List ℕ). column_place name columns) (sym c.column.ensures) ∙ sym c.in-Some.ensures in
    let small = place_small (search_column search) columns c.in-Some.place at few in
    IfOk-weaker c.index_of_column.result _ _ (needed_at m c.args.table.now columns search c.kind.result c.in-Some.place c.kind.ensures at) (c.index_of_column.ensures.found m k holds stands small)

pub returns-in-None-clause-at_most : goal.returns-in-None-clause-at_most
returns-in-None-clause-at_most g c = λ m holds. rises_still _ _
