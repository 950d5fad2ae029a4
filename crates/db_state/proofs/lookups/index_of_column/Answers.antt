use Rattle.std.proofs.Common.{◌≡◌, ℕ, subst, ap, ◌∙◌}
use Rattle.std.proofs.lemmas.Result.{IfOk-weaker}
use Rattle.ct_entry.specs.Keys.{at}
use Rattle.tb_table.specs.declared.columns.Target.{Target}
use Rattle.db_names.specs.Findings.{IsIndexOn}
use Rattle.db_state.proofs.Targets.{index_found}
use Rattle.db_state.proofs.lookups.index_of_column.Goals as goal

pub returns-clause-found : goal.returns-clause-found
returns-clause-found g c = λ m k holds stands small.
    let t = c.args.table.now in
    let place = c.args.place in
    let column : c.in-Ok.column ≡ place = c.in-Ok.ensures.1 in
    let target : c.in_ok-target.target ≡ record { table = t; column = place } = c.in_ok-target.ensures ∙ ap (λ (n : ℕ). record { table = t; column = n }) column in
    IfOk-weaker c.index_on.result _ _
    (λ found is. index_found (at k) m.tables m.indexes stands.state.tables stands.state.indexes stands.indexes c.args.kind t place found (subst (λ (x : Target). IsIndexOn (at k) x c.args.kind found) target is))
    (c.index_on.ensures.value k holds)
