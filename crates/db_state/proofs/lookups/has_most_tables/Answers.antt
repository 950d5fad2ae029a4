use Rattle.std.proofs.Common.{length, ap, ◌∙◌}
use Rattle.std.specs.Prelude.{nat_le}
use Rattle.std.specs.FinMap.{entries}
use Rattle.std.proofs.lemmas.List.{length-map}
use Rattle.ct_base.specs.Limits.{table_limit}
use Rattle.tb_table.specs.laws.Reading.{tables_read}
use Rattle.db_state.proofs.lookups.has_most_tables.Goals as goal

pub returns-clause-many : goal.returns-clause-many
returns-clause-many g c = λ m k holds stands.
    let names = tables_read k m.tables stands.tables stands.state.tables c.in_ok-names.names.items (c.in_ok-names.ensures.names k holds) in
    c.are_most.ensures ∙ ap (nat_le table_limit) (ap length (c.deref.ensures.value ∙ names) ∙ length-map (entries m.tables) (λ e. e.0))
