use Rattle.std.proofs.lemmas.Result.{on_ok_weaker}
use Rattle.tb_table.specs.laws.Shapes.{create_shaped}
use Rattle.tb_table.proofs.changes.create.Goals as goal

pub returns-clause-shaped : goal.returns-clause-shaped
returns-clause-shaped c = on_ok_weaker c.put_entry.result (λ _. create_shaped c.args.table.now c.args.columns.now c.as_str-named.ensures.name c.in_ok-value.ensures.spellable c.requires) c.put_entry.ensures.ok
