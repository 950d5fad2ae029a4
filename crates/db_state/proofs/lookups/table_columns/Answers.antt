use Rattle.std.proofs.Common.{Vec}
use Rattle.std.specs.Option.{option_map}
use Rattle.std.proofs.lemmas.Result.{IfOk-weaker}
use Rattle.std.specs.declared.alloc.Global.{Global}
use Rattle.ct_entry.specs.Keys.{at}
use Rattle.tb_table.specs.declared.columns.Column.{Column}
use Rattle.tb_table.specs.laws.Reading.{columns_read}
use Rattle.db_state.proofs.lookups.table_columns.Goals as goal

pub returns-clause-columns : goal.returns-clause-columns
returns-clause-columns g c = λ m k holds stands.
    IfOk-weaker c.columns_of.result _ _ (λ found spelt. columns_read (at k) m.tables stands.tables stands.state.tables c.args.table.now (option_map (λ (v : Vec Column Global). v.items) found) spelt) (c.columns_of.ensures.value k holds)
