use Rattle.std.proofs.Common.{ap, sym, ◌∙◌, Option, rules}
use Rattle.std.specs.Prelude.{is_some}
use Rattle.std.specs.Option.{option_map}
use Rattle.ct_base.specs.declared.numbers.RowKey.{RowKey}
use Rattle.std.proofs.lemmas.Result.{IfOk-weaker}
use Rattle.ct_entry.specs.Keys.{at, IsRow}
use Rattle.tb_table.specs.Tables.{Table, row_in}
use Rattle.tb_table.specs.laws.Reading.{row_read}
use Rattle.db_change.specs.Inserting.{has_row}
use Rattle.db_change.proofs.inserting.is_taken.Goals as goal

pub returns-in-Some-clause-taken : goal.returns-in-Some-clause-taken
returns-in-Some-clause-taken g c = λ m k x holds stands here.
    let row : IsRow c.in-Some.key.0 = search rules in
    IfOk-weaker c.has_row.result _ _
    (λ there e. e ∙ row_read (at k) m.tables stands.tables c.args.table.now c.in-Some.key.0 row ∙ ap (λ (o : Option Table). is_some (row_in o c.in-Some.key.0)) here ∙ sym (ap (λ (o : Option RowKey). has_row x (option_map (λ (key : RowKey). key.0) o)) c.in-Some.is))
    (c.has_row.ensures.value k holds)
