use Rattle.std.proofs.Common.{length, ap, ◌∙◌}
use Rattle.std.specs.Prelude.{nat_le}
use Rattle.std.specs.FinMap.{entries}
use Rattle.std.proofs.lemmas.List.{length-map}
use Rattle.ct_base.specs.Limits.{row_limit}
use Rattle.ct_keep.specs.laws.Composing.{reads_none}
use Rattle.tb_table.specs.Tables.{keys_in}
use Rattle.tb_table.specs.laws.Reading.{rows_read}
use Rattle.db_change.proofs.inserting.has_most_rows.Goals as goal

pub returns-clause-many : goal.returns-clause-many
returns-clause-many g c = λ m k x holds stands here.
    let count = ap length (rows_read k m.tables stands.only stands.tables stands.state.tables c.args.table.now ∙ ap keys_in here) ∙ length-map (entries x.rows) (λ e. e.0) in
    ap (nat_le row_limit) (c.in_ok-count.ensures k holds stands.only ∙ count)

pub returns-clause-reads : goal.returns-clause-reads
returns-clause-reads g c = reads_none _ c.requires
