use Rattle.pg_map.proofs.ItemReads.{no_form}
use Rattle.pg_map.proofs.item_reading.item_of.Goals as goal

pub returns : goal.returns
returns c = no_form c.args.string.now c.if-form-eq0.false c.if-form-eq1.false
