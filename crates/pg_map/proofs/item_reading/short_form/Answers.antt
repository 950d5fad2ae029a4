use Rattle.std.proofs.Common.{◌+◌, arith}
use Rattle.pg_map.proofs.ItemReads.{AreBytes, short_item, number_small, key_part, value_part}
use Rattle.pg_map.proofs.item_reading.short_form.Goals as goal

pub returns : goal.returns
returns c =
    let s = c.args.string.now in
    let bytes : AreBytes s = record { are = λ i. omega (arith, c.type_inv.string i) } in
    let within = c.requires.within in
    short_item s c.in_ok-key.key.items c.in_ok-value.value.items c.args.count bytes c.requires.form c.requires.count (number_small s c.args.count bytes (omega (arith, within)) c.requires.count) within (omega arith)
    (key_part s _ c.args.count c.in_ok-key.ensures.items) (value_part s _ (3 + c.args.count) c.in_ok-value.ensures.items)
