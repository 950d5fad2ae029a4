use Rattle.std.proofs.Common.{arith}
use Rattle.pg_map.proofs.ItemReads.{AreBytes, far_item, far_none, number_small, key_part}
use Rattle.pg_map.proofs.item_reading.far_form.Goals as goal

pub returns-then-count-long : goal.returns-then-count-long
returns-then-count-long c = let k = c.number_at-long.ensures in far_none c.args.string.now c.args.count c.requires.form c.requires.count (λ long. omega (arith, k, c.if-count-long.true))

pub returns : goal.returns
returns c =
    let s = c.args.string.now in
    let bytes : AreBytes s = record { are = λ i. omega (arith, c.type_inv.string i) } in
    let within = c.requires.within in
    far_item s c.in_ok-key.key.items c.args.count c.number_at-long.result c.number_at-first.result bytes c.requires.form c.requires.count (number_small s c.args.count bytes (omega (arith, within)) c.requires.count)
    (omega arith) c.number_at-long.ensures c.number_at-first.ensures c.number_at-long.type_inv c.number_at-first.type_inv (omega arith) (key_part s _ c.args.count c.in_ok-key.ensures.items)
