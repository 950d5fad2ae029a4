use Rattle.std.proofs.Common.{◌≡◌, length, arith}
use Rattle.ix_slots.proofs.Noting.{one_more}
use Rattle.ix_slots.proofs.slot_lists.SlotList.with.Goals as goal

pub invariant_of-result : goal.invariant_of-result
invariant_of-result g c =
    let items = c.self.inside.items.items in
    let last : c.len.result ≡ length items = omega (arith, c.len.ensures) in
    one_more g.T.InStream.at items c.push.new.self.items c.args.item c.stream.result c.slot.result.now c.in_ok-bytes.bytes.items c.len.result c.self.inside.places.places c.note.new.self.places
    c.stream.ensures c.slot.ensures c.in_ok-bytes.ensures last c.in_ok-note.ensures c.in_ok-push.ensures.items c.self.invariant
