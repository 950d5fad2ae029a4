use Rattle.std.specs.Option.{option_copied}
use Rattle.ix_slots.proofs.Noting.{found_first}
use Rattle.ix_slots.proofs.slot_lists.SlotList.find.Goals as goal

pub returns : goal.returns
returns g c =
    found_first g.T.InStream.at c.args.stream c.args.slot.now c.self.inside.places.places c.self.inside.items.items c.as_slice-2.result.now c.args.self.now c.in_ok-bytes.bytes.items c.as_slice.result.now
    c.under-places.result.now (option_copied c.first_at.result)
    c.self.invariant c.in_ok-bytes.ensures c.as_slice.ensures.value c.under-places.ensures c.as_slice-2.ensures.value c.self.view_is c.first_at.ensures
