use Rattle.ix_slots.proofs.Noting.{one_noted}
use Rattle.ix_slots.proofs.noted_places.NotedPlaces.note.Goals as goal

pub returns : goal.returns
returns c =
    one_noted c.args.bytes.items c.as_slice.result.now c.args.place c.args.self.now.places c.remove-before.new.self c.insert.new.self c.remove-before.result c.new.result c.unwrap_or-places.result c.push.new.self
    c.as_slice.ensures.value c.remove-before.ensures.value c.remove-before.ensures.updates c.new.ensures.items c.unwrap_or-places.ensures c.in_ok-push.ensures.items c.in_ok-insert.ensures.updates
