use Rattle.std.proofs.Common.{◌≡◌, ◌++◌, map}
use Rattle.tx_document.specs.Entries.{entry_of}
use Rattle.tx_document.proofs.SeenMaps.{named_places}
use Rattle.tx_document.proofs.places.Places.into_entries.Given as goal

abbrev pub invariant-loop-name : goal.invariant-loop-name
invariant-loop-name l = l.list.items ++ map entry_of (named_places l.name-iterator) ≡ map entry_of (named_places l.initial.name-iterator)
