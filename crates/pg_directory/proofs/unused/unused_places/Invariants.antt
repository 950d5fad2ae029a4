use Rattle.std.specs.Prelude.{map}
use Rattle.std.proofs.Common.{◌≡◌, List}
use Rattle.pg_directory.specs.Noting.{note_of}
use Rattle.pg_directory.specs.Trees.{StorePage}
use Rattle.pg_directory.specs.Unused.{unused_to}
use Rattle.pg_directory.proofs.unused.unused_places.Given as goal

abbrev pub invariant-loop-at : goal.invariant-loop-at
invariant-loop-at l = (pages : List StorePage) → l.notes ≡ map note_of pages → l.places.items ≡ unused_to pages l.at
