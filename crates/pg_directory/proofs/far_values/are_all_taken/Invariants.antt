use Rattle.std.specs.Prelude.{map}
use Rattle.std.proofs.Common.{◌≡◌, List}
use Rattle.pg_directory.specs.Trees.{StorePage}
use Rattle.pg_directory.specs.Noting.{note_of}
use Rattle.pg_directory.proofs.ValuesTaken.{NoneLeft}
use Rattle.pg_directory.proofs.far_values.are_all_taken.Given as goal

abbrev pub invariant-loop-i : goal.invariant-loop-i
invariant-loop-i l = (pages : List StorePage) → l.notes ≡ map note_of pages → NoneLeft pages l.taken l.i
