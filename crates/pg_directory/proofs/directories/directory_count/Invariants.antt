use Rattle.std.specs.Prelude.{map}
use Rattle.std.proofs.Common.{◌≡◌, ◌≤◌, List, length, take}
use Rattle.pg_directory.specs.Trees.{StorePage}
use Rattle.pg_directory.specs.Counting.{directory_numbers}
use Rattle.pg_directory.specs.Noting.{note_of}
use Rattle.pg_directory.proofs.directories.directory_count.Given as goal

abbrev pub invariant-loop-i : goal.invariant-loop-i
invariant-loop-i l = record {
  small : l.count ≤ l.i;
  is : (pages : List StorePage) → l.notes ≡ map note_of pages → l.count ≡ length (directory_numbers 3 (take l.i pages));
}
