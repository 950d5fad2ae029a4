use Rattle.std.specs.Prelude.{map}
use Rattle.std.proofs.Common.{◌≡◌, ◌≤◌, ◌*◌, List, length, take}
use Rattle.pg_map.specs.Kinds.{strings_of}
use Rattle.pg_directory.specs.Trees.{StorePage, kind_of}
use Rattle.pg_directory.specs.Noting.{note_of}
use Rattle.pg_directory.proofs.directories.string_count.Given as goal

abbrev pub invariant-loop-i : goal.invariant-loop-i
invariant-loop-i l = record {
  small : l.count ≤ 65535 * l.i;
  is : (pages : List StorePage) → l.notes ≡ map note_of pages → l.count ≡ length (strings_of (map kind_of (take l.i pages)));
}
