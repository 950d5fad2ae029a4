use Rattle.std.specs.Prelude.{map}
use Rattle.std.proofs.Common.{◌≡◌, List, length, drop}
use Rattle.pg_map.specs.Kinds.{Each, StringItem}
use Rattle.pg_directory.specs.Trees.{StorePage, kind_of, IsPage}
use Rattle.pg_directory.specs.FirstPass.{far_of, far_values}
use Rattle.pg_directory.specs.Noting.{note_of}
use Rattle.pg_directory.proofs.ValuesTaken.{AreTakenTo}
use Rattle.pg_directory.proofs.far_values.take_values.Given as goal

abbrev pub invariant-loop-i : goal.invariant-loop-i
invariant-loop-i l = record {
  long : length l.taken ≡ length l.fn.taken;
  part : (pages : List StorePage) (items : List StringItem) → Each IsPage pages → l.notes ≡ map note_of pages → map far_of l.far ≡ far_values items
      → AreTakenTo (map kind_of pages) items (drop l.i (map far_of l.far)) l.fn.taken l.taken;
}
