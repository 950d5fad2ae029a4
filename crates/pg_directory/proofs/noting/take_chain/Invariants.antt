use Rattle.std.proofs.Common.{◌≡◌, ◌-◌, List, length}
use Rattle.std.specs.Prelude.{map}
use Rattle.pg_map.specs.Kinds.{Each}
use Rattle.pg_directory.specs.Trees.{StorePage, kind_of, IsPage}
use Rattle.pg_directory.specs.Noting.{note_of}
use Rattle.pg_directory.proofs.Chains.{IsPartTaken}
use Rattle.pg_directory.proofs.noting.take_chain.Given as goal

abbrev pub invariant-loop-done : goal.invariant-loop-done
invariant-loop-done l = record {
  long : length l.taken ≡ length l.fn.taken;
  part : (pages : List StorePage) → Each IsPage pages → l.notes ≡ map note_of pages → IsPartTaken (map kind_of pages) l.fn.first l.fn.taken l.taken l.page l.done;
}

abbrev pub decreases-loop-done : goal.decreases-loop-done
decreases-loop-done l = l.count - l.done
