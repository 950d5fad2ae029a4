use Rattle.std.proofs.Common.{take}
use Rattle.std.specs.List.{All}
use Rattle.pg_directory.specs.Pages.{IsChild}
use Rattle.pg_change.proofs.images.keep_children.Given as goal

abbrev pub invariant-loop-child : goal.invariant-loop-child
invariant-loop-child l = All IsChild (take l.child-index l.children)
