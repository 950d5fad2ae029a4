use Rattle.std.proofs.Common.{◌≡◌, ◌<◌, ℕ, get_or}
use Rattle.pg_directory.specs.Pages.{no_child}
use Rattle.pg_change.proofs.rebuilding.are_same.Given as goal

abbrev pub invariant-loop-i : goal.invariant-loop-i
invariant-loop-i l = (j : ℕ) → j < l.i → get_or l.now j no_child ≡ get_or l.old j no_child
