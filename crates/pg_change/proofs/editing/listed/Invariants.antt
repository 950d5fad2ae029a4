use Rattle.std.proofs.Common.{◌≡◌, ◌++◌}
use Rattle.pg_leaves.specs.Editing.{edits_of}
use Rattle.pg_change.specs.NotedEdits.{edits_seen}
use Rattle.pg_change.proofs.editing.listed.Given as goal

abbrev pub invariant-loop-key : goal.invariant-loop-key
invariant-loop-key l = edits_of l.list.items ++ edits_seen l.key-iterator ≡ edits_seen l.initial.key-iterator
