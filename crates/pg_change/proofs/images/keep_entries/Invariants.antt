use Rattle.std.proofs.Common.{take}
use Rattle.std.specs.List.{All}
use Rattle.pg_directory.specs.Pages.{IsEntryAt}
use Rattle.pg_change.proofs.images.keep_entries.Given as goal

abbrev pub invariant-loop-entry : goal.invariant-loop-entry
invariant-loop-entry l = All IsEntryAt (take l.entry-index l.entries)
