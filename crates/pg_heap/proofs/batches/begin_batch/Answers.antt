use Rattle.std.proofs.Common.{List, Option, subst}
use Rattle.pg_directory.specs.declared.entries.EntryAt.{EntryAt}
use Rattle.pg_window.specs.Windows.{away_of}
use Rattle.pg_change.specs.BatchWindows.{AreIn}
use Rattle.pg_heap.proofs.batches.begin_batch.Goals as goal

pub returns-clause-there : goal.returns-clause-there
returns-clause-there g c = λ top pages m w. subst (λ (l : List (Option EntryAt)). AreIn pages l (away_of c.load_batch.new.sheets.items)) c.deref-3.ensures.value (c.in-Ok.ensures.there top pages m w)
