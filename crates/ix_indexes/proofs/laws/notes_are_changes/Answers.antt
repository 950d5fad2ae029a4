use Rattle.ix_indexes.specs.laws.Noting.{notes_are_changes}
use Rattle.ix_indexes.proofs.laws.notes_are_changes.Goals as goal

pub returns : goal.returns
returns c = notes_are_changes
