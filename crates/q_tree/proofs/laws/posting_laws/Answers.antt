use Rattle.q_tree.specs.laws.SameScores.{score_by_entries}
use Rattle.q_tree.proofs.laws.posting_laws.Goals as goal

pub returns : goal.returns
returns c = score_by_entries
