use Rattle.std.proofs.lemmas.Result.{IfOk-weaker}
use Rattle.ix_cursor.specs.Candidates.{Leaps}
use Rattle.ix_cursor.proofs.Leaping.{leaps_over}
use Rattle.ix_cursor.proofs.cursors.next_to_score.Goals as goal

pub returns-clause-over : goal.returns-clause-over
returns-clause-over c = IfOk-weaker c.first_candidate.result (Leaps c.args.root.now c.first_candidate.new.root c.args.from) _ (λ found leaps. leaps_over c.args.root.now c.first_candidate.new.root c.args.from found leaps) c.first_candidate.ensures
