use Rattle.std.proofs.Common.{sym, subst, ◌≡◌}
use Rattle.std.proofs.lemmas.Result.{IfOk-weaker}
use Rattle.ix_spans.specs.Rising.{Rising}
use Rattle.q_tree.specs.Documents.{put_all}
use Rattle.q_tree.specs.laws.Postings.{put_all_rises}
use Rattle.ix_cursor.proofs.tokens.Tokens.+positions.Goals as goal

pub returns-in_ok-second-in-Both-clause-rise : goal.returns-in_ok-second-in-Both-clause-rise
returns-in_ok-second-in-Both-clause-rise t c = IfOk-weaker c.merged.result (λ v. v.items ≡ put_all c.deref-in-Both-2.result.now c.in_ok-second-in-Both.second.items) _ (λ v is. subst Rising (sym is) (put_all_rises c.deref-in-Both-2.result.now c.in_ok-second-in-Both.second.items c.in_ok-second-in-Both.ensures.rise)) c.merged.ensures
