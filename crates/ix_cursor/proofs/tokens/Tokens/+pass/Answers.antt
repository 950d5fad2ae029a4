use Rattle.ix_lists.specs.Documents.{places_at}
use Rattle.ix_cursor.proofs.Trees.{one_bound, pair_bound}
use Rattle.ix_cursor.proofs.tokens.Tokens.+pass.Goals as goal

pub returns-in_ok-left-in-One-clause-bound : goal.returns-in_ok-left-in-One-clause-bound
returns-in_ok-left-in-One-clause-bound t c = one_bound c.args.to (λ d. places_at c.pass_list.new.list d) c.in_ok-left-in-One.left c.in_ok-left-in-One.ensures.bound

pub returns-in_ok-second-in-Both-clause-bound : goal.returns-in_ok-second-in-Both-clause-bound
returns-in_ok-second-in-Both-clause-bound t c = rw c.earlier-bound.ensures (pair_bound c.args.to _ _ c.in_ok-first-in-Both.first c.in_ok-second-in-Both.second c.in_ok-first-in-Both.ensures.bound c.in_ok-second-in-Both.ensures.bound)
