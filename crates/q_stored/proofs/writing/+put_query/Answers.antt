use Rattle.std.proofs.Common.{arith, inl}
use Rattle.q_tree.specs.ReducedQueries.{reduced_of}
use Rattle.q_stored.proofs.PutSteps.{some_node}
use Rattle.q_stored.proofs.writing.+put_query.Goals as goal

pub returns-then-nodes-eq0 : goal.returns-then-nodes-eq0
returns-then-nodes-eq0 t c = let one = some_node (reduced_of c.args.query.now) in let none = c.if-nodes-eq0.true in inl (omega (arith, one, none))
