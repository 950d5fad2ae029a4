use Rattle.q_tree.specs.ReducedQueries.{reduced_of}
use Rattle.q_stored.specs.Building.{reduced_stack}
use Rattle.q_stored.proofs.Stacks.{applies_none, applies_some, build_step, build_stuck}
use Rattle.q_stored.proofs.building.build.Goals as goal

pub returns-in_default-2 : goal.returns-in_default-2
returns-in_default-2 c =
    build_stuck c.args.heads.items c.heads.rest.items c.pop.new.self.items c.in-Some.head (reduced_stack c.heads.queries.items) c.in-Some.ensures.items c.heads.invariant
    (applies_none c.in-Some.head (reduced_stack c.heads.queries.items) (reduced_stack c.query_of_head.new.queries.items) c.in_ok-query.field-0 c.in_default-2.is c.in_ok-query.ensures)

pub heads-preserved : goal.heads-preserved
heads-preserved c =
    build_step c.args.heads.items c.heads.rest.items c.pop.new.self.items c.in-Some.head (reduced_stack c.heads.queries.items) (reduced_stack c.query_of_head.new.queries.items) (reduced_stack c.push_query.new.queries.items) (reduced_of c.in-Some-2.query)
    c.in-Some.ensures.items c.heads.invariant
    (applies_some c.in-Some.head (reduced_stack c.heads.queries.items) (reduced_stack c.query_of_head.new.queries.items) c.in_ok-query.field-0 c.in-Some-2.query c.in-Some-2.is c.in_ok-query.ensures)
    c.in_ok-push_query.ensures
