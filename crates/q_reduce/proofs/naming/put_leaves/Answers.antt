use Rattle.std.proofs.Common.{◌-◌, List, length, take, drop, ◌∙◌}
use Rattle.q_tree.specs.declared.queries.Leaf.{Leaf}
use Rattle.q_reduce.specs.Naming.{leaf_names}
use Rattle.q_reduce.proofs.NamingSteps.{first_of, with_next}
use Rattle.q_reduce.proofs.naming.put_leaves.Goals as goal

pub loop-rest-preserved : goal.loop-rest-preserved
loop-rest-preserved c =
    let rest = c.loop-rest.rest.now in
    let later : List Leaf = take (length rest - 1) (drop 1 rest) in
    with_next leaf_names c.loop-rest.names.items c.put_leaf.new.names.items c.leaf-item.result rest later (first_of rest c.leaf-item.result c.in-len1-up.len_at_least c.leaf-item.is) c.in_ok-put_leaf.ensures ∙ c.loop-rest.invariant
