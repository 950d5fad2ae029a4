use Rattle.std.proofs.Common.{◌-◌, List, length, take, drop, ap, ◌∙◌}
use Rattle.q_tree.specs.declared.queries.Leaf.{Leaf}
use Rattle.q_reduce.specs.Naming.{leaves_names, with_thesaurus_names}
use Rattle.q_reduce.proofs.NamingSteps.{first_of, with_next}
use Rattle.q_reduce.proofs.naming.put_operands.Goals as goal

pub loop-rest-preserved : goal.loop-rest-preserved
loop-rest-preserved c =
    let rest = c.loop-rest.rest.now in
    let later : List (List Leaf) = take (length rest - 1) (drop 1 rest) in
    with_next leaves_names c.loop-rest.names.items c.put_leaves.new.names.items c.leaves-item.result rest later (first_of rest c.leaves-item.result c.in-len1-up.len_at_least c.leaves-item.is)
    (c.in_ok-put_leaves.ensures ∙ ap (λ (l : List Leaf). with_thesaurus_names c.loop-rest.names.items (leaves_names l)) c.as_slice.ensures) ∙ c.loop-rest.invariant
