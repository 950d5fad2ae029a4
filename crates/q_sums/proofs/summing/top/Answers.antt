use Rattle.std.proofs.Common.{◌∙◌, rules, FitsSigned}
use Rattle.std.proofs.lemmas.Int.{to_z-of_z}
use mir.Syntax.{w128}
use Rattle.q_sums.proofs.Stacks.{top_is}
use Rattle.q_sums.proofs.summing.top.Goals as goal

pub returns-in-Some : goal.returns-in-Some
returns-in-Some c =
    let fits : FitsSigned w128 c.in-Some.last = search rules in
    to_z-of_z w128 c.in-Some.last fits ∙ top_is c.in-Some.last c.args.stack.items c.pop.new.self.items c.in-Some.ensures.items
