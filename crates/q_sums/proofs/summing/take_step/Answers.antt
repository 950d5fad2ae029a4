use Rattle.std.proofs.Common.{ℤ, ap, ◌∙◌, sym, rules, [], ◌∷◌, ◌++◌, FitsSigned}
use Rattle.std.proofs.lemmas.Int.{to_z-of_z}
use mir.Syntax.{w128}
use Rattle.q_sums.proofs.Stacks.{atom_done}
use Rattle.q_sums.proofs.summing.take_step.Goals as goal

pub returns : goal.returns
returns c =
    let fits_v : FitsSigned w128 c.atom_value.result = search rules in
    atom_done c.args.count c.args.step c.atom_value.result c.args.stack.now.items c.push.new.self.items (sym c.is_operator.ensures ∙ c.if-is_operator.false) c.atom_value.ensures
    (c.in_ok-push.ensures.items ∙ ap (λ (v : ℤ). c.args.stack.now.items ++ v ∷ []) (to_z-of_z w128 c.atom_value.result fits_v))
