use Rattle.std.proofs.Common.{◌≡◌, ◌≤◌, ℤ, ap, ◌∙◌, sym, subst, rules, [], ◌∷◌, ◌++◌, FitsSigned, to_z, of_z}
use Rattle.std.proofs.lemmas.Int.{to_z-of_z}
use mir.Syntax.{w128}
use Rattle.q_tree.specs.Sums.{operator_value}
use Rattle.q_sums.specs.Magnitudes.{magnitude, magnitude_limit, last_first}
use Rattle.q_sums.proofs.Stacks.{two_of, two_last_first, operate_done}
use Rattle.q_sums.proofs.summing.operate.Goals as goal

pub operator_value-requires : goal.operator_value-requires
operator_value-requires c =
    let a = c.in-Some-pop.a in
    let b = c.in-Some.b in
    let xs = c.pop-2.new.self.items in
    let fits_a : FitsSigned w128 a = search rules in
    let fits_b : FitsSigned w128 b = search rules in
    let whole = two_last_first c.args.stack.now.items c.pop.new.self.items xs a b c.in-Some.ensures.items c.in-Some-pop.ensures.items in
    let small : magnitude (b ∷ a ∷ []) ≤ magnitude_limit = two_of b a (last_first xs) (subst (λ l. magnitude l ≤ magnitude_limit) whole c.requires.small) in
    subst (λ (x : ℤ). magnitude (x ∷ to_z w128 (of_z w128 a) ∷ []) ≤ magnitude_limit) (sym (to_z-of_z w128 b fits_b)) (subst (λ (y : ℤ). magnitude (b ∷ y ∷ []) ≤ magnitude_limit) (sym (to_z-of_z w128 a fits_a)) small)

pub returns : goal.returns
returns c k =
    let a = c.in-Some-pop.a in
    let b = c.in-Some.b in
    let fits_a : FitsSigned w128 a = search rules in
    let fits_b : FitsSigned w128 b = search rules in
    let fits_v : FitsSigned w128 c.operator_value.result = search rules in
    let is : c.operator_value.result ≡ operator_value c.args.step a b = c.operator_value.ensures ∙ ap (λ (x : ℤ). operator_value c.args.step x (to_z w128 (of_z w128 b))) (to_z-of_z w128 a fits_a) ∙ ap (λ (y : ℤ). operator_value c.args.step a y) (to_z-of_z w128 b fits_b) in
    operate_done k c.args.step a b c.operator_value.result c.args.stack.now.items c.pop.new.self.items c.pop-2.new.self.items c.push.new.self.items c.requires.operator c.in-Some.ensures.items c.in-Some-pop.ensures.items is
    (c.in_ok-push.ensures.items ∙ ap (λ (v : ℤ). c.pop-2.new.self.items ++ v ∷ []) (to_z-of_z w128 c.operator_value.result fits_v))
