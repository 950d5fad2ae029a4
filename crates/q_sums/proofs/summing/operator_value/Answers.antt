use Rattle.std.proofs.Common.{◌≡◌, ◌+ℤ◌, ◌-ℤ◌, ◌*ℤ◌, ℤ, ap, ◌∙◌, sym, subst, FitsSigned, to_z, of_z}
use Rattle.std.proofs.lemmas.Int.{to_z-of_z}
use mir.Syntax.{w128}
use Rattle.q_tree.specs.declared.flats.SumStep.{SumStep}
use Rattle.q_tree.specs.declared.flats.SumStep.TheVariants.{Plus, Minus, Times}
use Rattle.q_tree.specs.Sums.{operator_value}
use Rattle.q_sums.proofs.Products.{operator_fits}
use Rattle.q_sums.proofs.summing.operator_value.Goals as goal

passed_fits : (a b : ℤ) (f : ℤ → ℤ → ℤ) → FitsSigned w128 a → FitsSigned w128 b → FitsSigned w128 (f a b) → FitsSigned w128 (f (to_z w128 (of_z w128 a)) (to_z w128 (of_z w128 b)))
passed_fits a b f p q fits = subst (λ (x : ℤ). FitsSigned w128 (f x (to_z w128 (of_z w128 b)))) (sym (to_z-of_z w128 a p)) (subst (λ (y : ℤ). FitsSigned w128 (f a y)) (sym (to_z-of_z w128 b q)) fits)

passed_is : (a b : ℤ) (f : ℤ → ℤ → ℤ) → FitsSigned w128 a → FitsSigned w128 b → FitsSigned w128 (f a b) → to_z w128 (of_z w128 (f (to_z w128 (of_z w128 a)) (to_z w128 (of_z w128 b)))) ≡ f a b
passed_is a b f p q fits =
    ap (λ (x : ℤ). to_z w128 (of_z w128 (f x (to_z w128 (of_z w128 b))))) (to_z-of_z w128 a p)
    ∙ ap (λ (y : ℤ). to_z w128 (of_z w128 (f a y))) (to_z-of_z w128 b q)
    ∙ to_z-of_z w128 (f a b) fits

pub overflow_add-result : goal.overflow_add-result
overflow_add-result c = passed_fits c.args.a c.args.b (λ x y. x +ℤ y) c.ranges.a c.ranges.b (operator_fits Plus c.args.a c.args.b c.requires)

pub overflow_sub-result : goal.overflow_sub-result
overflow_sub-result c = passed_fits c.args.a c.args.b (λ x y. x -ℤ y) c.ranges.a c.ranges.b (operator_fits Minus c.args.a c.args.b c.requires)

pub overflow_mul-result : goal.overflow_mul-result
overflow_mul-result c = passed_fits c.args.a c.args.b (λ x y. x *ℤ y) c.ranges.a c.ranges.b (operator_fits Times c.args.a c.args.b c.requires)

pub returns-in-Plus : goal.returns-in-Plus
returns-in-Plus c = passed_is c.args.a c.args.b (λ x y. x +ℤ y) c.ranges.a c.ranges.b (operator_fits Plus c.args.a c.args.b c.requires) ∙ sym (ap (λ (s : SumStep). operator_value s c.args.a c.args.b) c.in-Plus.is)

pub returns-in-Minus : goal.returns-in-Minus
returns-in-Minus c = passed_is c.args.a c.args.b (λ x y. x -ℤ y) c.ranges.a c.ranges.b (operator_fits Minus c.args.a c.args.b c.requires) ∙ sym (ap (λ (s : SumStep). operator_value s c.args.a c.args.b) c.in-Minus.is)

pub returns-in-Times : goal.returns-in-Times
returns-in-Times c = passed_is c.args.a c.args.b (λ x y. x *ℤ y) c.ranges.a c.ranges.b (operator_fits Times c.args.a c.args.b c.requires) ∙ sym (ap (λ (s : SumStep). operator_value s c.args.a c.args.b) c.in-Times.is)
