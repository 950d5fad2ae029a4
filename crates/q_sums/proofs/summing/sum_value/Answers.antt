use Rattle.std.proofs.Common.{◌≡◌, ◌≤◌, ◌*◌, ◌-◌, ℤ, ap, ◌∙◌, sym, subst, List, ◌∷◌, true, take, drop, length, get_or, [], refl}
use Rattle.std.specs.List.{list_all}
use Rattle.std.proofs.lemmas.Bool.{and_parts}
use Rattle.ct_base.specs.laws.Lists.{first_of}
use Rattle.q_tree.specs.declared.flats.SumStep.{SumStep}
use Rattle.q_tree.specs.declared.flats.SumStep.TheVariants.{Number}
use Rattle.q_tree.specs.Soundness.{is_step}
use Rattle.q_tree.specs.Sums.{sum_of}
use Rattle.q_sums.specs.Magnitudes.{last_first, magnitude, growth, magnitude_limit}
use Rattle.q_sums.proofs.Stacks.{begins_limited, magnitude_within, step_fits}
use Rattle.q_sums.proofs.summing.sum_value.Goals as goal

-- steps by their first
first_step : (steps : List SumStep) → 1 ≤ length steps → steps ≡ get_or steps 0 (Number 0) ∷ take (length steps - 1) (drop 1 steps)
first_step steps some = first_of steps (get_or steps 0 (Number 0)) some (same steps)
  where
    same : (ss : List SumStep) → get_or ss 0 (Number 0) ≡ get_or ss 0 (get_or ss 0 (Number 0))
    same [] = refl
    same (s ∷ ss) = refl

pub loop-rest-init : goal.loop-rest-init
loop-rest-init c =
    let steps = c.args.steps.now in
    let begins = begins_limited steps c.requires in
    record {
      so_far = ap (λ (l : List ℤ). sum_of c.args.count steps (last_first l)) c.new-stack.ensures.items;
      small = subst (λ (l : List ℤ). magnitude (last_first l) * growth steps ≤ magnitude_limit) (sym c.new-stack.ensures.items) begins.0;
      are_steps = begins.1;
    }

pub take_step-requires : goal.take_step-requires
take_step-requires c = magnitude_within (last_first c.loop-rest.stack.items) c.loop-rest.rest.now c.loop-rest.invariant.small

pub loop-rest-preserved : goal.loop-rest-preserved
loop-rest-preserved c =
    let rest = c.loop-rest.rest.now in
    let later = take (length rest - 1) (drop 1 rest) in
    let step = get_or rest 0 (Number 0) in
    let whole : rest ≡ step ∷ later = first_step rest c.in-len1-up.len_at_least in
    let old = last_first c.loop-rest.stack.items in
    let are = and_parts (is_step step) (list_all is_step later) (subst (λ (l : List SumStep). list_all is_step l ≡ true) whole c.loop-rest.invariant.are_steps) in
    let next = c.in_ok-take_step.ensures in
    record {
      so_far = ap (sum_of c.args.count later) next ∙ sym (ap (λ (l : List SumStep). sum_of c.args.count l old) whole) ∙ c.loop-rest.invariant.so_far;
      small = subst (λ (l : List ℤ). magnitude l * growth later ≤ magnitude_limit) (sym next) (step_fits c.args.count step later old are.0 (subst (λ (l : List SumStep). magnitude old * growth l ≤ magnitude_limit) whole c.loop-rest.invariant.small));
      are_steps = are.1;
    }
