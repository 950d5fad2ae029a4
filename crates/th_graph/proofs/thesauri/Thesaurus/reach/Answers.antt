use Rattle.std.proofs.Common.{◌≡◌, ◌-◌, ◌≤◌, ℕ, suc, List, [], ◌∷◌, ◌++◌, length, refl, sym, ap, subst, ◌∙◌, arith}
use Rattle.std.proofs.lemmas.Bool.{eqb-true}
use Rattle.std.proofs.lemmas.Result.{err_from_is_err_and}
use Rattle.th_graph.specs.Answers.{AreWithinLimit, AreNew}
use Rattle.th_graph.specs.Expansions.{expansion_limit, terms_within}
use Rattle.th_graph.proofs.Frontiers.{expands_err, frontier_begins, frontier_on, IsFrontier, none_fresh, round_is}
use Rattle.th_graph.proofs.Lists.{none_left}
use Rattle.th_graph.proofs.Walks.{nexts, within_zero}
use Rattle.th_graph.proofs.thesauri.Thesaurus.reach.Goals as goal
use Rattle.th_graph.proofs.thesauri.Thesaurus.reach.Goals.{then-loop-left-test+else-not-is_empty, else-loop-left-test}

pub loop-left-init : goal.loop-left-init
loop-left-init c =
    let ps = c.args.self.now in
    let r = c.args.relation in
    let a = c.args.term.now in
    let first : c.push_copy.new.terms.items ≡ a ∷ [] = c.in_ok-push_copy.ensures ∙ ap (λ (l : List (List ℕ)). l ++ a ∷ []) c.new-found.ensures.items in
    let second : c.push_copy-2.new.terms.items ≡ a ∷ [] = c.in_ok-push_copy-2.ensures ∙ ap (λ (l : List (List ℕ)). l ++ a ∷ []) c.new-fresh.ensures.items in
    let none : 0 ≡ c.args.rounds - c.args.rounds = omega arith in
    record {
      bounded = omega arith;
      found = first ∙ sym (within_zero ps r a) ∙ ap (λ (k : ℕ). terms_within ps r k a) none;
      terms = subst AreWithinLimit (sym first) (record { rises = refl; limited = omega arith });
      frontier = frontier_begins ps r a c.push_copy.new.terms.items c.push_copy-2.new.terms.items first second;
    }

pub returns-in_err-widen : goal.returns-in_err-widen
returns-in_err-widen c =
    let p = err_from_is_err_and c.from_residual-in_err-widen.result c.from_residual-in_err-widen.ensures.1 in
    let frontier = subst (λ (l : List (List ℕ)). IsFrontier c.args.self.now c.args.relation c.loop-left.found.items l) (sym c.deref.ensures.value) c.loop-left.invariant.frontier in
    rw (p.1, p.2) (expands_err c.args.self.now c.args.relation c.in_err-widen.field-0.0 c.args.term.now c.loop-left.found.items c.deref.result.now c.loop-left.left c.args.rounds (omega arith) c.loop-left.invariant.bounded
    c.loop-left.invariant.terms.rises frontier c.loop-left.invariant.found c.in_err-widen.ensures)

pub loop-left-preserved : goal.loop-left-preserved
loop-left-preserved c =
    let ps = c.args.self.now in
    let r = c.args.relation in
    let a = c.args.term.now in
    let found = c.loop-left.found.items in
    let fresh = c.deref.result.now in
    let old = c.loop-left.invariant in
    let frontier = subst (λ (l : List (List ℕ)). IsFrontier ps r found l) (sym c.deref.ensures.value) old.frontier in
    let now = c.in_ok-widen.ensures in
    let new = subst (λ (l : List (List ℕ)). AreNew l c.widen.new.newer.items found (nexts ps r fresh)) c.new-newer.ensures.items now.new in
    let some : 1 ≤ c.loop-left.left = omega arith in
    let within_bound = old.bounded in
    let next : suc (c.args.rounds - c.loop-left.left) ≡ c.args.rounds - (c.loop-left.left - 1) = omega (arith, some, within_bound) in
    record {
      bounded = omega (arith, within_bound);
      found = now.among ∙ round_is ps r a found fresh (c.args.rounds - c.loop-left.left) old.terms.rises frontier old.found ∙ ap (λ (k : ℕ). terms_within ps r k a) next;
      terms = now.limit;
      frontier = frontier_on ps r found c.widen.new.found.items fresh c.widen.new.newer.items old.terms.rises frontier now.among new;
    }

pub returns : goal.returns
returns c =
    let ps = c.args.self.now in
    let r = c.args.relation in
    let a = c.args.term.now in
    let found = c.loop-left.found.items in
    let old = c.loop-left.invariant in
    let bounded = old.bounded in
    let is : found ≡ terms_within ps r c.args.rounds a = elim c.loop-left-test.branch [
      | then-loop-left-test+else-not-is_empty w ↦
          let z = eqb-true _ 0 (sym w.is_empty.ensures ∙ w.if-not-is_empty.false) in
          let none : c.loop-left.fresh.items ≡ [] = none_left c.loop-left.fresh.items (omega (arith, z)) in
          none_fresh ps r a found (c.args.rounds - c.loop-left.left) c.args.rounds (omega arith) old.terms.rises (subst (λ (l : List (List ℕ)). IsFrontier ps r found l) none old.frontier) old.found
      | else-loop-left-test w ↦
          let over = w.loop-left-test.false in
          let all : c.args.rounds - c.loop-left.left ≡ c.args.rounds = omega (arith, over, bounded) in
          old.found ∙ ap (λ (k : ℕ). terms_within ps r k a) all
    ] in
    (is, subst (λ (l : List (List ℕ)). length l ≤ expansion_limit) is old.terms.limited)
