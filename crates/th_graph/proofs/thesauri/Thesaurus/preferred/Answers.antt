use Rattle.std.proofs.Common.{◌≡◌, ℕ, List, [], ◌∷◌, ◌++◌, length, Vec, Global, sym, ap, ◌∙◌, arith}
use Rattle.std.proofs.lemmas.Bool.{eqb-true, eqb-false}
use Rattle.std.proofs.lemmas.Result.{err_from_is_err_and}
use Rattle.q_tree.specs.declared.queries.Relation.TheVariants.{Preferred}
use Rattle.th_graph.specs.Expansions.{next_terms}
use Rattle.th_graph.specs.Rising.{with_ordered_terms}
use Rattle.th_graph.proofs.Frontiers.{itself_err, itself_ok}
use Rattle.th_graph.proofs.Lists.{none_left}
use Rattle.th_graph.proofs.thesauri.Thesaurus.preferred.Goals as goal
use Rattle.th_graph.proofs.thesauri.Thesaurus.preferred.Goals.{then-is_empty+in_ok-push_copy, else-is_empty}

pub returns-in_err-put_next_terms : goal.returns-in_err-put_next_terms
returns-in_err-put_next_terms c =
    let p = err_from_is_err_and c.from_residual.result c.from_residual.ensures.1 in
    rw (p.1, p.2) (itself_err c.in_err-put_next_terms.field-0.0 c.args.term.now c.new-found.result.items (next_terms c.args.self.now Preferred c.args.term.now) c.new-found.ensures.items c.in_err-put_next_terms.ensures)

pub returns : goal.returns
returns c =
    let a = c.args.term.now in
    let found = c.put_next_terms.new.found.items in
    let last = c.if-is_empty.found.items in
    let all = next_terms c.args.self.now Preferred a in
    let now = c.in_ok-put_next_terms.ensures in
    let ends : (found ≡ [] → last ≡ a ∷ []) × ((found ≡ [] → ⊥) → last ≡ found) = elim c.if-is_empty.branch [
      | then-is_empty+in_ok-push_copy w ↦
          let z = eqb-true _ 0 (sym c.is_empty.ensures ∙ w.if-is_empty.true) in
          let none : found ≡ [] = none_left found (omega (arith, z)) in
          ((λ e. ap (λ (v : Vec (List ℕ) Global). v.items) w.found-is ∙ w.in_ok-push_copy.ensures ∙ ap (λ (l : List (List ℕ)). l ++ a ∷ []) e), (λ some. absurd (some none)))
      | else-is_empty w ↦
          let z = eqb-false _ 0 (sym c.is_empty.ensures ∙ w.if-is_empty.false) in
          ((λ e. absurd (z (let l = ap length e in omega (arith, l)))), (λ some. ap (λ (v : Vec (List ℕ) Global). v.items) w.found-is))
    ] in
    itself_ok a found last all (now.among ∙ ap (λ (l : List (List ℕ)). with_ordered_terms l all) c.new-found.ensures.items) now.limit ends
