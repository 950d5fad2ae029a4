use Rattle.std.proofs.Common.{Bool, cond, [], ◌∷◌, ap, subst}
use Rattle.q_tree.specs.declared.queries.Relation.{Relation}
use Rattle.th_graph.specs.declared.pairs.PairKind.TheVariants.{Synonyms}
use Rattle.th_graph.specs.Answers.{Gathered, Gathers}
use Rattle.th_graph.specs.Expansions.{backward, forward, next_of}
use Rattle.th_graph.proofs.Gathering.{gathers_both}
use Rattle.th_graph.proofs.pairs.TermPair.put_next.Goals as goal

pub returns-in_ok-put_if-in-Syn : goal.returns-in_ok-put_if-in-Syn
returns-in_ok-put_if-in-Syn c =
    let p = c.args.self.now in
    let t = c.args.term.now in
    let found = c.args.found.now.items in
    let newer = c.args.newer.now.items in
    let found1 = c.put_if.new.found.items in
    let newer1 = c.put_if.new.newer.items in
    let found2 = c.put_if-in-Syn.new.found.items in
    let newer2 = c.put_if-in-Syn.new.newer.items in
    gathers_both c.put_if-in-Syn.result found newer found1 newer1 found2 newer2 (forward Synonyms t p) (backward Synonyms t p) (next_of c.args.relation t p) (ap (λ (r : Relation). next_of r t p) c.in-Syn.is) c.requires
    (subst (λ (b : Bool). Gathered found newer found1 newer1 (cond b (p.second ∷ []) [])) c.begins-begins.ensures c.in_ok-put_if-in-Syn.ensures)
    (subst (λ (b : Bool). Gathers c.put_if-in-Syn.result found1 newer1 found2 newer2 (cond b (p.first ∷ []) [])) c.ends-ends.ensures c.put_if-in-Syn.ensures)
