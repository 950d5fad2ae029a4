use Rattle.std.proofs.Common.{◌≡◌, ◌≤◌, ℕ, List, [], length, Result, Ok, Err, sym, subst, ◌∙◌}
use Rattle.std.specs.Prelude.{Vec}
use Rattle.std.specs.declared.alloc.Global.{Global}
use Rattle.q_tree.specs.declared.queries.Relation.{Relation}
use Rattle.q_tree.specs.declared.queries.Relation.TheVariants.{Syn, Broader, Narrower, Preferred}
use Rattle.th_graph.specs.declared.pairs.TermPair.{TermPair}
use Rattle.th_graph.specs.declared.faults.ExpandFault.{ExpandFault}
use Rattle.th_graph.specs.declared.faults.ExpandFault.TheVariants.{TooMany, Memory}
use Rattle.th_graph.specs.Answers.{Expands}
use Rattle.th_graph.specs.Rising.{with_ordered_terms}
use Rattle.th_graph.specs.Expansions.{step_limit, expansion, expansion_limit, next_terms, or_itself, terms_within}
use Rattle.th_graph.proofs.Reaching.{all_synonyms, many_synonyms}
use Rattle.th_graph.proofs.thesauri.Thesaurus.expand.Goals as goal

module _ (ps : List TermPair) (a : List ℕ) (level : ℕ) (r : Result (Vec (List ℕ) Global) ExpandFault) where
  by_relation : (is was : Relation) → is ≡ was → Expands r (expansion ps was level a) → Expands r (expansion ps is level a)
  by_relation is was same e = subst (λ (x : Relation). Expands r (expansion ps x level a)) (sym same) e

  synonyms : Expands r (terms_within ps Syn (step_limit ps) a) → Expands r (expansion ps Syn level a)
  unfolding expansion
  synonyms e = e

  broader : Expands r (terms_within ps Broader level a) → Expands r (expansion ps Broader level a)
  unfolding expansion
  broader e = e

  narrower : Expands r (terms_within ps Narrower level a) → Expands r (expansion ps Narrower level a)
  unfolding expansion
  narrower e = e

  preferred : Expands r (or_itself a (with_ordered_terms [] (next_terms ps Preferred a))) → Expands r (expansion ps Preferred level a)
  unfolding expansion
  preferred e = e

all_found : (ps : List TermPair) (a : List ℕ) (r : Result (Vec (List ℕ) Global) ExpandFault) → Expands r (terms_within ps Syn expansion_limit a) → Expands r (terms_within ps Syn (step_limit ps) a)
all_found ps a (Ok found) e = (e.0 ∙ all_synonyms ps a e.1, subst (λ (l : List (List ℕ)). length l ≤ expansion_limit) (all_synonyms ps a e.1) e.1)
all_found ps a (Err TooMany) e = many_synonyms ps a e
all_found ps a (Err Memory) e = tt

pub returns-in-Syn : goal.returns-in-Syn
returns-in-Syn c = by_relation c.args.self.now c.args.term.now c.args.level c.reach.result c.args.relation Syn c.in-Syn.is
    (synonyms c.args.self.now c.args.term.now c.args.level c.reach.result (all_found c.args.self.now c.args.term.now c.reach.result c.reach.ensures))

pub returns-in-Broader : goal.returns-in-Broader
returns-in-Broader c = by_relation c.args.self.now c.args.term.now c.args.level c.reach-in-Broader.result c.args.relation Broader c.in-Broader.is
    (broader c.args.self.now c.args.term.now c.args.level c.reach-in-Broader.result c.reach-in-Broader.ensures)

pub returns-in-Narrower : goal.returns-in-Narrower
returns-in-Narrower c = by_relation c.args.self.now c.args.term.now c.args.level c.reach-in-Narrower.result c.args.relation Narrower c.in-Narrower.is
    (narrower c.args.self.now c.args.term.now c.args.level c.reach-in-Narrower.result c.reach-in-Narrower.ensures)

pub returns-in-Preferred : goal.returns-in-Preferred
returns-in-Preferred c = by_relation c.args.self.now c.args.term.now c.args.level c.preferred.result c.args.relation Preferred c.in-Preferred.is
    (preferred c.args.self.now c.args.term.now c.args.level c.preferred.result c.preferred.ensures)
