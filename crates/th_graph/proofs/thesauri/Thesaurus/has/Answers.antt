use Rattle.std.proofs.Common.{List, ap, subst, ◌∙◌}
use Rattle.std.specs.List.{list_any}
use Rattle.th_graph.specs.declared.pairs.TermPair.{TermPair}
use Rattle.th_graph.specs.Pairs.{term_pair, same_term_pair}
use Rattle.th_graph.specs.Places.{AreNoted, passes_at}
use Rattle.th_graph.proofs.PlaceSteps.{pair_by_first, pair_by_second}
use Rattle.th_graph.proofs.thesauri.Thesaurus.has.Goals as goal

pub returns-then-of_first-of_second : goal.returns-then-of_first-of_second
returns-then-of_first-of_second c =
    c.is_at_one.ensures
    ∙ ap (list_any (passes_at c.args.self.now (same_term_pair (term_pair c.args.kind c.args.first.now c.args.second.now)))) c.of-of_first.ensures
    ∙ pair_by_first c.args.self.now c.self.inside.places.places (subst (λ (l : List TermPair). AreNoted l c.self.inside.places.places) c.self.view_is c.self.invariant) c.args.kind c.args.first.now c.args.second.now

pub returns-else-of_first-of_second : goal.returns-else-of_first-of_second
returns-else-of_first-of_second c =
    c.is_at_one-else-of_first-of_second.ensures
    ∙ ap (list_any (passes_at c.args.self.now (same_term_pair (term_pair c.args.kind c.args.first.now c.args.second.now)))) c.of-of_second.ensures
    ∙ pair_by_second c.args.self.now c.self.inside.places.places (subst (λ (l : List TermPair). AreNoted l c.self.inside.places.places) c.self.view_is c.self.invariant) c.args.kind c.args.first.now c.args.second.now
