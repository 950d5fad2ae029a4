use Rattle.std.proofs.Common.{◌≡◌, ◌-◌, ℕ, List, [], length, get_or, take, drop, ap, subst, ◌∙◌, arith}
use Rattle.std.specs.List.{flat_map}
use Rattle.std.proofs.lemmas.Result.{err_from_is_err_and}
use Rattle.th_graph.specs.declared.pairs.TermPair.{TermPair}
use Rattle.th_graph.specs.Expansions.{next_terms}
use Rattle.th_graph.specs.Places.{AreNoted, next_at}
use Rattle.th_graph.specs.Rising.{is_among_terms}
use Rattle.th_graph.proofs.Gathering.{AreGathering, gathered_alike, gathering_begins, gathering_ends, gathering_fails, gathering_on, too_many_alike}
use Rattle.th_graph.proofs.Lists.{flat_first, none_left}
use Rattle.th_graph.proofs.PlaceSteps.{next_by_places}
use Rattle.th_graph.proofs.thesauri.Thesaurus.put_next_terms.Goals as goal
use Rattle.th_graph.proofs.thesauri.Thesaurus.put_next_terms.Goals.{After-of-rest}

-- the pairs at the places of the term lead to the same terms as all pairs
by_places : (c : After-of-rest) (q : List ℕ) → is_among_terms q (flat_map (next_at c.args.self.now c.args.relation c.args.term.now) c.of-rest.result.now) ≡ is_among_terms q (next_terms c.args.self.now c.args.relation c.args.term.now)
by_places c q =
    let m = c.self.inside.places.places in
    ap (λ (places : List ℕ). is_among_terms q (flat_map (next_at c.args.self.now c.args.relation c.args.term.now) places)) c.of-rest.ensures
    ∙ next_by_places c.args.self.now m (subst (λ (l : List TermPair). AreNoted l m) c.self.view_is c.self.invariant) c.args.relation c.args.term.now q

pub loop-rest-init : goal.loop-rest-init
loop-rest-init c = gathering_begins c.args.found.now.items c.args.newer.now.items (flat_map (next_at c.args.self.now c.args.relation c.args.term.now) c.of-rest.result.now) c.requires

pub returns-in_err-put_next_at : goal.returns-in_err-put_next_at
returns-in_err-put_next_at c =
    let p = err_from_is_err_and c.from_residual.result c.from_residual.ensures.1 in
    let next = next_at c.args.self.now c.args.relation c.args.term.now in
    let rest = c.loop-rest.rest.now in
    let found = c.args.found.now.items in
    let newer = c.args.newer.now.items in
    let all = flat_map next c.of-rest.result.now in
    let old = subst (λ (l : List (List ℕ)). AreGathering c.loop-rest.found.items c.loop-rest.newer.items l found newer all) (flat_first next rest c.in-len1-up.len_at_least) c.loop-rest.invariant in
    rw (p.1, p.2) (too_many_alike found all (next_terms c.args.self.now c.args.relation c.args.term.now) c.requires (by_places (goal.at.returns-in_err-put_next_at c).After-of-rest) c.in_err-put_next_at.field-0.0
    (gathering_fails c.loop-rest.found.items c.loop-rest.newer.items found newer all c.in_err-put_next_at.field-0.0 (next (get_or rest 0 0)) (flat_map next (take (length rest - 1) (drop 1 rest))) c.in_err-put_next_at.ensures old))

pub loop-rest-preserved : goal.loop-rest-preserved
loop-rest-preserved c =
    let next = next_at c.args.self.now c.args.relation c.args.term.now in
    let rest = c.loop-rest.rest.now in
    let found = c.args.found.now.items in
    let newer = c.args.newer.now.items in
    let all = flat_map next c.of-rest.result.now in
    gathering_on c.loop-rest.found.items c.loop-rest.newer.items found newer all c.put_next_at.new.found.items c.put_next_at.new.newer.items (next (get_or rest 0 0)) (flat_map next (take (length rest - 1) (drop 1 rest))) c.in_ok-put_next_at.ensures
    (subst (λ (l : List (List ℕ)). AreGathering c.loop-rest.found.items c.loop-rest.newer.items l found newer all) (flat_first next rest c.in-len1-up.len_at_least) c.loop-rest.invariant)

pub returns : goal.returns
returns c =
    let next = next_at c.args.self.now c.args.relation c.args.term.now in
    let found = c.args.found.now.items in
    let newer = c.args.newer.now.items in
    let all = flat_map next c.of-rest.result.now in
    let none : flat_map next c.loop-rest.rest.now ≡ [] = ap (flat_map next) (none_left c.loop-rest.rest.now (omega arith)) in
    gathered_alike found all (next_terms c.args.self.now c.args.relation c.args.term.now) c.requires (by_places (goal.at.returns c).After-of-rest) newer c.loop-rest.found.items c.loop-rest.newer.items
    (gathering_ends c.loop-rest.found.items c.loop-rest.newer.items found newer all (subst (λ (l : List (List ℕ)). AreGathering c.loop-rest.found.items c.loop-rest.newer.items l found newer all) none c.loop-rest.invariant))
