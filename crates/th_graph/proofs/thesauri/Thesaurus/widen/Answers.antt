use Rattle.std.proofs.Common.{◌≡◌, ◌-◌, ℕ, List, [], length, take, drop, subst, arith}
use Rattle.std.proofs.lemmas.Result.{err_from_is_err_and}
use Rattle.ct_base.specs.laws.Lists.{first_of}
use Rattle.th_graph.specs.Expansions.{next_terms}
use Rattle.th_graph.proofs.Gathering.{AreGathering, gathering_begins, gathering_ends, gathering_fails, gathering_on}
use Rattle.th_graph.proofs.Lists.{none_left}
use Rattle.th_graph.proofs.Walks.{nexts}
use Rattle.th_graph.proofs.thesauri.Thesaurus.widen.Goals as goal

pub loop-rest-init : goal.loop-rest-init
loop-rest-init c = gathering_begins c.args.found.now.items c.args.newer.now.items (nexts c.args.self.now c.args.relation c.args.fresh.now) c.requires

pub returns-in_err-put_next_terms : goal.returns-in_err-put_next_terms
returns-in_err-put_next_terms c =
    let p = err_from_is_err_and c.from_residual.result c.from_residual.ensures.1 in
    let rest = c.loop-rest.rest.now in
    let t = c.term-item.result in
    let found = c.args.found.now.items in
    let newer = c.args.newer.now.items in
    let all = nexts c.args.self.now c.args.relation c.args.fresh.now in
    let split = first_of rest t c.in-len1-up.len_at_least c.term-item.is in
    let old = subst (λ (ts : List (List ℕ)). AreGathering c.loop-rest.found.items c.loop-rest.newer.items (nexts c.args.self.now c.args.relation ts) found newer all) split c.loop-rest.invariant in
    rw (p.1, p.2) (gathering_fails c.loop-rest.found.items c.loop-rest.newer.items found newer all c.in_err-put_next_terms.field-0.0 (next_terms c.args.self.now c.args.relation t) (nexts c.args.self.now c.args.relation (take (length rest - 1) (drop 1 rest)))
    c.in_err-put_next_terms.ensures old)

pub loop-rest-preserved : goal.loop-rest-preserved
loop-rest-preserved c =
    let rest = c.loop-rest.rest.now in
    let t = c.term-item.result in
    let found = c.args.found.now.items in
    let newer = c.args.newer.now.items in
    let all = nexts c.args.self.now c.args.relation c.args.fresh.now in
    let split = first_of rest t c.in-len1-up.len_at_least c.term-item.is in
    gathering_on c.loop-rest.found.items c.loop-rest.newer.items found newer all c.put_next_terms.new.found.items c.put_next_terms.new.newer.items (next_terms c.args.self.now c.args.relation t) (nexts c.args.self.now c.args.relation (take (length rest - 1) (drop 1 rest)))
    c.in_ok-put_next_terms.ensures
    (subst (λ (ts : List (List ℕ)). AreGathering c.loop-rest.found.items c.loop-rest.newer.items (nexts c.args.self.now c.args.relation ts) found newer all) split c.loop-rest.invariant)

pub returns : goal.returns
returns c =
    let none : c.loop-rest.rest.now ≡ [] = none_left c.loop-rest.rest.now (omega arith) in
    let all = nexts c.args.self.now c.args.relation c.args.fresh.now in
    gathering_ends c.loop-rest.found.items c.loop-rest.newer.items c.args.found.now.items c.args.newer.now.items all
    (subst (λ (ts : List (List ℕ)). AreGathering c.loop-rest.found.items c.loop-rest.newer.items (nexts c.args.self.now c.args.relation ts) c.args.found.now.items c.args.newer.now.items all) none c.loop-rest.invariant)
