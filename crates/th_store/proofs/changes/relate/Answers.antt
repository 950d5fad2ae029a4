use Rattle.std.proofs.lemmas.Result.{on_ok_weaker}
use Rattle.th_graph.specs.Pairs.{stated_pair}
use Rattle.th_store.specs.laws.Rules.{stated_is_pair, term_is}
use Rattle.th_store.proofs.ShapeSteps.{pair_shaped}
use Rattle.th_store.proofs.changes.relate.Goals as goal

pub returns-clause-shaped : goal.returns-clause-shaped
returns-clause-shaped c =
    let a = c.args.a.now in
    let b = c.args.b.now in
    let well = stated_is_pair c.args.relation a b (term_is a c.as_str-of_a.result.now c.as_str-of_a.ensures.text c.as_str-of_a.ensures.term c.as_str-of_a.utf8) (term_is b c.as_str-of_b.result.now c.as_str-of_b.ensures.text c.as_str-of_b.ensures.term c.as_str-of_b.utf8) in
    on_ok_weaker c.put_pair.result (λ _. pair_shaped c.args.name.now (stated_pair c.args.relation a b) c.as_str-named.ensures.name well) c.put_pair.ensures.ok
