use Rattle.std.proofs.Common.{sym, ap, ◌∙◌}
use Rattle.std.proofs.lemmas.Bool.{false≢true}
use Rattle.th_graph.specs.Pairs.{term_pair}
use Rattle.th_store.specs.Rules.{is_pair}
use Rattle.th_store.specs.laws.Pairs.{part_apart}
use Rattle.th_store.proofs.reading.pair_in.Goals as goal

pub returns-else-is_pair : goal.returns-else-is_pair
returns-else-is_pair c = λ p is spells.
    let q = term_pair c.in-Some.kind c.in-Some.first.now c.in-Some.second.now in
    false≢true (sym (sym c.is_pair.ensures ∙ c.if-is_pair.false) ∙ ap is_pair (sym (part_apart p q (sym spells ∙ c.in-Some.ensures))) ∙ is)
