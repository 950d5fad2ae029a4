use Rattle.std.proofs.Common.{◌++◌, List, Option, sym, ap, ◌∙◌}
use Rattle.std.proofs.lemmas.List.{append-nil}
use Rattle.q_reduce.specs.Results.{named_pairs}
use Rattle.th_graph.specs.declared.pairs.TermPair.{TermPair}
use Rattle.db_state.specs.laws.Holding.{holds_thesauri}
use Rattle.db_index.specs.Thesauri.{pairs_named}
use Rattle.db_index.proofs.thesauri.put_thesaurus.Goals as goal

pub returns-in_default-clause-more : goal.returns-in_default-clause-more
returns-in_default-clause-more g c = λ m k holds stands.
    sym (append-nil (named_pairs c.args.loaded.now.items))
    ∙ ap (λ (o : Option (List TermPair)). named_pairs c.args.loaded.now.items ++ pairs_named c.args.name o) (sym c.in_default.is ∙ c.in_ok-thesaurus.ensures.thesaurus k holds m.thesauri (holds_thesauri k m stands))

pub returns-clause-more : goal.returns-clause-more
returns-clause-more g c = λ m k holds stands.
    c.in_ok-put.ensures
    ∙ ap (λ (o : Option (List TermPair)). named_pairs c.args.loaded.now.items ++ pairs_named c.args.name o) (sym c.in-Some.is ∙ c.in_ok-thesaurus.ensures.thesaurus k holds m.thesauri (holds_thesauri k m stands))
