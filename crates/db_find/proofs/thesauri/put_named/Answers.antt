use Rattle.std.proofs.Common.{◌++◌, Option, ap, ◌∙◌}
use Rattle.q_reduce.specs.Results.{named_pairs}
use Rattle.db_state.specs.laws.Holding.{holds_thesauri}
use Rattle.db_find.specs.Thesauri.{found_thesaurus}
use Rattle.db_find.proofs.ThesaurusSteps.{scan_counts_nothing}
use Rattle.db_find.proofs.thesauri.put_named.Goals as goal

pub returns-clause-thesaurus : goal.returns-clause-thesaurus
returns-clause-thesaurus g c = λ m k holds stands.
    c.in_ok-put_found.ensures
    ∙ ap (λ (o : Option _). named_pairs c.args.found.now.items ++ found_thesaurus c.args.name.now o) (c.in_ok-thesaurus.ensures.thesaurus k holds m.thesauri (holds_thesauri k m stands))

pub returns-clause-at_most : goal.returns-clause-at_most
returns-clause-at_most g c = λ k holds i there. scan_counts_nothing k c.args.name.now i there _ _ (c.in_ok-thesaurus.ensures.at_most k holds)

pub returns-in_err-thesaurus-clause-at_most : goal.returns-in_err-thesaurus-clause-at_most
returns-in_err-thesaurus-clause-at_most g c = λ k holds i there. scan_counts_nothing k c.args.name.now i there _ _ (c.load.ensures.at_most k holds)

pub returns-in_err-put_found-clause-at_most : goal.returns-in_err-put_found-clause-at_most
returns-in_err-put_found-clause-at_most g c = λ k holds i there. scan_counts_nothing k c.args.name.now i there _ _ (c.in_ok-thesaurus.ensures.at_most k holds)
