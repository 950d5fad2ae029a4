use Rattle.std.proofs.Common.{List, ap, subst, ◌∙◌}
use Rattle.q_tree.specs.Trees.{tree_of}
use Rattle.q_reduce.specs.Results.{named_pairs}
use Rattle.db_find.specs.Meanings.{Means}
use Rattle.db_find.specs.Querying.{meaning_by}
use Rattle.db_find.specs.Thesauri.{NamedPairs, thesauri_of}
use Rattle.db_find.proofs.querying.meaning_of_query.Goals as goal

pub returns-clause-meaning : goal.returns-clause-meaning
returns-clause-meaning g c = λ m k holds stands.
    let loaded =
    ap named_pairs c.deref-2.ensures.value
    ∙ c.in_ok-thesauri.ensures.thesauri m k holds stands
    ∙ ap (thesauri_of m.thesauri) (c.deref.ensures.value ∙ c.in_ok-names.ensures) in
    subst (λ (ts : List NamedPairs). Means c.in_ok-meaning.meaning (meaning_by c.args.prefs.now ts (tree_of c.args.query.now))) loaded c.in_ok-meaning.ensures.meaning
