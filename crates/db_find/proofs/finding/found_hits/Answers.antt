use Rattle.std.proofs.Common.{ℕ, Option, Some, sym, ap, ◌∙◌}
use Rattle.std.specs.Option.{option_map}
use Rattle.std.proofs.lemmas.Result.{IfOk-weaker}
use Rattle.q_tree.specs.declared.flats.Flat.{Flat}
use Rattle.q_tree.specs.ReducedQueries.{reduced_of}
use Rattle.db_find.specs.Querying.{Finds}
use Rattle.db_find.specs.Finding.{found_by}
use Rattle.db_find.specs.Looking.{meaning_looks}
use Rattle.db_find.specs.laws.Looking.{rises_as, rises_still}
use Rattle.db_find.proofs.finding.found_hits.Goals as goal

pub returns-clause-found : goal.returns-clause-found
returns-clause-found g c = λ m k x holds stands there.
    IfOk-weaker c.hits_above.result _ _
    (λ hits is.
    is
    ∙ sym (ap (λ (flat : Option Flat). found_by m.tables x (Finds (option_map reduced_of flat)) c.args.above) c.in-Some.is
    ∙ ap (λ (above : Option ℕ). found_by m.tables x (Finds (Some (reduced_of c.in-Some.flat))) above) c.in-Some-above.is))
    (c.hits_above.ensures.found m k x holds stands there)

pub returns-in_default-clause-at_most : goal.returns-in_default-clause-at_most
returns-in_default-clause-at_most g c = λ m holds. rises_still _ _

pub returns-in_default-above-clause-at_most : goal.returns-in_default-above-clause-at_most
returns-in_default-above-clause-at_most g c = λ m holds. rises_still _ _

pub returns-clause-at_most : goal.returns-clause-at_most
returns-clause-at_most g c = λ m holds.
    let i = c.args.index.now in
    rises_as _ _ _ _
    (ap (λ (flat : Option Flat). meaning_looks m i (Finds (option_map reduced_of flat)) c.args.above) c.in-Some.is
    ∙ ap (λ (above : Option ℕ). meaning_looks m i (Finds (Some (reduced_of c.in-Some.flat))) above) c.in-Some-above.is)
    (c.hits_above.ensures.at_most m holds)
