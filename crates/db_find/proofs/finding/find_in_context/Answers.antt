use Rattle.std.proofs.Common.{◌≡◌, ℕ, Option, sym, subst, ap, ◌∙◌}
use Rattle.std.specs.Option.{option_map}
use Rattle.ct_keep.specs.laws.Composing.{reads_hold}
use Rattle.q_tree.specs.ReducedQueries.{reduced_of}
use Rattle.db_find.specs.Finding.{found_by}
use Rattle.db_find.specs.Looking.{meaning_looks}
use Rattle.db_find.specs.laws.Looking.{rises_as, rises_behind, rises_weaker}
use Rattle.db_find.specs.Meanings.{Means}
use Rattle.db_find.specs.Querying.{Meaning, Finds, meaning_of, refusal_in}
use Rattle.db_find.specs.Searches.{threshold_of}
use Rattle.db_find.specs.declared.querying.Meaning.TheVariants.{Refused}
use Rattle.db_find.proofs.Enough.{all_are_enough, found_by_rise}
use Rattle.db_find.proofs.finding.find_in_context.Goals as goal

pub returns-in-Refused-clause-found : goal.returns-in-Refused-clause-found
returns-in-Refused-clause-found g c = λ m k x holds stands there.
    let meaning : Meaning = meaning_of x.prefs m.thesauri c.args.query.now in
    let means : Means (Refused c.in-Refused.line) meaning = subst (λ h. Means h meaning) c.in-Refused.is (c.in_ok-meaning.ensures.meaning m k x holds stands there) in
    (means.0, (ap refusal_in means.1.0, means.1.1))

pub returns-in_ok-hits-in-Finds-clause-found : goal.returns-in_ok-hits-in-Finds-clause-found
returns-in_ok-hits-in-Finds-clause-found g c = λ m k x holds stands there.
    let meaning : Meaning = meaning_of x.prefs m.thesauri c.args.query.now in
    let means : meaning ≡ Finds (option_map reduced_of c.in-Finds.flat) = subst (λ h. Means h meaning) c.in-Finds.is (c.in_ok-meaning.ensures.meaning m k x holds stands there) in
    let behind = reads_hold _ _ k c.in_ok-meaning.ensures.reads holds in
    let rows =
    c.in_ok-hits-in-Finds.ensures.found m k x behind stands there
    ∙ ap (λ (o : Option ℕ). found_by m.tables x (Finds (option_map reduced_of c.in-Finds.flat)) o) c.threshold_of-above.ensures
    ∙ sym (ap (λ (meaning : Meaning). found_by m.tables x meaning (threshold_of c.args.above)) means) in
    (ap refusal_in means, (c.nothing_asked.ensures, all_are_enough _ _ _ _ rows (found_by_rise m.tables x meaning (threshold_of c.args.above))))

-- ---- the look-ups

pub returns-in_err-meaning-clause-at_most : goal.returns-in_err-meaning-clause-at_most
returns-in_err-meaning-clause-at_most g c = λ m k x holds stands there. rises_weaker _ _ _ (c.meaning_in.ensures.at_most m k x holds stands there)

pub returns-in-Refused-clause-at_most : goal.returns-in-Refused-clause-at_most
returns-in-Refused-clause-at_most g c = λ m k x holds stands there. rises_weaker _ _ _ (c.in_ok-meaning.ensures.at_most m k x holds stands there)

pub returns-in_err-hits-in-Finds-clause-at_most : goal.returns-in_err-hits-in-Finds-clause-at_most
returns-in_err-hits-in-Finds-clause-at_most g c = λ m k x holds stands there.
    let i = c.args.index.now in
    let meaning : Meaning = meaning_of x.prefs m.thesauri c.args.query.now in
    let means : meaning ≡ Finds (option_map reduced_of c.in-Finds.flat) = subst (λ h. Means h meaning) c.in-Finds.is (c.in_ok-meaning.ensures.meaning m k x holds stands there) in
    let behind = reads_hold _ _ k c.in_ok-meaning.ensures.reads holds in
    let same = ap (λ (a : Meaning). meaning_looks k i a (threshold_of c.args.above)) means ∙ sym (ap (λ (o : Option ℕ). meaning_looks k i (Finds (option_map reduced_of c.in-Finds.flat)) o) c.threshold_of-above.ensures) in
    rises_behind _ _ _ _ (c.in_ok-meaning.ensures.at_most m k x holds stands there) (rises_as _ _ _ _ same (c.found_hits.ensures.at_most k behind))

pub returns-in_ok-hits-in-Finds-clause-at_most : goal.returns-in_ok-hits-in-Finds-clause-at_most
returns-in_ok-hits-in-Finds-clause-at_most g c = λ m k x holds stands there.
    let i = c.args.index.now in
    let meaning : Meaning = meaning_of x.prefs m.thesauri c.args.query.now in
    let means : meaning ≡ Finds (option_map reduced_of c.in-Finds.flat) = subst (λ h. Means h meaning) c.in-Finds.is (c.in_ok-meaning.ensures.meaning m k x holds stands there) in
    let behind = reads_hold _ _ k c.in_ok-meaning.ensures.reads holds in
    let same = ap (λ (a : Meaning). meaning_looks k i a (threshold_of c.args.above)) means ∙ sym (ap (λ (o : Option ℕ). meaning_looks k i (Finds (option_map reduced_of c.in-Finds.flat)) o) c.threshold_of-above.ensures) in
    rises_behind _ _ _ _ (c.in_ok-meaning.ensures.at_most m k x holds stands there) (rises_as _ _ _ _ same (c.in_ok-hits-in-Finds.ensures.at_most k behind))
