use Rattle.std.proofs.Common.{sym, ap, ◌∙◌}
use Rattle.std.proofs.lemmas.Bool.{false≢true}
use Rattle.pg_map.specs.PageStrings.{string_key}
use Rattle.pg_directory.specs.Trees.{HasString}
use Rattle.pg_batch.proofs.EntryPages.{page_there}
use Rattle.pg_batch.proofs.Neighbours.{last_place, own_place, other_place, no_place}
use Rattle.pg_batch.proofs.placing.place_among.Goals as goal

pub returns-in_default-clause-place : goal.returns-in_default-clause-place
returns-in_default-clause-place g c = λ top pages es holds dir n. no_place pages top es dir c.args.key.now c.args.found n c.in_default.is

pub returns-in-Some-true-clause-place : goal.returns-in-Some-true-clause-place
returns-in-Some-true-clause-place g c = λ top pages es holds dir n.
    let at = c.in-Some.at in
    let has : HasString pages at = last_place pages top es dir c.args.key.now c.args.found n at c.in-Some.is in
    let page = page_there pages at c.page_of.new.cache (c.in-Ok.ensures.page top pages holds has) c.in-Some-page.is c.page.ensures in
    own_place pages top es dir c.args.key.now c.args.found n at c.in-Some.is
    (ap string_key page.is ∙ (c.in-Some-true.ensures page.strings page.fits page.at page.less).0 c.in-Some-true.field-0-test)

pub returns-in-Some-false-clause-place : goal.returns-in-Some-false-clause-place
returns-in-Some-false-clause-place g c = λ top pages es holds dir n.
    let at = c.in-Some.at in
    let has : HasString pages at = last_place pages top es dir c.args.key.now c.args.found n at c.in-Some.is in
    let page = page_there pages at c.page_of.new.cache (c.in-Ok.ensures.page top pages holds has) c.in-Some-page.is c.page.ensures in
    other_place pages top es dir c.args.key.now c.args.found n at c.in-Some.is
    (λ is. false≢true (sym c.in-Some-false.field-0-test ∙ (c.in-Some-false.ensures page.strings page.fits page.at page.less).1 (sym (ap string_key page.is) ∙ is)))
