use Rattle.std.proofs.Common.{[], subst}
use Rattle.ct_keep.specs.laws.Composing.{reads_hold}
use Rattle.ct_entry.specs.declared.kinds.Kind.TheVariants as kind
use Rattle.ct_entry.specs.Keys.{at, key}
use Rattle.cat_index.specs.Spelling.{SpellsCatalogue}
use Rattle.db_find.specs.laws.Catalogues.{is_index_of, its_names, spells_some}
use Rattle.db_find.proofs.CatalogueSteps.{reads_behind, reads_fewer}
use Rattle.db_find.proofs.catalogues.find_in_catalogue.Goals as goal

pub returns-in_default-clause-found : goal.returns-in_default-clause-found
returns-in_default-clause-found g c = λ m k x holds stands there columns.
    let i = c.args.index.now in
    absurd (spells_some k m stands i x there (subst (SpellsCatalogue (at k (key kind.Indexes i []))) c.in_default.is (c.in_ok-catalogue.ensures.value k holds)))

pub returns-in_default-clause-texts : goal.returns-in_default-clause-texts
returns-in_default-clause-texts g c = λ m k x holds stands there columns. reads_fewer _ _ _ c.in_ok-catalogue.ensures.at_most

pub returns-in_err-catalogue-clause-texts : goal.returns-in_err-catalogue-clause-texts
returns-in_err-catalogue-clause-texts g c = λ m k x holds stands there columns. reads_fewer _ _ _ c.catalogue_of.ensures.at_most

pub returns-clause-found : goal.returns-clause-found
returns-clause-found g c = λ m k x holds stands there columns.
    let i = c.args.index.now in
    let y = c.in-Some.catalogue in
    let spells = subst (SpellsCatalogue (at k (key kind.Indexes i []))) c.in-Some.is (c.in_ok-catalogue.ensures.value k holds) in
    c.find_by_texts.ensures.found m k x (reads_hold _ _ k c.in_ok-catalogue.ensures.reads holds) stands there (is_index_of k m stands i x there y spells) (its_names k m stands i x there y spells) columns

pub returns-clause-texts : goal.returns-clause-texts
returns-clause-texts g c = λ m k x holds stands there columns.
    let i = c.args.index.now in
    let y = c.in-Some.catalogue in
    let spells = subst (SpellsCatalogue (at k (key kind.Indexes i []))) c.in-Some.is (c.in_ok-catalogue.ensures.value k holds) in
    reads_behind _ _ _ _ c.in_ok-catalogue.ensures.at_most
    (c.find_by_texts.ensures.texts m k x (reads_hold _ _ k c.in_ok-catalogue.ensures.reads holds) stands there (is_index_of k m stands i x there y spells) (its_names k m stands i x there y spells) columns)
