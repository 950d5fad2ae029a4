use Rattle.std.proofs.Common.{◌++◌, ap, ◌∙◌, rules}
use Rattle.ct_keep.specs.laws.Composing.{reads_on, reads_hold}
use Rattle.cat_index.specs.laws.Shapes.{shaped_added}
use Rattle.cat_index.proofs.creating.create.Goals as goal

pub returns-clause-changes : goal.returns-clause-changes
returns-clause-changes g c = λ m ts holds only stand are.
    let columns = c.deref.ensures.value ∙ c.in_ok-columns.ensures.columns m ts holds only stand are in
    let again = reads_hold _ _ m c.in_ok-columns.ensures.reads holds in
    c.in_ok-append.ensures.ok ∙ ap (λ w. c.args.batch.now ++ w) (c.in_ok-changes.ensures.changes m ts again only stand are columns)

pub returns-clause-shaped : goal.returns-clause-shaped
returns-clause-shaped g c = shaped_added c.args.batch.now c.append.new.self c.in_ok-changes.changes c.in_ok-append.ensures.ok c.in_ok-changes.ensures.shaped

pub returns-in_err-changes-clause-reads : goal.returns-in_err-changes-clause-reads
returns-in_err-changes-clause-reads g c = reads_on _ _ _ _ c.in_ok-columns.ensures.reads (search rules)

pub returns-clause-reads : goal.returns-clause-reads
returns-clause-reads g c = reads_on _ _ _ _ c.in_ok-columns.ensures.reads c.in_ok-changes.ensures.reads
