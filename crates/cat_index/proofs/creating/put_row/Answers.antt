use Rattle.std.proofs.Common.{◌++◌, true, sym, ap, subst, ◌∙◌}
use Rattle.ct_entry.specs.Changes.{spell}
use Rattle.tb_table.specs.Tables.{text_in_column}
use Rattle.cat_index.specs.declared.filings.Filing.{Filing}
use Rattle.cat_index.specs.Catalogues.{places_in}
use Rattle.cat_index.specs.Changes.{filing_changes}
use Rattle.cat_index.specs.Filings.{IsShortOrNone}
use Rattle.cat_index.specs.laws.Limits.{text_is_short}
use Rattle.cat_index.proofs.CreateSteps.{row_filed}
use Rattle.cat_index.proofs.creating.put_row.Goals as goal

pub returns-clause-changes : goal.returns-clause-changes
returns-clause-changes g c = λ m ts holds only stand are x vs here columns there.
    let read = c.deref.ensures.value ∙ c.in_ok-values.ensures.values m ts holds only stand are x vs here columns there in
    let short = subst (λ us. IsShortOrNone (text_in_column us c.args.catalogue.now.target.column)) (sym read) (text_is_short x c.args.row.0 vs c.args.catalogue.now.target.column (are.each c.args.catalogue.now.target.table x here) there) in
    c.in_ok-row_comes.ensures.ok
    ∙ ap (λ (w : Filing). c.args.changes.now ++ spell (filing_changes c.args.index.now c.args.row.0 w true))
    (c.in_ok-filing.ensures.filing short ∙ row_filed c.args.catalogue.now.prefs c.args.catalogue.now.target.column c.args.row.0 _ vs c.args.places.now (places_in c.args.columns.now c.args.catalogue.now.subs) read c.requires.places)
