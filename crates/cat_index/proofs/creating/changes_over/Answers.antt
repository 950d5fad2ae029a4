use Rattle.std.proofs.Common.{List, map, ap, subst, sym, ◌∙◌}
use Rattle.std.proofs.lemmas.Result.{err_from_is_err_and}
use Rattle.ct_base.specs.declared.numbers.RowKey.{RowKey}
use Rattle.ct_entry.specs.Shapes.{AreShaped}
use Rattle.ct_keep.specs.laws.Composing.{reads_on, reads_hold}
use Rattle.tb_table.specs.laws.Reading.{rows_read}
use Rattle.ix_kinds.specs.Rows.{table_at}
use Rattle.cat_index.specs.Catalogues.{places_in}
use Rattle.cat_index.specs.Shapes.{HasCatalogueValue}
use Rattle.cat_index.specs.laws.Limits.{each_fits, few_places}
use Rattle.cat_index.proofs.CreateSteps.{created_added, keys_of_table, listed_there}
use Rattle.cat_index.proofs.creating.changes_over.Goals as goal

pub put_rows-requires-clause-few : goal.put_rows-requires-clause-few
put_rows-requires-clause-few g c = few_places c.args.columns.now c.args.catalogue.now.subs c.as_slice-sub_places.result.now (c.as_slice-sub_places.ensures.value ∙ c.in_ok-places.ensures ∙ ap (places_in c.args.columns.now) c.as_slice.ensures) c.requires.subs

pub put_rows-requires-clause-each : goal.put_rows-requires-clause-each
put_rows-requires-clause-each g c = each_fits c.args.columns.now c.args.catalogue.now.subs c.as_slice-sub_places.result.now (c.as_slice-sub_places.ensures.value ∙ c.in_ok-places.ensures ∙ ap (places_in c.args.columns.now) c.as_slice.ensures) c.requires.subs

pub put_rows-requires-clause-places : goal.put_rows-requires-clause-places
put_rows-requires-clause-places g c = c.as_slice-sub_places.ensures.value ∙ c.in_ok-places.ensures ∙ ap (places_in c.args.columns.now) c.as_slice.ensures

pub returns-clause-changes : goal.returns-clause-changes
returns-clause-changes g c = λ m ts holds only stand are columns.
    let t = table_at ts c.args.catalogue.now.target.table in
    let again = reads_hold _ _ m c.in_ok-rows.ensures.reads holds in
    let listed =
    ap (λ (l : List RowKey). map (λ (r : RowKey). r.0) l) c.as_slice-keys.ensures.value ∙ c.in_ok-rows.ensures.rows m holds ∙ rows_read m ts only stand are c.args.catalogue.now.target.table
    ∙ keys_of_table ts c.args.catalogue.now.target.table in
    created_added c.args.index.now t c.args.columns.now c.args.catalogue.now c.as_slice-keys.result.now c.new-changes.result c.put_catalogue.new.batch c.put_rows.new.changes columns listed c.new-changes.ensures c.in_ok-put_catalogue.ensures.ok
    (c.in_ok-put_rows.ensures.changes m ts again only stand are (sym columns) (listed_there t c.as_slice-keys.result.now listed))

pub returns-clause-shaped : goal.returns-clause-shaped
returns-clause-shaped g c =
    let none : AreShaped HasCatalogueValue c.new-changes.result = subst (AreShaped HasCatalogueValue) (sym c.new-changes.ensures) tt in
    c.in_ok-put_rows.ensures.shaped (c.in_ok-put_catalogue.ensures.shaped none)

pub returns-in_err-put_rows-clause-reads : goal.returns-in_err-put_rows-clause-reads
returns-in_err-put_rows-clause-reads g c =
    let p = err_from_is_err_and c.from_residual-in_err-put_rows.result c.from_residual-in_err-put_rows.ensures.1 in
    rw (p.1, p.2) (reads_on _ _ _ _ c.in_ok-rows.ensures.reads c.in_err-put_rows.ensures.reads)

pub returns-clause-reads : goal.returns-clause-reads
returns-clause-reads g c = reads_on _ _ _ _ c.in_ok-rows.ensures.reads c.in_ok-put_rows.ensures.reads
