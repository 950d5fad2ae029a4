use Rattle.std.proofs.Common.{◌≡◌, List, map, sym, ap, ◌∙◌}
use Rattle.std.proofs.lemmas.Result.{IfOk-weaker}
use Rattle.st_parse.specs.declared.statements.Item.{Item}
use Rattle.st_parse.specs.declared.statements.SelectList.{SelectList}
use Rattle.db_state.specs.Lines.{lines_or_none}
use Rattle.db_select.specs.Listing.{all_columns, rows_reply}
use Rattle.ix_search.specs.Hits.{hit_rows}
use Rattle.db_select.specs.Hits.{hits_of}
use Rattle.db_select.specs.Sources.{column_source, field_source}
use Rattle.db_select.specs.Fields.{fields_among}
use Rattle.db_select.specs.Looking.{shown_texts}
use Rattle.db_select.proofs.SelectLaws.{columns_are, rows_are}
use Rattle.db_select.proofs.ShownLaws.{all_shown, items_shown}
use Rattle.db_select.proofs.listing.rows_reply.Goals as goal

pub returns-in_ok-sources-in-Star-clause-reply : goal.returns-in_ok-sources-in-Star-clause-reply
returns-in_ok-sources-in-Star-clause-reply g c = λ m k x holds stands there same own.
    let t = c.args.table.now in
    let columns = c.args.columns.now in
    let sources = columns_are columns c.deref.result.now x same (c.deref.ensures.value ∙ c.in_ok-sources-in-Star.ensures) in
    IfOk-weaker c.hit_lines.result _ _
    (λ lines is.
    is
    ∙ ap lines_or_none (rows_are m t x (all_columns x.columns) columns c.deref.result.now (hits_of c.args.rows.items) stands.state.tables there same sources)
    ∙ ap (λ (list : SelectList). rows_reply m.tables t x.columns list (hit_rows (hits_of c.args.rows.items))) (sym c.in-Star.is))
    (c.hit_lines.ensures.lines m k holds stands own)

pub returns-in_ok-sources-in-Items-clause-reply : goal.returns-in_ok-sources-in-Items-clause-reply
returns-in_ok-sources-in-Items-clause-reply g c = λ m k x holds stands there same own.
    let t = c.args.table.now in
    let columns = c.args.columns.now in
    let items : List Item = c.in-Items.items in
    let sources : c.deref-in-Items.result.now ≡ map (field_source columns) items =
    c.deref-in-Items.ensures.value ∙ c.in_ok-sources-in-Items.ensures ∙ ap (λ (is : List Item). map (field_source columns) is) c.as_slice.ensures in
    IfOk-weaker c.hit_lines-in-Items.result _ _
    (λ lines is.
    is
    ∙ ap lines_or_none (rows_are m t x items columns c.deref-in-Items.result.now (hits_of c.args.rows.items) stands.state.tables there same sources)
    ∙ ap (λ (list : SelectList). rows_reply m.tables t x.columns list (hit_rows (hits_of c.args.rows.items))) (sym c.in-Items.is))
    (c.hit_lines-in-Items.ensures.lines m k holds stands own)

-- ---- the texts

pub returns-in_ok-sources-in-Star-clause-at_most : goal.returns-in_ok-sources-in-Star-clause-at_most
returns-in_ok-sources-in-Star-clause-at_most g c =
    let columns = c.args.columns.now in
    let list = c.args.list.now in
    let sources : c.deref.result.now ≡ map (column_source columns) columns = c.deref.ensures.value ∙ c.in_ok-sources-in-Star.ensures in
    c.hit_lines.ensures.at_most (shown_texts list columns) (ap (fields_among (shown_texts list columns)) sources ∙ all_shown list columns c.in-Star.is columns)

pub returns-in_ok-sources-in-Items-clause-at_most : goal.returns-in_ok-sources-in-Items-clause-at_most
returns-in_ok-sources-in-Items-clause-at_most g c =
    let columns = c.args.columns.now in
    let list = c.args.list.now in
    let items : List Item = c.in-Items.items in
    let sources : c.deref-in-Items.result.now ≡ map (field_source columns) items =
    c.deref-in-Items.ensures.value ∙ c.in_ok-sources-in-Items.ensures ∙ ap (λ (is : List Item). map (field_source columns) is) c.as_slice.ensures in
    c.hit_lines-in-Items.ensures.at_most (shown_texts list columns) (ap (fields_among (shown_texts list columns)) sources ∙ items_shown list columns items c.in-Items.is)
