use Rattle.std.proofs.Common.{◌≡◌, ◌+◌, [], ◌∷◌, drop, sym, ap, subst, ◌∙◌}
use Rattle.ct_keep.specs.laws.Composing.{reads_on, reads_hold}
use Rattle.ix_posting.specs.declared.rows.RowDocument.{RowDocument}
use Rattle.ix_rows.specs.laws.PlacedRows.{HasPlaces}
use Rattle.ix_repack.specs.Repacking.{stays}
use Rattle.ix_repack.proofs.JoinSteps.{left_at, joined_more, row_places}
use Rattle.ix_repack.proofs.joining.join_row.Goals as goal

pub join_document-requires-clause-places : goal.join_document-requires-clause-places
join_document-requires-clause-places g c =
    subst (HasPlaces g.P.Place.form) (sym c.document-item.is) (row_places g.P.Place.form c.args.documents.now c.requires.row c.loop-document.document-index c.document-item.result c.loop-document-test.true)

pub loop-document-preserved : goal.loop-document-preserved
loop-document-preserved g c =
    let item = c.document-item.result in
    let rest = drop (c.loop-document.document-index + 1) c.args.documents.now in
    let left : drop c.loop-document.document-index c.args.documents.now ≡ item ∷ rest =
    left_at c.args.documents.now c.loop-document.document-index item c.loop-document-test.true ∙ ap (λ (d : RowDocument _). d ∷ rest) (sym c.document-item.is)
    in
    record {
      reads = reads_on _ _ _ _ c.loop-document.invariant.reads c.in_ok-join_document.ensures.reads;
      joins = λ m holds.
          joined_more g.P.Place.form (stays c.args.mapped m c.args.index.now) _ c.loop-document.out c.join_document.new.out c.args.term.now (item ∷ []) _ rest
          (c.loop-document.invariant.joins m holds) left (c.in_ok-join_document.ensures.joins m (reads_hold _ _ m c.loop-document.invariant.reads holds));
      grown = λ are. c.in_ok-join_document.ensures.grown (c.loop-document.invariant.grown are);
    }
