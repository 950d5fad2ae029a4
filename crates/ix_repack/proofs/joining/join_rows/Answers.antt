use Rattle.std.proofs.Common.{◌≡◌, List, ◌∷◌, ◌++◌, ◌+◌, drop, sym, ap, subst, ◌∙◌}
use Rattle.ct_keep.specs.laws.Composing.{reads_on, reads_hold}
use Rattle.ix_posting.specs.declared.rows.RowDocument.{RowDocument}
use Rattle.ix_posting.specs.Lists.{posting_list}
use Rattle.ix_posting.specs.Rows.{IsPostingRowOf}
use Rattle.ix_repack.specs.Repacking.{stays, joins_all}
use Rattle.ix_repack.proofs.JoinSteps.{left_at, joined_more}
use Rattle.ix_repack.proofs.joining.join_rows.Goals as goal

pub join_row-requires-clause-row : goal.join_row-requires-clause-row
join_row-requires-clause-row g c = subst (IsPostingRowOf g.P.Place.form) (sym c.documents-documents.ensures.documents) c.documents-documents.ensures.row

pub loop-encoded-preserved : goal.loop-encoded-preserved
loop-encoded-preserved g c =
    let i = c.loop-encoded.encoded-index in
    let encoded = c.encoded-item.result in
    let rest = drop (i + 1) c.args.rows.now in
    let left : posting_list (drop i c.args.rows.now) ≡ encoded ++ posting_list rest =
    ap (λ (rows : List (List (RowDocument _))). posting_list rows) (left_at c.args.rows.now i encoded c.loop-encoded-test.true ∙ ap (λ (row : List (RowDocument _)). row ∷ rest) (sym c.encoded-item.is))
    in
    let read : c.documents-documents.result.now ≡ encoded = c.documents-documents.ensures.documents ∙ c.in_ok-row.ensures in
    record {
      reads = reads_on _ _ _ _ c.loop-encoded.invariant.reads c.in_ok-join_row.ensures.reads;
      joins = λ m holds.
          joined_more g.P.Place.form (stays c.args.mapped m c.args.index.now) _ c.loop-encoded.out c.join_row.new.out c.args.term.now encoded _ (posting_list rest)
          (c.loop-encoded.invariant.joins m holds) left
          (c.in_ok-join_row.ensures.joins m (reads_hold _ _ m c.loop-encoded.invariant.reads holds)
          ∙ ap (λ (xs : List (RowDocument _)). joins_all g.P.Place.form (stays c.args.mapped m c.args.index.now) c.loop-encoded.out c.args.term.now xs) read);
      grown = λ are. c.in_ok-join_row.ensures.grown (c.loop-encoded.invariant.grown are);
    }
