use Rattle.std.proofs.Common.{◌≡◌, ℕ, List, map, sym, ap, subst, ◌∙◌}
use Rattle.std.specs.Prelude.{Vec}
use Rattle.std.specs.declared.alloc.Global.{Global}
use Rattle.std.specs.FinMap.{empty}
use Rattle.ct_keep.specs.laws.Composing.{reads_on, reads_hold}
use Rattle.ix_posting.specs.declared.rows.RowDocument.{RowDocument}
use Rattle.ix_posting.specs.Lists.{posting_list}
use Rattle.ix_rows.specs.RowMaps.{TermRowsView, row_map_changes}
use Rattle.ix_rows.specs.Taking.{Hold}
use Rattle.ix_rows.specs.PlacedRows.{document_number}
use Rattle.ix_rows.specs.laws.PlacedRows.{place_bytes}
use Rattle.ix_rows.specs.laws.GrowingLists.{none_grown}
use Rattle.ix_repack.specs.Putting.{FitsAlone, AreJoined, IsRowEntry}
use Rattle.ix_repack.specs.Repacking.{stays, joins_all, entries_drop}
use Rattle.ix_repack.specs.laws.Putting.{adds_then, drops_put_nothing, map_put}
use Rattle.ix_repack.specs.laws.Joining.{joined_changes, drops_so, rows_hold}
use Rattle.ix_repack.proofs.JoinSteps.{added_both}
use Rattle.ix_repack.proofs.repacking.repack_rows.Goals as goal

pub returns-clause-changes : goal.returns-clause-changes
returns-clause-changes g c = λ m holds rows has.
    let form = g.P.Place.form in
    let kind = c.args.kind in
    let i = c.args.index.now in
    let t = c.args.term.now in
    let keep = stays c.args.mapped m i in
    let seen : List (Vec ℕ Global × Vec ℕ Global) → List (List ℕ × List ℕ) = λ es. map (λ e. (e.0.items, e.1.items)) es in
    let found = c.in_ok-found.ensures.entries m holds ∙ has.entries in
    let taken = c.in_ok-rows.ensures.all rows (subst (λ (es : List (List ℕ × List ℕ)). Hold form es rows) (sym found) (rows_hold form rows has.are)) in
    let joins = c.in_ok-join_rows.ensures.joins m (reads_hold _ _ m c.in_ok-found.ensures.reads holds) in
    added_both c.args.batch.now c.drop_rows.new.batch c.into_changes.new.batch (entries_drop kind i t (seen c.deref.result.now)) (row_map_changes kind i c.join_rows.new.out) _ _
    c.in_ok-drop_rows.ensures c.in_ok-into_changes.ensures
    (ap (entries_drop kind i t) (ap seen c.deref.ensures.value ∙ found) ∙ drops_so form kind i t rows)
    (ap (row_map_changes kind i) (joins
    ∙ ap (λ (m : TermRowsView). joins_all form keep m t (posting_list c.as_slice.result.now)) c.new-joined.ensures
    ∙ ap (λ (l : List (List (RowDocument _))). joins_all form keep empty t (posting_list l)) (c.as_slice.ensures.value ∙ taken))
    ∙ joined_changes form kind i t keep (posting_list rows) has.are.rise)

pub returns-clause-reads : goal.returns-clause-reads
returns-clause-reads g c = reads_on _ _ _ _ c.in_ok-found.ensures.reads c.in_ok-join_rows.ensures.reads

pub returns-clause-puts : goal.returns-clause-puts
returns-clause-puts g c =
    let form = g.P.Place.form in
    let kind = c.args.kind in
    let i = c.args.index.now in
    let t = c.args.term.now in
    let seen : List (Vec ℕ Global × Vec ℕ Global) → List (List ℕ × List ℕ) = λ es. map (λ e. (e.0.items, e.1.items)) es in
    let es = seen c.deref.result.now in
    let none = subst (AreJoined form t) (sym c.new-joined.ensures) (none_grown document_number (place_bytes form) (λ u. u ≡ t) (FitsAlone form)) in
    adds_then (IsRowEntry form kind i t) c.args.batch.now c.drop_rows.new.batch c.into_changes.new.batch
    (record { changes = entries_drop kind i t es; adds = c.in_ok-drop_rows.ensures; put = drops_put_nothing (IsRowEntry form kind i t) kind i t es })
    (record { changes = row_map_changes kind i c.join_rows.new.out; adds = c.in_ok-into_changes.ensures; put = map_put form kind i t c.join_rows.new.out (c.in_ok-join_rows.ensures.grown none) })
