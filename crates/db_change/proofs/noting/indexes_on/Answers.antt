use Rattle.std.proofs.Common.{◌≡◌, ℕ, List, map, subst}
use Rattle.std.specs.Result.{IfOk}
use Rattle.ct_keep.specs.laws.Composing.{reads_hold}
use Rattle.db_names.specs.declared.heads.IndexHead.{IndexHead}
use Rattle.ix_indexes.specs.Noting.{noted_indexes, noted_named}
use Rattle.db_change.proofs.NoteSteps.{found_heads, heads_found, holds_indexes}
use Rattle.db_change.proofs.noting.indexes_on.Goals as goal

pub returns-clause-indexes : goal.returns-clause-indexes
returns-clause-indexes g c = λ m k x holds stands here columns.
    let t = c.args.table.now in
    let are = c.in_ok-heads.ensures.value k holds in
    subst (λ (es : List (List ℕ × IndexHead)). IfOk c.table_indexes.result (λ found. noted_indexes found.items ≡ noted_named m.indexes (map (λ e. e.0) es)))
    (found_heads k m t stands c.deref.result.now c.in_ok-heads.heads.items c.deref.ensures.value are)
    (c.table_indexes.ensures.indexes k m.tables m.indexes (reads_hold _ _ k c.in_ok-heads.ensures.reads holds) (holds_indexes k m t stands) (heads_found k m t stands c.deref.result.now c.in_ok-heads.heads.items c.deref.ensures.value are x c.args.columns.now here columns))
