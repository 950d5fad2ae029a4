use Rattle.std.proofs.Common.{◌≡◌, ◌++◌, drop, map}
use Rattle.ct_entry.specs.Changes.{spell}
use Rattle.ix_repack.specs.Repacking.{entries_drop}
use Rattle.ix_repack.proofs.dropping.drop_rows.Given as goal

abbrev pub invariant-loop-first : goal.invariant-loop-first
invariant-loop-first l =
    l.batch ++ spell (entries_drop l.kind l.index l.term (map (λ e. (e.0.items, e.1.items)) (drop l.first-index l.found)))
    ≡ l.fn.batch ++ spell (entries_drop l.kind l.index l.term (map (λ e. (e.0.items, e.1.items)) l.found))
