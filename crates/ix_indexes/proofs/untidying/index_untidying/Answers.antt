use Rattle.std.proofs.Common.{◌≡◌, sym, subst}
use Rattle.std.specs.Prelude.{IfOk}
use Rattle.ct_entry.specs.Keys.{at}
use Rattle.ct_entry.specs.Changes.{spell}
use Rattle.ct_entry.specs.Maps.{Names}
use Rattle.tb_table.specs.Tables.{Tables}
use Rattle.ix_kinds.specs.Statements.{untidying_at}
use Rattle.ix_indexes.specs.declared.loading.Noting.{Noting}
use Rattle.ix_indexes.specs.Indexes.{Index, kinds}
use Rattle.ix_indexes.specs.Noting.{HoldsIndexes, IsNotedOf, noted_by}
use Rattle.ix_indexes.proofs.NoteSteps.{context_shaped}
use Rattle.ix_indexes.proofs.UntidySteps.{context_found}
use Rattle.ix_indexes.proofs.untidying.index_untidying.Goals as goal

pub returns-in-InContext-clause-changes : goal.returns-in-InContext-clause-changes
returns-in-InContext-clause-changes g c = λ m told.
    subst (λ (n : Noting). IfOk c.context_untidying.result (λ notes. (ts : Tables) (xs : Names Index) → HoldsIndexes m ts xs → IsNotedOf xs (c.args.index.now.name, noted_by n) → notes ≡ spell (untidying_at kinds (at m) xs c.args.index.now.name)))
    (sym c.in-InContext.is) (context_found m c.args.index.now.name _ c.context_untidying.result (c.context_untidying.ensures.changes m told))

pub returns-in-InContext-clause-shaped : goal.returns-in-InContext-clause-shaped
returns-in-InContext-clause-shaped g c = context_shaped c.context_untidying.result c.context_untidying.ensures.shaped
