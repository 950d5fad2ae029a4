-- What is put for a new index, by its kind.
use Rattle.std.proofs.Common.{◌≡◌, ℕ, ◌<◌, ◌++◌, false, List, [], length, Option, inl, sym, ap, subst, ◌∙◌}
use Rattle.std.specs.Prelude.{Result, IfOk}
use Rattle.std.proofs.lemmas.Bool.{lt-leb}
use Rattle.ct_keep.specs.declared.keepers.KeepFault.{KeepFault}
use Rattle.ct_entry.specs.Changes.{spell}
use Rattle.ct_entry.specs.Keys.{Key}
use Rattle.tb_table.specs.declared.columns.Target.{Target}
use Rattle.ix_kinds.specs.Rows.{table_at}
use Rattle.ix_context.specs.Indexes.{mark_limit, rows_within}
use Rattle.ix_indexes.specs.Indexes.{kinds}
use Rattle.db_state.specs.States.{StoreState}
use Rattle.db_index.specs.declared.kinds.BuiltKind.{BuiltKind}
use Rattle.db_index.specs.declared.asking.Wanted.{Wanted}
use Rattle.db_index.specs.Indexing.{MakesOver, asked_for, all_rows, target}

-- over the target that was read, of the kind that was asked for
pub made_on : (m : StoreState) (i t : List ℕ) (place : ℕ) (w : Wanted) (kind built : BuiltKind) → kind ≡ built → (on : Target) → on ≡ target t place
    → (result : Result (Option (List (List ℕ × Option (List ℕ)))) KeepFault) → IfOk result (MakesOver m (asked_for built w) i on w.prefs) → IfOk result (MakesOver m (asked_for kind w) i (target t place) w.prefs)
made_on m i t place w kind built is on same result made =
    subst (λ (b : BuiltKind). IfOk result (MakesOver m (asked_for b w) i (target t place) w.prefs)) (sym is)
    (subst (λ (on : Target). IfOk result (MakesOver m (asked_for built w) i on w.prefs)) same made)

-- what was put into an empty batch
pub from_empty : (none new : List (List ℕ × Option (List ℕ))) (ws : List (Key × Option (List ℕ))) → none ≡ [] → new ≡ none ++ spell ws → new ≡ spell ws
from_empty none new ws empty added = added ∙ ap (λ (b : List (List ℕ × Option (List ℕ))). b ++ spell ws) empty

-- more rows than there are numbers
pub over_limit : (m : StoreState) (on : Target) → mark_limit < length (rows_within (table_at m.tables on.table) all_rows) → kinds.can_create (table_at m.tables on.table) (inl all_rows) ≡ false
over_limit m on many = lt-leb (length (rows_within (table_at m.tables on.table) all_rows)) mark_limit many
