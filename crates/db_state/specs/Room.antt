-- How much room a state takes at most: that of its tables, of its indexes, of what is defined for indexes, and of its thesauri.
use Rattle.std.specs.Prelude.{ℕ, ◌+◌, sum_by, ◌≡◌, ◌∷◌, [], codes, refl}
use Rattle.std.specs.FinMap.{entries, from_sorted, entries-from_sorted}
use Rattle.db_state.specs.States.{StoreState}
pub use Rattle.tb_table.specs.Room.{key_weight, text_room, row_room, table_room}
pub use Rattle.ix_indexes.specs.Room.{longest_place, index_room}
pub use Rattle.tx_prefs.specs.Room.{preferences_room}
pub use Rattle.th_store.specs.Room.{thesauri_room}
use Rattle.tx_prefs.specs.Room.{no_room}
use Rattle.th_store.specs.Room.{no_room as no_thesauri_room}
use Rattle.th_store.specs.Thesauri.{no_thesauri}
use Rattle.tx_prefs.specs.Preferences.{no_preferences}
use Rattle.std.specs.Ordering.{nat_cmp}
use Rattle.std.specs.Cmp.Lexicographic.{slice_cmp}
use Rattle.std.proofs.Common.{List, ap, ◌∙◌}
use Rattle.tb_table.specs.Tables.{Table, docs_table, docs_alone}
use Rattle.tb_table.specs.Room.{docs_room}
use Rattle.ix_indexes.specs.Indexes.{Index}
use Rattle.ix_indexes.specs.Room.{di_index, di_room}

abbrev pub room : StoreState → ℕ
room m = sum_by table_room (entries m.tables) + sum_by (index_room m.tables) (entries m.indexes) + preferences_room m.preferences + thesauri_room m.thesauri

-- computed example: the table `docs` with two rows, which takes 320, and an index on its column 1 of which one row is settled and one waits, which takes 601 and what it may waste
both : ◌≡◌ {A = ℕ} (320 + 601) 921
both = refl

abbrev pub docs_and_di : StoreState
docs_and_di = record { tables = docs_alone; indexes = from_sorted ((codes "di", di_index 0) ∷ []); preferences = no_preferences; thesauri = no_thesauri }

pub its_room : room docs_and_di ≡ 921
its_room =
    ap (λ (es : List (List ℕ × Table)). sum_by table_room es + sum_by (index_room docs_alone) (entries docs_and_di.indexes) + preferences_room no_preferences + thesauri_room no_thesauri) (entries-from_sorted (slice_cmp nat_cmp) ((codes "docs", docs_table) ∷ []) tt)
    ∙ ap (λ (es : List (List ℕ × Index)). 0 + table_room (codes "docs", docs_table) + sum_by (index_room docs_alone) es + preferences_room no_preferences + thesauri_room no_thesauri) (entries-from_sorted (slice_cmp nat_cmp) ((codes "di", di_index 0) ∷ []) tt)
    ∙ ap (λ (n : ℕ). 0 + n + (0 + index_room docs_alone (codes "di", di_index 0)) + preferences_room no_preferences + thesauri_room no_thesauri) docs_room
    ∙ ap (λ (n : ℕ). 320 + (0 + n) + preferences_room no_preferences + thesauri_room no_thesauri) (di_room 0)
    ∙ ap (λ (n : ℕ). 921 + n + thesauri_room no_thesauri) no_room
    ∙ ap (λ (n : ℕ). 921 + 0 + n) no_thesauri_room
