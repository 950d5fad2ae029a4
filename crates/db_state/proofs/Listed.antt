-- Columns by their places.
use Rattle.std.proofs.Common.{◌≡◌, ℕ, suc, Bool, true, false, cond, List, [], ◌∷◌, Some, refl}
use Rattle.std.specs.Prelude.{is_some}
use Rattle.ct_entry.specs.Keys.{same_list}
use Rattle.tb_table.specs.declared.columns.Column.{Column}
use Rattle.tb_table.specs.Rules.{has_column}
use Rattle.db_state.specs.Columns.{place_from}

pub some_place : (k : ℕ) (name : List ℕ) (columns : List Column) → is_some (place_from k name columns) ≡ has_column name columns
some_place k name [] = refl
some_place k name (c ∷ cs) = go (same_list name c.name) (some_place (suc k) name cs)
  where
    go : (b : Bool) → is_some (place_from (suc k) name cs) ≡ has_column name cs → is_some (cond b (Some k) (place_from (suc k) name cs)) ≡ cond b true (has_column name cs)
    go true rest = refl
    go false rest = rest
