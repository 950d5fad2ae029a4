use Rattle.std.proofs.Common.{◌≡◌, ◌≤◌, ◌++◌, length, drop}
use Rattle.std.specs.Prelude.{◌&&◌}
use Rattle.ix_kinds.specs.Targets.{is_text_sort}
use Rattle.db_rows.specs.Texts.{places_from}
use Rattle.db_select.specs.Looking.{keeps, kept_texts}
use Rattle.db_select.proofs.showing.kept_columns.Given as goal

abbrev pub invariant-loop-place : goal.invariant-loop-place
invariant-loop-place l = length l.columns ≤ 256 → l.places.items ++ places_from l.place (λ c. is_text_sort c.sort && keeps l.list l.orders c) (drop l.place l.columns) ≡ kept_texts l.list l.orders l.columns
