-- The rows that views show, index by index, as they are read.
use Rattle.std.specs.Prelude.{ℕ, ℤ, pos, ◌≡◌, List, [], ◌∷◌, map, Option, Some, None, refl}
use Rattle.std.specs.List.{flat_map}
use Rattle.std.specs.FinMap.{get}
use Rattle.ct_base.specs.declared.numbers.RowKey.{RowKey}
use Rattle.ct_entry.specs.Maps.{Names}
use Rattle.ix_indexes.specs.Indexes.{Index}
use Rattle.db_cond.specs.Faults.{no_rows}
use Rattle.db_cond.specs.Lines.{line}
use Rattle.db_select.specs.declared.views.View.{View}
use Rattle.db_select.specs.declared.view_rows.ShownRow.{ShownRow}
use Rattle.db_select.specs.Views.{rows_shown, view_line, without_fault}

-- what is shown of an index; nothing where there is no index
abbrev pub rows_in : View → Option Index → List (ℤ × Option (List ℕ))
rows_in view None = []
rows_in view (Some x) = rows_shown view x

-- of the index of this name
abbrev pub rows_at : View → Names Index → List ℕ → List (ℤ × Option (List ℕ))
rows_at view xs i = rows_in view (get xs i)

abbrev pub keys_at : View → Names Index → List ℕ → List ℤ
keys_at view xs i = map (λ (row : ℤ × Option (List ℕ)). row.0) (rows_at view xs i)

-- their lines
abbrev pub text_at : View → Names Index → List ℕ → List ℕ
text_at view xs i = flat_map (λ row. line (view_line i row)) (rows_at view xs i)

-- ---- as code holds them

abbrev pub shown_row : ShownRow → ℤ × Option (List ℕ)
shown_row row = (row.key.0, row.fault)

abbrev pub shown_rows : List ShownRow → List (ℤ × Option (List ℕ))
shown_rows rows = map shown_row rows

-- the numbers of rows' keys
abbrev pub key_numbers : List RowKey → List ℤ
key_numbers rows = map (λ (row : RowKey). row.0) rows

abbrev pub shown_keys : List ShownRow → List ℤ
shown_keys rows = map (λ (row : ShownRow). row.key.0) rows

-- the lines of a query as one text; where that is empty, there is none
abbrev pub text_or_none : List ℕ → List ℕ
text_or_none [] = no_rows
text_or_none (b ∷ bs) = b ∷ bs

-- computed examples
nothing_is_shown : (view : View) → rows_in view None ≡ []
nothing_is_shown view = refl

one_key : key_numbers (record { 0 = pos 7 } ∷ []) ≡ pos 7 ∷ []
one_key = refl

one_row : shown_rows (record { key = record { 0 = pos 7 }; fault = None } ∷ []) ≡ without_fault (pos 7) ∷ []
one_row = refl
