-- Replies that several statements share.
use Rattle.std.specs.Prelude.{ℕ, List, [], ◌∷◌, codes, pos, ◌≡◌, refl}
use Rattle.std.specs.List.{flat_map}
use Rattle.ct_base.specs.declared.lists.Value.{Value}
use Rattle.ct_base.specs.declared.lists.Value.TheVariants.{Number, Text}
use Rattle.std.specs.Fmt.{digits}
use Rattle.db_cond.specs.Faults.{no_rows}
use Rattle.db_cond.specs.Lines.{line}

-- the lines of a query
abbrev pub lines_or_none : List (List Value) → List ℕ
lines_or_none [] = no_rows
lines_or_none (row ∷ rows) = flat_map line (row ∷ rows)

abbrev pub call_done : List ℕ
call_done = codes "PL/SQL procedure successfully completed.\n"

-- computed examples: no row, and two rows of two fields each
no_row : lines_or_none [] ≡ codes "no rows selected\n"
no_row = refl

two_rows : lines_or_none ((Number (pos 1) ∷ Text (codes "a|b") ∷ []) ∷ (Number (pos 2) ∷ Text [] ∷ []) ∷ []) ≡ codes "1|a\\|b\n2|\n"
unfolding digits
two_rows = refl
