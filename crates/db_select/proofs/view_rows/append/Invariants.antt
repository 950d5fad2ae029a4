use Rattle.std.proofs.Common.{◌≡◌, ◌++◌, take}
use Rattle.db_select.specs.ViewRows.{key_numbers, shown_keys}
use Rattle.db_select.proofs.view_rows.append.Given as goal

abbrev pub invariant-loop-row : goal.invariant-loop-row
invariant-loop-row l = key_numbers l.keys.items ≡ key_numbers l.fn.keys.items ++ shown_keys (take l.row-index l.rows)
