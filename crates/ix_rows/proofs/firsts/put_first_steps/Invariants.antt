use Rattle.std.proofs.Common.{◌≡◌, ◌++◌, drop}
use Rattle.ix_posting.specs.Forms.{number_form, places_bytes}
use Rattle.ix_rows.specs.Firsts.{first_positions}
use Rattle.ix_rows.proofs.firsts.put_first_steps.Given as goal

abbrev pub invariant-loop-pair : goal.invariant-loop-pair
invariant-loop-pair l = l.out.items ++ places_bytes number_form l.last (first_positions (drop l.pair-index l.pairs)) ≡ l.fn.out.items ++ places_bytes number_form 0 (first_positions l.pairs)
