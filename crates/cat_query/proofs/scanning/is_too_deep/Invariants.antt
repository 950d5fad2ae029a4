use Rattle.std.proofs.Common.{◌≡◌, ◌≤◌, drop}
use Rattle.cat_query.specs.Lexing.{too_deep}
use Rattle.cat_query.proofs.scanning.is_too_deep.Given as goal

abbrev pub invariant-loop-placed : goal.invariant-loop-placed
invariant-loop-placed l = record {
  so_far : too_deep l.depth (drop l.placed-index l.lexemes) ≡ too_deep 0 l.lexemes;
  small : l.depth ≤ 32;
}
