use Rattle.std.proofs.Common.{◌≡◌, ℕ, ℤ, List, length, take, Some, sym, ap, ◌∙◌, FitsSigned, w64, rules, arith}
use Rattle.std.proofs.lemmas.List.{take_all}
use Rattle.ct_bytes.specs.RowKeys.{row_bytes}
use Rattle.ct_entry.specs.Listings.{row_of}
use Rattle.ct_entry.specs.laws.Rows.{row_of-row_part}
use Rattle.ct_entry.proofs.listings.row_in.Goals as goal

read : (rest : List ℕ) (row : ℤ) → FitsSigned w64 row → row_bytes row ≡ take 8 rest → length rest ≡ 8 → Some row ≡ row_of rest
read rest row fits is eight = sym (row_of-row_part row fits) ∙ ap row_of (is ∙ take_all 8 rest (omega arith))

pub returns-then-rest-eq8 : goal.returns-then-rest-eq8
returns-then-rest-eq8 c = let fits : FitsSigned w64 c.in_ok-row.row.0 = search rules in read c.args.rest.now c.in_ok-row.row.0 fits c.in_ok-row.ensures.some c.if-rest-eq8.true
