-- All keys of rows lie in the range of all rows.
use Rattle.std.proofs.Common.{◌≡◌, ℤ, pos, negsuc, ◌-◌, ◌^◌, Bool, false, true, cond, refl, arith}
use Rattle.std.specs.Prelude.{◌&&◌, not, int_lt}
use Rattle.std.specs.declared.cmp.Ordering.TheVariants.{Less, Equal, Greater}
use Rattle.std.specs.Ordering.{int_cmp, is_lt}
use Rattle.std.proofs.lemmas.Bool.{le-ltb}
use Rattle.ct_entry.specs.Keys.{IsRow}
use Rattle.ix_context.specs.Indexes.{HasAllRows}
use Rattle.db_index.specs.Indexing.{all_rows}

pub every_row : HasAllRows all_rows
every_row r row = both_in (is_lt (int_cmp r all_rows.from.0)) (is_lt (int_cmp all_rows.to.0 r)) (not_below r row) (not_above r row)
  where
    both_in : (a b : Bool) → a ≡ false → b ≡ false → (not a && not b) ≡ true
    both_in true b h k = cc
    both_in false true h k = cc
    both_in false false h k = refl

    not_less : (a b : Bool) → a ≡ false → is_lt (cond a Less (cond b Greater Equal)) ≡ false
    not_less true b h = cc
    not_less false true h = refl
    not_less false false h = refl

    not_below : (r : ℤ) → IsRow r → is_lt (int_cmp r all_rows.from.0) ≡ false
    not_below (pos n) row = refl
    not_below (negsuc n) row = not_less (int_lt (negsuc n) all_rows.from.0) (int_lt all_rows.from.0 (negsuc n)) (le-ltb (2 ^ 63 - 1) n (omega arith))

    not_above : (r : ℤ) → IsRow r → is_lt (int_cmp all_rows.to.0 r) ≡ false
    not_above (pos n) row = not_less (int_lt all_rows.to.0 (pos n)) (int_lt (pos n) all_rows.to.0) (le-ltb (2 ^ 63 - 1) n (omega arith))
    not_above (negsuc n) row = refl
