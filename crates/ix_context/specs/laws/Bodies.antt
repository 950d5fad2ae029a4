-- What statements make of the numbers of an index, and of how tidy it is.
use Rattle.std.proofs.Common.{◌≡◌, ℕ, ◌+◌, zero, suc, false, Option, Some, None, refl, arith}
use Rattle.ix_rows.specs.Stores.{Tidiness, Untidy, Packed, Clean}
use Rattle.ix_docmap.specs.Marks.{Mark, Pending, Settled}
use Rattle.ix_context.specs.Indexes.{Part, part_after_loss, part_with_marks}
use Rattle.ix_context.specs.Places.{tidiness_byte, is_tidy}

pub given-with_marks : (n : ℕ) (p : Part) → (part_with_marks n p).given ≡ p.given + n
given-with_marks zero p = omega arith
given-with_marks (suc n) p = refl

pub given-after_loss : (m : Option (Mark (Unit {0}))) (cost : ℕ) (p : Part) → (part_after_loss m cost p).given ≡ p.given
given-after_loss None cost p = refl
given-after_loss (Some Pending) cost p = refl
given-after_loss (Some (Settled a)) cost p = refl

-- a row that is lost makes the index untidy
pub untidy-after_loss : (m : Option (Mark (Unit {0}))) (cost : ℕ) (p : Part) → (part_after_loss m cost p).tidiness ≡ Untidy
untidy-after_loss None cost p = refl
untidy-after_loss (Some Pending) cost p = refl
untidy-after_loss (Some (Settled a)) cost p = refl

-- and whether it was so already makes no difference
pub after_loss-untidied : (m : Option (Mark (Unit {0}))) (cost : ℕ) (p : Part) → part_after_loss m cost (record p { tidiness = Untidy }) ≡ part_after_loss m cost p
after_loss-untidied None cost p = refl
after_loss-untidied (Some Pending) cost p = refl
after_loss-untidied (Some (Settled a)) cost p = refl

-- what isn't tidy is untidy
pub untidy_is : (t : Tidiness) → is_tidy t ≡ false → t ≡ Untidy
untidy_is Untidy loose = refl
untidy_is Packed loose = cc
untidy_is Clean loose = cc

-- how tidy an index is has a byte of its own
pub tidiness_one : (t u : Tidiness) → tidiness_byte t ≡ tidiness_byte u → t ≡ u
tidiness_one Untidy Untidy same = refl
tidiness_one Untidy Packed same = absurd (omega (arith, same))
tidiness_one Untidy Clean same = absurd (omega (arith, same))
tidiness_one Packed Untidy same = absurd (omega (arith, same))
tidiness_one Packed Packed same = refl
tidiness_one Packed Clean same = absurd (omega (arith, same))
tidiness_one Clean Untidy same = absurd (omega (arith, same))
tidiness_one Clean Packed same = absurd (omega (arith, same))
tidiness_one Clean Clean same = refl
