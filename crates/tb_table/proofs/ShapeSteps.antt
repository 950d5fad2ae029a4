-- The rest of the key of a text.
use Rattle.std.proofs.Common.{◌≡◌, ℕ, ◌-◌, ◌<◌, ◌≤◌, List, [], ◌∷◌, length, take, drop, get_or, Bool, IsTrue, ◌↔◌, ap, subst, arith}
use Rattle.std.proofs.lemmas.List.{take_all}
use Rattle.ct_base.specs.laws.Lists.{cons_parts}
use Rattle.ct_entry.specs.declared.kinds.Kind.TheVariants as kind
use Rattle.ct_entry.specs.Keys.{IsRowPart, IsPart, row_part}

-- a byte, and a row key behind it
text_of_row : (column : ℕ) (row : List ℕ) (is : Bool) → column < 256 → IsTrue is ↔ IsRowPart row → IsTrue is ↔ IsPart kind.RowTexts (column ∷ row)
text_of_row column row is place rest = (
  λ t. let r = rest.0 t in (column, (r.0, place, r.1, ap (λ (l : List ℕ). column ∷ l) r.2)),
  λ p. rest.1 (p.1.0, p.1.2, (cons_parts column p.0 row (row_part p.1.0) p.1.3).1),
)

pub text_part_is : (part : List ℕ) (is : Bool) → 1 ≤ length part → get_or part 0 0 < 256 → IsTrue is ↔ IsRowPart (take (length part - 1) (drop 1 part)) → IsTrue is ↔ IsPart kind.RowTexts part
text_part_is [] is some place rest = absurd (omega arith)
text_part_is (b ∷ bs) is some place rest =
    let whole = b ∷ bs in
    let back : take (length whole - 1) (drop 1 whole) ≡ bs = take_all (length whole - 1) bs (omega arith) in
    text_of_row b bs is place (subst (λ (l : List ℕ). IsTrue is ↔ IsRowPart l) back rest)
