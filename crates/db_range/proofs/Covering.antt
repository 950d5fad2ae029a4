-- The places between two bounds.
use Rattle.std.proofs.Common.{◌≡◌, ◌≤◌, ◌≤ℤ◌, ℕ, ℤ, Bool, true, false, List, [], ◌∷◌, ◌++◌, length, take, refl, sym, ap, ◌∙◌, arith, append-nil, FitsSigned}
use Rattle.std.specs.Prelude.{not, ◌&&◌}
use Rattle.std.specs.Int.{w64}
use Rattle.std.specs.declared.cmp.Ordering.{Ordering}
use Rattle.std.specs.declared.cmp.Ordering.TheVariants.{Less}
use Rattle.std.specs.Ordering.{nat_cmp, int_cmp, is_lt, ordering_then}
use Rattle.std.specs.Cmp.Lexicographic.{slice_cmp}
use Rattle.std.proofs.lemmas.Bool.{and_from, not_from_false}
use Rattle.std.proofs.lemmas.Int.{ints}
use Rattle.std.proofs.lemmas.List.{take_at}
use Rattle.ct_bytes.specs.RowKeys.{row_bytes}
use Rattle.ct_bytes.specs.laws.ByteOrder.{nat_cmp_equal, slice_cmp_parts}
use Rattle.ct_bytes.specs.laws.RowKeys.{length-row_bytes, row_bytes_in_order}
use Rattle.cat_walk.specs.Places.{comes_before, is_between}

-- ---- behind the same bytes

before_same : (x : ℕ) (a b : List ℕ) → comes_before (x ∷ a) (x ∷ b) ≡ comes_before a b
before_same x a b = ap (λ (o : Ordering). is_lt (ordering_then o (slice_cmp nat_cmp a b))) (nat_cmp_equal x x refl)

behind_byte : (x : ℕ) (low high p : List ℕ) → is_between (x ∷ low) (x ∷ high) (x ∷ p) ≡ is_between low high p
behind_byte x low high p =
    ap (λ (b : Bool). b && not (comes_before (x ∷ high) (x ∷ take (length high) p))) (before_same x low p)
    ∙ ap (λ (b : Bool). comes_before low p && not b) (before_same x high (take (length high) p))

pub behind_bytes : (bytes low high p : List ℕ) → is_between (bytes ++ low) (bytes ++ high) (bytes ++ p) ≡ is_between low high p
behind_bytes [] low high p = refl
behind_bytes (x ∷ bytes) low high p = behind_byte x (bytes ++ low) (bytes ++ high) (bytes ++ p) ∙ behind_bytes bytes low high p

-- what has a byte lies between no bytes
pub between_none : (p : List ℕ) → 1 ≤ length p → is_between [] [] p ≡ true
between_none [] some = absurd (omega (arith, some))
between_none (x ∷ p) some = refl

-- ---- numbers

not_below : (a b : ℤ) → b ≤ℤ a → is_lt (int_cmp a b) ≡ false
not_below a b h = grind (arith, ints)

key_not_below : (a b : ℤ) → FitsSigned w64 a → FitsSigned w64 b → b ≤ℤ a → comes_before (row_bytes a) (row_bytes b) ≡ false
key_not_below a b f g h = ap is_lt (row_bytes_in_order a b f g) ∙ not_below a b h

at_most : (a b : ℤ) → a ≤ℤ b → is_lt (ordering_then (int_cmp a b) Less) ≡ true
at_most a b h = grind (arith, ints)

-- a key at most as great as another comes before what goes on behind that one
key_before : (a b : ℤ) (p : List ℕ) → FitsSigned w64 a → FitsSigned w64 b → a ≤ℤ b → 1 ≤ length p → comes_before (row_bytes a) (row_bytes b ++ p) ≡ true
key_before a b [] f g h some = absurd (omega (arith, some))
key_before a b (x ∷ p) f g h some =
    ap (λ (l : List ℕ). comes_before l (row_bytes b ++ x ∷ p)) (sym (append-nil (row_bytes a)))
    ∙ ap is_lt (slice_cmp_parts (row_bytes a) (row_bytes b) [] (x ∷ p) (length-row_bytes a ∙ sym (length-row_bytes b)))
    ∙ ap (λ (o : Ordering). is_lt (ordering_then o Less)) (row_bytes_in_order a b f g)
    ∙ at_most a b h

pub number_between : (least greatest n : ℤ) (p : List ℕ) → FitsSigned w64 least → FitsSigned w64 greatest → FitsSigned w64 n → least ≤ℤ n → n ≤ℤ greatest → 1 ≤ length p
    → is_between (row_bytes least) (row_bytes greatest) (row_bytes n ++ p) ≡ true
number_between least greatest n p f g h low high some =
    let first : take (length (row_bytes greatest)) (row_bytes n ++ p) ≡ row_bytes n = take_at (row_bytes n) p (length (row_bytes greatest)) (length-row_bytes n ∙ sym (length-row_bytes greatest)) in
    and_from _ _
    (key_before least n p f h low some)
    (not_from_false _ (ap (λ (q : List ℕ). comes_before (row_bytes greatest) q) first ∙ key_not_below greatest n g h high))
