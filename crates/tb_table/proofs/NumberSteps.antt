-- The steps of reading numbers.
use Rattle.std.proofs.Common.{◌≡◌, ℕ, ℤ, ◌+◌, ◌*◌, ◌<◌, ◌≤◌, List, [], ◌∷◌, ◌++◌, length, take, drop, Some, sym, ap, ◌∙◌, arith, append-nil, length-append, inl, inr, true, false, FitsSigned, w64}
use Rattle.std.proofs.lemmas.List.{take_all}
use Rattle.std.proofs.lemmas.Bool.{cases_lt}
use Rattle.std.proofs.lemmas.Grind.{flat_map-append}
use Rattle.std.proofs.Math.Seq.{take-add}
use Rattle.ct_bytes.specs.RowKeys.{row_bytes}
use Rattle.tb_table.specs.Spelling.{row_numbers_bytes}
use Rattle.tb_table.specs.Readings.{EachFits}
use Rattle.tb_table.specs.laws.Spelling.{length-row_numbers_bytes}

-- there was not enough
pub too_few : (need have : ℕ) → (need ≤ have → false ≡ true) → have < need
too_few need have never = elim (cases_lt have need) [ inl h ↦ h | inr h ↦ let wrong : false ≡ true = never h in cc ]

-- These numbers were read, up to `at`.
pub record AreRead (bytes : List ℕ) (at : ℕ) (zs : List ℤ) : Type 0 where
  pub each : EachFits zs
  pub made : take at bytes ≡ row_numbers_bytes zs
  pub place : at ≡ 8 * length zs
  pub within : at ≤ length bytes

one_more : (zs : List ℤ) (z : ℤ) → EachFits zs → FitsSigned w64 z → EachFits (zs ++ z ∷ [])
one_more [] z each one = (one, tt)
one_more (y ∷ zs) z each one = (each.0, one_more zs z each.1 one)

pub more_read : (bytes : List ℕ) (at : ℕ) (zs : List ℤ) (z : ℤ) → AreRead bytes at zs → FitsSigned w64 z → row_bytes z ≡ take 8 (drop at bytes) → at + 8 ≤ length bytes → AreRead bytes (at + 8) (zs ++ z ∷ [])
more_read bytes at zs z read fits is within = record {
  each = one_more zs z read.each fits;
  made =
      take-add at 8 bytes ∙ ap (λ x. x ++ take 8 (drop at bytes)) read.made ∙ ap (λ x. row_numbers_bytes zs ++ x) (sym is ∙ sym (append-nil (row_bytes z)))
      ∙ sym (flat_map-append row_bytes zs (z ∷ []));
  place = let l = length-append zs (z ∷ []) in omega (arith, l, read.place);
  within = within;
}

pub all_read : (bytes : List ℕ) (at : ℕ) (zs : List ℤ) → AreRead bytes at zs → at ≡ length bytes → EachFits zs × (Some bytes ≡ Some (row_numbers_bytes zs))
all_read bytes at zs read end = (read.each, ap Some (sym (take_all at bytes (omega arith)) ∙ read.made))

pub some_left : (bytes : List ℕ) (at : ℕ) (zs : List ℤ) → AreRead bytes at zs → length bytes < at + 8 → (at ≡ length bytes → ⊥) → (ys : List ℤ) → Some bytes ≡ Some (row_numbers_bytes ys) → ⊥
some_left bytes at zs read less more ys e =
    let whole : bytes ≡ row_numbers_bytes ys = cc in
    let long = ap length whole ∙ length-row_numbers_bytes ys in
    more (let place = read.place in let within = read.within in omega (arith, long))
