-- The numbers that the bytes of a character come to fit into 32 bits.
use Rattle.std.proofs.Common.{sym, length, get_or, take, drop, ◌≡◌, ℕ, ◌+◌, ◌-◌, ◌*◌, ◌≤◌, ◌<◌, Bool, true, false, cond, List, [], ◌∷◌, refl, ap, arith, suc, zero, nat_lt}
use Rattle.std.proofs.lemmas.Bool.Decides.{nat_tests}
use Rattle.std.proofs.lemmas.Str.{chars-nil}
use Rattle.std.specs.Str.{chars, chars_after, continuation_len, lead_bits}
use Rattle.ct_base.specs.laws.Lists.{first_of}

-- how great a number is at most, of which so many bytes are still to come
abbrev pub character_limit : ℕ → ℕ
character_limit zero = 4993215
character_limit (suc zero) = 78015
character_limit (suc (suc zero)) = 1215
character_limit (suc (suc (suc n))) = 15

pub chars_begin : (b : ℕ) (bs : List ℕ) → chars_after (continuation_len b) (lead_bits b) bs ≡ chars (b ∷ bs)
unfolding chars
chars_begin b bs = refl

pub lead_fits : (b : ℕ) → b < 256 → lead_bits b ≤ character_limit (continuation_len b)
lead_fits b low = go (nat_lt b 128) (nat_lt b 224) (nat_lt b 240) refl refl refl
  where
    go : (x y z : Bool) → nat_lt b 128 ≡ x → nat_lt b 224 ≡ y → nat_lt b 240 ≡ z → cond x b (cond y (b - 192) (cond z (b - 224) (b - 240))) ≤ character_limit (cond x 0 (cond y 1 (cond z 2 3)))
    go true y z a h k = grind (arith, nat_tests)
    go false true z a h k = grind (arith, nat_tests)
    go false false true a h k = grind (arith, nat_tests)
    go false false false a h k = omega arith

pub continuation_limit : (b : ℕ) → continuation_len b ≤ 3
continuation_limit b = go (nat_lt b 128) (nat_lt b 224) (nat_lt b 240)
  where
    go : (x y z : Bool) → cond x 0 (cond y 1 (cond z 2 3)) ≤ 3
    go true y z = omega arith
    go false true z = omega arith
    go false false true = omega arith
    go false false false = omega arith

pub next_fits : (n v b : ℕ) → b - 128 < 256 → n ≤ 3 → 0 < n → v ≤ character_limit n → v * 64 + (b - 128) ≤ character_limit (n - 1)
next_fits zero v b low three some fits = absurd (omega arith)
next_fits (suc zero) v b low three some fits = omega arith
next_fits (suc (suc zero)) v b low three some fits = omega arith
next_fits (suc (suc (suc zero))) v b low three some fits = omega arith
next_fits (suc (suc (suc (suc n)))) v b low three some fits = absurd (omega arith)

pub next_after : (n v b : ℕ) (bs : List ℕ) → 0 < n → chars_after n v (b ∷ bs) ≡ chars_after (n - 1) (v * 64 + (b - 128)) bs
next_after zero v b bs some = absurd (omega arith)
next_after (suc n) v b bs some = ap (λ (k : ℕ). chars_after k (v * 64 + (b - 128)) bs) (less_one n)
  where
    less_one : (n : ℕ) → n ≡ suc n - 1
    less_one n = omega arith

pub limit_fits : (n : ℕ) → character_limit n ≤ 4993215
limit_fits zero = omega arith
limit_fits (suc zero) = omega arith
limit_fits (suc (suc zero)) = omega arith
limit_fits (suc (suc (suc n))) = omega arith

-- ---- what holds of bytes by their first, and by none

pub of_first : {Y : Type 0} (f : List ℕ → Y) (bs : List ℕ) → 1 ≤ length bs → f (get_or bs 0 0 ∷ take (length bs - 1) (drop 1 bs)) ≡ f bs
of_first f bs some = sym (ap f (first_of bs (get_or bs 0 0) some (same bs)))
  where
    same : (xs : List ℕ) → get_or xs 0 0 ≡ get_or xs 0 (get_or xs 0 0)
    same [] = refl
    same (x ∷ xs) = refl

pub chars_none : (bs : List ℕ) → length bs < 1 → [] ≡ chars bs
chars_none [] few = sym chars-nil
chars_none (b ∷ bs) few = absurd (omega (arith, few))
