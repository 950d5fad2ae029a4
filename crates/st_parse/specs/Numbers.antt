-- The numbers of statements.
use Rattle.std.specs.Prelude.{ℕ, ◌≡◌, ◌+◌, ◌*◌, ◌-◌, ◌^◌, nat_lt, nat_le, List, codes, pos, negsuc, neg_ℤ, refl}
use Rattle.std.specs.Bool.{if◌then◌else◌}
use Rattle.std.specs.List.{fold}
use Rattle.st_parse.specs.declared.statements.Whole.{Whole}
use Rattle.st_parse.specs.declared.statements.Whole.TheVariants.{Fits, Beyond}

-- the value of digits in base ten; `0` is 48
abbrev pub value : List ℕ → ℕ
value digits = fold (λ n d. n * 10 + (d - 48)) 0 digits

-- the number n, and the number -n, where `i64` has it
abbrev pub positive : ℕ → Whole
positive n = if nat_lt n (2 ^ 63) then Fits (pos n) else Beyond

abbrev pub negative : ℕ → Whole
negative n = if nat_le n (2 ^ 63) then Fits (neg_ℤ (pos n)) else Beyond

-- the number of these digits, without a sign and after a minus
abbrev pub number : List ℕ → Whole
number digits = positive (value digits)

abbrev pub negated : List ℕ → Whole
negated digits = negative (value digits)

-- computed examples
leading_zeros : number (codes "0012") ≡ Fits (pos 12)
leading_zeros = refl

greatest : number (codes "9223372036854775807") ≡ Fits (pos 9223372036854775807)
greatest = refl

beyond : number (codes "9223372036854775808") ≡ Beyond
beyond = refl

least : negated (codes "9223372036854775808") ≡ Fits (negsuc 9223372036854775807)
least = refl

below : negated (codes "9223372036854775809") ≡ Beyond
below = refl

no_minus_zero : negated (codes "0") ≡ Fits (pos 0)
no_minus_zero = refl
