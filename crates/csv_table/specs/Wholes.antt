-- Whole numbers of 64 bits, as they are printed: digits, of which the first is no zero unless it stands alone, and perhaps a minus.
-- Any other spelling, as `007`, `+5` or `-0`, would lose what stands in the file, and is a text.
use Rattle.std.specs.Prelude.{ℕ, ◌≡◌, ◌==◌, ◌&&◌, not, Bool, true, false, List, [], ◌∷◌, Option, Some, None, codes, pos, negsuc, refl}
use Rattle.std.specs.Bool.{if◌then◌else◌}
use Rattle.std.specs.Char.{is_ascii_digit}
use Rattle.std.specs.List.{list_all}
use Rattle.ct_base.specs.Characters.{is_first}
use Rattle.st_parse.specs.Numbers.{number, negated}
use Rattle.st_parse.specs.declared.statements.Whole.{Whole}
use Rattle.st_parse.specs.declared.statements.Whole.TheVariants.{Fits, Beyond}

-- at least one digit, and no zero before another one
abbrev pub begins_well : List ℕ → Bool
begins_well [] = false
begins_well (d ∷ []) = true
begins_well (d ∷ e ∷ ds) = not (d == 48)

abbrev pub are_digits : List ℕ → Bool
are_digits ds = list_all is_ascii_digit ds && begins_well ds

-- what follows a minus at the beginning
abbrev pub after_minus : List ℕ → Option (List ℕ)
after_minus [] = None
after_minus (b ∷ bs) = if b == 45 then Some bs else None

abbrev pub above_zero : List ℕ → Whole
above_zero ds = if are_digits ds then number ds else Beyond

abbrev pub below_zero : List ℕ → Whole
below_zero ds = if are_digits ds && not (is_first 48 ds) then negated ds else Beyond

abbrev pub signed : Option (List ℕ) → List ℕ → Whole
signed None field = above_zero field
signed (Some ds) field = below_zero ds

-- the number that a field is; `Beyond` where it is none of 64 bits in this spelling
abbrev pub whole : List ℕ → Whole
whole field = signed (after_minus field) field

abbrev pub fits : Whole → Bool
fits (Fits n) = true
fits Beyond = false

abbrev pub is_whole : List ℕ → Bool
is_whole field = fits (whole field)

-- computed examples
seven : whole (codes "7") ≡ Fits (pos 7)
seven = refl

minus_seventy : whole (codes "-70") ≡ Fits (negsuc 69)
minus_seventy = refl

greatest : whole (codes "9223372036854775807") ≡ Fits (pos 9223372036854775807)
greatest = refl

least : whole (codes "-9223372036854775808") ≡ Fits (negsuc 9223372036854775807)
least = refl

one_above : is_whole (codes "9223372036854775808") ≡ false
one_above = refl

zeros_before : is_whole (codes "007") ≡ false
zeros_before = refl

minus_zero : is_whole (codes "-0") ≡ false
minus_zero = refl

with_a_plus : is_whole (codes "+5") ≡ false
with_a_plus = refl

nothing : is_whole [] ≡ false
nothing = refl

a_price : is_whole (codes "9.99") ≡ false
a_price = refl
