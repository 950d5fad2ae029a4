-- What a word may stand for: a number, a name, or one of the words of functions.
use Rattle.std.specs.Prelude.{◌≡◌, ℕ, ◌+◌, ◌*◌, ◌-◌, ◌==◌, nat_le, not, ◌||◌, ◌&&◌, Bool, true, false, List, [], ◌∷◌, map, Option, Some, None, codes, bytes_eq, refl}
use Rattle.std.specs.Bool.{if◌then◌else◌}
use Rattle.std.specs.Char.{to_ascii_lowercase}
use Rattle.ct_base.specs.Names.{is_spelling}
use Rattle.q_tree.specs.declared.flats.SumStep.{SumStep}
use Rattle.q_tree.specs.declared.flats.SumStep.TheVariants.{Number, Discrete, Occurrence}
use Rattle.q_lex.specs.declared.lexemes.Written.{Written}

-- Which limits a grammar keeps. Without `numbers` any plain word passes for a number. Without `counts` a NEAR may have any number
-- of operands, and a sum any number of operators. Without `scores` a sum may have the words of other products.
pub record GrammarRules : Type 0 where
  pub numbers : Bool
  pub counts : Bool
  pub scores : Bool

-- the grammar of this product: all limits hold
abbrev pub strict : GrammarRules
strict = record { numbers = true; counts = true; scores = true }

abbrev pub is_digit_byte : ℕ → Bool
is_digit_byte c = nat_le 48 c && nat_le c 57

-- the number whose first digits are those of n, and whose others are these
abbrev pub whole_from : ℕ → List ℕ → Option ℕ
whole_from n [] = Some n
whole_from n (c ∷ cs) = if is_digit_byte c then whole_from (n * 10 + (c - 48)) cs else None

-- a whole number: digits alone, at least one
abbrev pub whole : List ℕ → Option ℕ
whole [] = None
whole (c ∷ cs) = whole_from 0 (c ∷ cs)

-- A number with tenths: digits, and at most one point with one digit behind it. It is counted in tenths.
abbrev pub tenth_at : ℕ → List ℕ → Option ℕ
tenth_at n (d ∷ []) = if is_digit_byte d then Some (n * 10 + (d - 48)) else None
tenth_at n cs = None

abbrev pub tenths_from : ℕ → List ℕ → Option ℕ
tenths_from n [] = Some (n * 10)
tenths_from n (c ∷ cs) = if c == 46 then tenth_at n cs else (if is_digit_byte c then tenths_from (n * 10 + (c - 48)) cs else None)

abbrev pub tenths : List ℕ → Option ℕ
tenths [] = None
tenths (c ∷ cs) = tenths_from 0 (c ∷ cs)

-- whether there is a number, and within these bounds
abbrev pub in_range : ℕ → ℕ → Option ℕ → Bool
in_range lo hi None = false
in_range lo hi (Some n) = nat_le lo n && nat_le n hi

-- The number where it isn't over the bound, and tenths where they are in their range, from 0.1 to 10.
abbrev pub within : ℕ → Option ℕ → Option ℕ
within hi None = None
within hi (Some n) = if nat_le n hi then Some n else None

abbrev pub tenths_within : Option ℕ → Option ℕ
tenths_within None = None
tenths_within (Some n) = if nat_le 1 n && nat_le n 100 then Some n else None

-- the number, or 0 where there is none
abbrev pub number_or_zero : Option ℕ → ℕ
number_or_zero None = 0
number_or_zero (Some n) = n

-- whether the word has plain characters alone, and they pass the test
abbrev pub plain_is : (List ℕ → Bool) → Option (List ℕ) → Bool
plain_is test None = false
plain_is test (Some cs) = test cs

-- the number that the word spells, or 0
abbrev pub plain_value : (List ℕ → Option ℕ) → Option (List ℕ) → ℕ
plain_value number None = 0
plain_value number (Some cs) = number_or_zero (number cs)

abbrev pub is_plain : Written → Bool
is_plain w = plain_is (λ _. true) w.plain

-- the plain word, in any ASCII case
abbrev pub says : List ℕ → Written → Bool
says word w = plain_is (λ cs. bytes_eq (map to_ascii_lowercase cs) word) w.plain

abbrev pub is_name : Written → Bool
is_name w = plain_is is_spelling w.plain

abbrev pub lower : Option (List ℕ) → List ℕ
lower None = []
lower (Some cs) = map to_ascii_lowercase cs

-- a name in lower case
abbrev pub name_of : Written → List ℕ
name_of w = lower w.plain

-- a number in its range, or, where the limits of numbers don't hold, any plain word
abbrev pub takes_tenths : GrammarRules → Written → Bool
takes_tenths r w = plain_is (λ cs. in_range 1 100 (tenths cs)) w.plain || (not r.numbers && is_plain w)

abbrev pub takes_whole : GrammarRules → ℕ → ℕ → Written → Bool
takes_whole r lo hi w = plain_is (λ cs. in_range lo hi (whole cs)) w.plain || (not r.numbers && is_plain w)

-- A level of a thesaurus. A word that is a name is no level, whatever the limits.
abbrev pub takes_level : GrammarRules → Written → Bool
takes_level r w = not (is_name w) && takes_whole r 1 99 w

abbrev pub tenths_of : Written → ℕ
tenths_of w = plain_value tenths w.plain

abbrev pub whole_of : Written → ℕ
whole_of w = plain_value whole w.plain

-- TRUE or FALSE
abbrev pub is_flag : Written → Bool
is_flag w = says (codes "true") w || says (codes "false") w

-- a word of other products in a sum
abbrev pub is_foreign : Written → Bool
is_foreign w = says (codes "completion") w || (says (codes "ignore") w || says (codes "relevance") w)

abbrev pub is_plus : Written → Bool
is_plus w = says (codes "+") w

-- an operand of a sum
abbrev pub takes_atom : GrammarRules → Written → Bool
takes_atom r w = says (codes "discrete") w || (says (codes "occurrence") w || (takes_whole r 0 1000 w || (not r.scores && is_foreign w)))

abbrev pub atom_of : Written → SumStep
atom_of w = if says (codes "discrete") w then Discrete else (if says (codes "occurrence") w then Occurrence else Number (whole_of w))

-- a word as an operator of a sum
abbrev pub takes_plus : GrammarRules → Written → Bool
takes_plus r w = is_plus w || (not r.scores && is_foreign w)

-- whether a NEAR of n operands may have one more
abbrev pub may_add : GrammarRules → ℕ → Bool
may_add r n = nat_le n 15 || not r.counts

-- whether a sum may have n operators
abbrev pub may_count : GrammarRules → ℕ → Bool
may_count r n = nat_le n 8 || not r.counts

-- computed examples
one_and_a_half : tenths (codes "1.5") ≡ Some 15
one_and_a_half = refl

half : tenths (codes ".5") ≡ Some 5
half = refl

two_digits_behind : tenths (codes "1.25") ≡ None
two_digits_behind = refl

nothing_behind : tenths (codes "5.") ≡ None
nothing_behind = refl

leading_zeros : whole (codes "007") ≡ Some 7
leading_zeros = refl
