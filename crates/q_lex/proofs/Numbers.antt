-- Numbers that are too large stay so.
use Rattle.std.proofs.Common.{◌≡◌, ℕ, ◌+◌, ◌*◌, ◌-◌, ◌==◌, ◌<◌, nat_le, Bool, true, false, cond, not, ◌||◌, ◌&&◌, List, [], ◌∷◌, refl, ap, ◌∙◌, arith, Option, Some, None}
use Rattle.std.proofs.lemmas.Bool.{lt-leb}
use Rattle.std.proofs.Math.Bool.{and-false}
use Rattle.q_lex.specs.Words.{is_digit_byte, whole_from, tenth_at, tenths_from, within, tenths_within, in_range, number_or_zero, strict, tenths, takes_tenths, tenths_of}
use Rattle.q_lex.specs.declared.lexemes.Written.{Written}

within-over : (hi n : ℕ) → hi < n → within hi (Some n) ≡ None
within-over hi n more = rw (lt-leb n hi more) refl

over-if : (hi : ℕ) (b : Bool) (o : Option ℕ) → within hi o ≡ None → within hi (cond b o None) ≡ None
over-if hi true o e = e
over-if hi false o e = refl

pub over : (hi n : ℕ) (cs : List ℕ) → hi < n → within hi (whole_from n cs) ≡ None
over hi n [] more = within-over hi n more
over hi n (c ∷ cs) more = over-if hi (is_digit_byte c) (whole_from (n * 10 + (c - 48)) cs) (over hi (n * 10 + (c - 48)) cs (omega arith))

tenths-if : (b : Bool) (o : Option ℕ) → tenths_within o ≡ None → tenths_within (cond b o None) ≡ None
tenths-if true o e = e
tenths-if false o e = refl

tenths-either : (b : Bool) (o p : Option ℕ) → tenths_within o ≡ None → tenths_within p ≡ None → tenths_within (cond b o p) ≡ None
tenths-either true o p e f = e
tenths-either false o p e f = f

tenths-over : (n : ℕ) → 100 < n → tenths_within (Some n) ≡ None
tenths-over n more = rw (ap (λ b. nat_le 1 n && b) (lt-leb n 100 more) ∙ and-false (nat_le 1 n)) refl

over_tenth : (n : ℕ) (cs : List ℕ) → 10 < n → tenths_within (tenth_at n cs) ≡ None
over_tenth n [] more = refl
over_tenth n (d ∷ []) more = tenths-if (is_digit_byte d) (Some (n * 10 + (d - 48))) (tenths-over (n * 10 + (d - 48)) (omega arith))
over_tenth n (d ∷ e ∷ cs) more = refl

pub over_tenths : (n : ℕ) (cs : List ℕ) → 10 < n → tenths_within (tenths_from n cs) ≡ None
over_tenths n [] more = tenths-over (n * 10) (omega arith)
over_tenths n (c ∷ cs) more =
    tenths-either (c == 46) (tenth_at n cs) (cond (is_digit_byte c) (tenths_from (n * 10 + (c - 48)) cs) None) (over_tenth n cs more)
    (tenths-if (is_digit_byte c) (tenths_from (n * 10 + (c - 48)) cs) (over_tenths (n * 10 + (c - 48)) cs (omega arith)))

same-if : (b : Bool) (n : ℕ) (p : Bool) → cond b (Some n) None ≡ cond (b || (not true && p)) (Some n) None
same-if true n p = refl
same-if false n p = refl

pub tenths_range : (o : Option ℕ) (p : Bool) → tenths_within o ≡ cond (in_range 1 100 o || (not true && p)) (Some (number_or_zero o)) None
tenths_range None p = refl
tenths_range (Some n) p = same-if (nat_le 1 n && nat_le n 100) n p

pub tenths_of_word : (w : Written) (cs : List ℕ) → w.plain ≡ Some cs → tenths_within (tenths cs) ≡ cond (takes_tenths strict w) (Some (tenths_of w)) None
tenths_of_word w cs is = rw is (tenths_range (tenths cs) true)
