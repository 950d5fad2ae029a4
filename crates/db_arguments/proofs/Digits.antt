-- Values that `parse` doesn't read.
use Rattle.std.specs.Prelude.{Result, Err, Ok, nat_le}
use Rattle.std.specs.Char.{is_ascii_digit}
use Rattle.std.specs.List.{list_all}
use Rattle.std.specs.Result.{result_ok}
use Rattle.std.specs.Str.Parse.{digits_value, ParsesUnsigned}
use Rattle.std.proofs.Common.{◌≡◌, ℕ, ◌<◌, ◌≤◌, ◌^◌, true, List, length, Some, None, inl, inr, rules, arith}
use Rattle.std.proofs.lemmas.Bool.{and_parts, leb-true, lt-leb, and_right, cond-false, cases_lt}
use Rattle.std.proofs.lemmas.Str.Parse.{IsNumeralModel, numerals_by_value, parse_digits}
use Rattle.db_arguments.specs.Reading.{is_number, number_of}

numerals : IsNumeralModel (λ ds. list_all is_ascii_digit ds ≡ true) (digits_value 10)
numerals = numerals_by_value _ (search rules)

-- a number of 64 bits or more is none that is wanted
beyond : (least greatest : ℕ) (value : List ℕ) → greatest < 2 ^ 64 → 2 ^ 64 ≤ digits_value 10 value → number_of least greatest value ≡ None
beyond least greatest value few large =
    let above : greatest < digits_value 10 value = omega (arith, few, large) in
    cond-false _ (Some (digits_value 10 value)) None (and_right (is_number value) _ (and_right _ _ (lt-leb _ _ above)))

pub no_parse_no_number : {E : Type 0} (least greatest : ℕ) (value : List ℕ) (r : Result ℕ E) → greatest < 2 ^ 64 → ParsesUnsigned 64 10 value r → is_number value ≡ true → result_ok r ≡ None
    → number_of least greatest value ≡ None
no_parse_no_number least greatest value (Ok n) few parses is none = cc
no_parse_no_number {E} least greatest value (Err e) few parses is none =
    let p = and_parts (list_all is_ascii_digit value) _ is in
    let q = and_parts (nat_le 1 (length value)) _ p.1 in
    let some : 1 ≤ length value = leb-true _ _ q.0 in
    let failed : ¬ ((0 < length value) × (digits_value 10 value < 2 ^ 64)) = parse_digits numerals 64 value (Err e) parses p.0 in
    elim (cases_lt (digits_value 10 value) (2 ^ 64)) [
      | inl small ↦ absurd (failed (omega arith, small))
      | inr large ↦ beyond least greatest value few large
    ]
