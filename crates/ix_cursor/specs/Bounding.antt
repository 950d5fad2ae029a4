-- The bounds of parts of a query made one: before a bound no document has a score, and with no bound none has.
use Rattle.std.specs.Prelude.{ℕ, ◌≡◌, min, max, nat_lt, Bool, true, Option, Some, None, refl}

-- the bound of what needs both, and of what needs one
abbrev pub later : Option ℕ → Option ℕ → Option ℕ
later None y = None
later (Some x) None = None
later (Some x) (Some y) = Some (max x y)

abbrev pub earlier : Option ℕ → Option ℕ → Option ℕ
earlier None y = y
earlier (Some x) None = Some x
earlier (Some x) (Some y) = Some (min x y)

-- whether a bound stands behind a document; no bound stands behind each
abbrev pub is_behind : Option ℕ → ℕ → Bool
is_behind None d = true
is_behind (Some from) d = nat_lt d from

-- computed examples
both_from_7 : later (Some 3) (Some 7) ≡ Some 7
both_from_7 = refl

never_both : later (Some 3) None ≡ None
never_both = refl

one_from_3 : earlier (Some 3) (Some 7) ≡ Some 3
one_from_3 = refl

still_one : earlier None (Some 7) ≡ Some 7
still_one = refl
