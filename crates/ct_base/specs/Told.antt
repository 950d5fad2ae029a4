-- What the outside tells: a list of bytes, or nothing where it tells none. Each fact here holds of both.
use Rattle.std.specs.Prelude.{ℕ, ◌≡◌, List, [], ◌++◌, Option, Some, None, Result, Ok, Err, take, codes, refl}

-- these bytes, and then what is told
abbrev pub with_prefix : List ℕ → Option (List ℕ) → Option (List ℕ)
with_prefix bytes None = None
with_prefix bytes (Some rest) = Some (bytes ++ rest)

-- what is told, and then these bytes
abbrev pub with_suffix : Option (List ℕ) → List ℕ → Option (List ℕ)
with_suffix None bytes = None
with_suffix (Some before) bytes = Some (before ++ bytes)

-- where bytes are told, there are none
abbrev pub IsNothing : Option (List ℕ) → Type 0
IsNothing None = Unit {0}
IsNothing (Some rest) = rest ≡ []

-- what a call that took so many bytes put into its buffer, or took from it
abbrev pub took : {E : Type 0} → Result ℕ E → List ℕ → List ℕ
took (Ok count) bytes = take count bytes
took (Err e) bytes = []

-- it tells that this was said
abbrev pub IsSaid : Option (List ℕ) → List ℕ → Type 0
IsSaid told said = told ≡ Some said

-- it tells that a prefix of these bytes was said after what it told
pub record SaysPart (told : Option (List ℕ)) (bytes said : List ℕ) : Type 0 where
  pub part : List ℕ
  pub later : List ℕ
  pub split : bytes ≡ part ++ later
  pub is : with_suffix told part ≡ Some said

-- computed examples: `lo` to come after `hel`, and `hel` said before `lo`
to_come : with_prefix (codes "hel") (Some (codes "lo")) ≡ Some (codes "hello")
to_come = refl

already_said : with_suffix (Some (codes "hel")) (codes "lo") ≡ Some (codes "hello")
already_said = refl

not_told : with_suffix None (codes "lo") ≡ None
not_told = refl

two_bytes_taken : took {E = ℕ} (Ok 2) (codes "hello") ≡ codes "he"
two_bytes_taken = refl

-- after `hel`, of `lo` only the `l` was said
half_said : SaysPart (Some (codes "hel")) (codes "lo") (codes "hell")
half_said = record { part = codes "l"; later = codes "o"; split = refl; is = refl }
