-- What the law of patterns says.
use Rattle.std.specs.Prelude.{ℕ, ◌≡◌, true, List, [], ◌∷◌, ◌++◌, codes, refl}
use Rattle.std.proofs.Common.{arith}
use Rattle.std.specs.Str.{chars, IsUtf8}
use Rattle.q_tree.specs.declared.flats.PatternBit.{PatternBit}
use Rattle.q_tree.specs.declared.flats.PatternBit.TheVariants.{Chars, Many}
use Rattle.q_tree.specs.Slots.{matches}
use Rattle.q_match.specs.Literals.{leading_literal}

-- the bytes begin with a prefix
abbrev pub IsPrefix : List ℕ → List ℕ → Type 0
IsPrefix prefix bytes = (rest : List ℕ) × (bytes ≡ prefix ++ rest)

-- A key that has a pattern begins with the leading literal of it, byte by byte.
abbrev pub MatchesBeginWithLiteral : Type 0
MatchesBeginWithLiteral = (p : List PatternBit) (key : List ℕ) → IsUtf8 (leading_literal p) → IsUtf8 key → matches p (chars key) ≡ true → IsPrefix (leading_literal p) key

-- computed examples
cafe_begins : IsPrefix (leading_literal (Chars (codes "caf") ∷ Many ∷ [])) (codes "cafe")
cafe_begins = (codes "e", refl)

-- what begins otherwise has another first byte
face_does_not : IsPrefix (codes "caf") (codes "face") → ⊥
face_does_not h = let is = h.1 in let first : ◌≡◌ {A = ℕ} 102 99 = cc in absurd (omega (arith, first))
