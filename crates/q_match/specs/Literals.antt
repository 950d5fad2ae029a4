-- The literal by which a pattern begins.
use Rattle.std.specs.Prelude.{ℕ, ◌≡◌, List, [], ◌∷◌, codes, refl}
use Rattle.q_tree.specs.declared.flats.PatternBit.{PatternBit}
use Rattle.q_tree.specs.declared.flats.PatternBit.TheVariants.{Chars, One, Many}

-- THE LEADING LITERAL of a pattern: the bytes of its first piece, where that is characters; else it is empty
abbrev pub leading_literal : List PatternBit → List ℕ
leading_literal [] = []
leading_literal (Chars t ∷ bits) = t
leading_literal (One ∷ bits) = []
leading_literal (Many ∷ bits) = []

-- computed examples: `caf%`, `%` and `_at`
of_caf : leading_literal (Chars (codes "caf") ∷ Many ∷ []) ≡ codes "caf"
of_caf = refl

of_all : leading_literal (Many ∷ []) ≡ []
of_all = refl

after_a_wildcard : leading_literal (One ∷ Chars (codes "at") ∷ []) ≡ []
after_a_wildcard = refl
