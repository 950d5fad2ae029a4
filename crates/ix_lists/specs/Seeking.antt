-- Documents from a number on: what passing the others keeps, and where the first may be that passes a test.
use Rattle.std.specs.Prelude.{ℕ, ◌≡◌, ◌≤◌, ◌<◌, Bool, true, false, eqb, List, [], ◌∷◌, Option, Some, None, refl}
use Rattle.std.proofs.Common.{arith}
use Rattle.std.proofs.lemmas.Bool.{ne_eqb}

-- what each document from `to` on has is the same
abbrev pub SameFrom : {V : Type 0} → ℕ → (ℕ → V) → (ℕ → V) → Type 0
SameFrom to old new = (d : ℕ) → to ≤ d → new d ≡ old d

-- whether there is anything in a list
abbrev pub has_any : {X : Type 0} → List X → Bool
has_any [] = false
has_any (x ∷ xs) = true

-- Of the documents from `to` on, those before the bound don't pass the test; where the bound is `to` or less, the document `to` passes it.
-- With no bound none passes.
abbrev pub BoundsFrom : ℕ → (ℕ → Bool) → Option ℕ → Type 0
BoundsFrom to passes None = (d : ℕ) → to ≤ d → passes d ≡ false
BoundsFrom to passes (Some bound) = ((d : ℕ) → to ≤ d → d < bound → passes d ≡ false) × (bound ≤ to → passes to ≡ true)

-- ---- computed examples: a list that has each document's own number, and the test whether a document is the fifth

abbrev own : ℕ → List ℕ
own d = d ∷ []

same_as_itself_from_3 : SameFrom 3 own own
same_as_itself_from_3 d le = refl

the_fifth_from_3 : BoundsFrom 3 (λ d. eqb d 5) (Some 5)
the_fifth_from_3 = (λ d le lt. ne_eqb d 5 (λ same. omega (arith, lt, same)), λ le. absurd (omega (arith, le)))

the_fifth_from_5 : BoundsFrom 5 (λ d. eqb d 5) (Some 5)
the_fifth_from_5 = (λ d le lt. ne_eqb d 5 (λ same. omega (arith, lt, same)), λ le. refl)

-- 0 is no bound where the document 3 doesn't pass
never_0 : BoundsFrom 3 (λ d. eqb d 5) (Some 0) → ⊥
never_0 bounds = let wrong : false ≡ true = bounds.1 (omega arith) in cc
