-- What a posting list has of a document: the documents that have a term stand in it in the order of their numbers.
-- D is a document with its places: the positions of a word, or the pairs of a section. Nothing here depends on which.
use Rattle.std.specs.Prelude.{ℕ, ◌≡◌, ◌==◌, cond, List, [], ◌∷◌, map, Option, Some, None, refl}
use Rattle.ix_posting.specs.Forms.{Rise}

module _ {D : Type 0} (number : D → ℕ) where
  -- what a document has in a posting list
  abbrev pub posting : ℕ → List D → Option D
  posting d [] = None
  posting d (x ∷ xs) = cond (d == number x) (Some x) (posting d xs)

  -- the numbers of the documents rise, the first from above `before`
  abbrev pub Rises : ℕ → List D → Type 0
  Rises before xs = Rise before (map number xs)

-- computed examples: a document is its number
the_second : posting {D = ℕ} (λ d. d) 2 (1 ∷ 2 ∷ 4 ∷ []) ≡ Some 2
the_second = refl

no_third : posting {D = ℕ} (λ d. d) 3 (1 ∷ 2 ∷ 4 ∷ []) ≡ None
no_third = refl
