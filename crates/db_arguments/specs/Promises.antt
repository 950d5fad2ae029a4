-- What the function of `src/laws.rt` promises of all arguments.
use Rattle.std.specs.Prelude.{ℕ, ◌≡◌, List, [], ◌∷◌, codes}
use Rattle.db_arguments.specs.Arguments.{AsksFor, AsksForStore, AsksForRows, file_alone}

-- Arguments ask for at most one FILE, one limit and one degree, or for at most one number of rows, and never for both.
pub record OneReading : Type 0 where
  pub one_store : (arguments : List (List ℕ)) (file another : List ℕ) (limit other : ℕ) → AsksFor arguments file limit → AsksFor arguments another other → (file ≡ another) × (limit ≡ other)
  pub one_degree : (arguments : List (List ℕ)) (file another : List ℕ) (limit other degree more : ℕ) → AsksForStore arguments file limit degree → AsksForStore arguments another other more → degree ≡ more
  pub one_number : (arguments : List (List ℕ)) (rows others : ℕ) → AsksForRows arguments rows → AsksForRows arguments others → rows ≡ others
  pub not_both : (arguments : List (List ℕ)) (file : List ℕ) (limit rows : ℕ) → AsksFor arguments file limit → AsksForRows arguments rows → ⊥

-- computed example: a FILE alone asks for no other limit
no_other_limit : OneReading → (limit : ℕ) → AsksFor (codes "a.db" ∷ []) (codes "a.db") limit → 68719476736 ≡ limit
no_other_limit one limit asks = (one.one_store (codes "a.db" ∷ []) (codes "a.db") (codes "a.db") 68719476736 limit (1, file_alone) asks).1
