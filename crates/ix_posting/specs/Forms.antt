-- The places of a document in a row: which may follow which, and their bytes. There are two forms of them, positions and pairs of positions.
use Rattle.std.specs.Prelude.{ℕ, ◌≡◌, ◌-◌, ◌<◌, ◌≤◌, ◌^◌, ◌⊎◌, List, [], ◌∷◌, ◌++◌, length, refl}
use Rattle.ct_base.specs.declared.numbers.Pair.{Pair}
use Rattle.ct_bytes.specs.Varints.{varint}

-- A FORM OF PLACES: what stands before the first of a document, which place may follow which, what a place is by itself, and its bytes after the one before it.
pub record PlaceForm (P : Type 0) : Type 1 where
  pub origin : P
  pub Follows : P → P → Type 0
  pub IsPlace : P → Type 0
  pub bytes : P → P → List ℕ

module _ {P : Type 0} (form : PlaceForm P) where
  -- each place follows the one before it, the first `before`
  abbrev pub PlacesRise : P → List P → Type 0
  PlacesRise before [] = Unit {0}
  PlacesRise before (p ∷ ps) = form.Follows before p × form.IsPlace p × PlacesRise p ps

  -- the bytes of each place after the one before it, of the first after `before`
  abbrev pub places_bytes : P → List P → List ℕ
  places_bytes before [] = []
  places_bytes before (p ∷ ps) = form.bytes before p ++ places_bytes p ps

  -- the places of a document: how many there are, and each
  abbrev pub counted_bytes : List P → List ℕ
  counted_bytes ps = varint (length ps) ++ places_bytes form.origin ps

-- ---- numbers: each is greater than the one before it, the first than 0, and all are below 2 ^ 32; a number's bytes are the step to it

abbrev pub number_form : PlaceForm ℕ
number_form = record { origin = 0; Follows = λ before n. before < n; IsPlace = λ n. n < 2 ^ 32; bytes = λ before n. varint (n - before) }

abbrev pub Rise : ℕ → List ℕ → Type 0
Rise = PlacesRise number_form

-- ---- pairs of positions: the first is at least 1 and at most the last, which is below 2 ^ 32

-- the second pair has a greater first, or the same first and a greater last
abbrev pub ComesAfter : Pair → Pair → Type 0
ComesAfter a b = (a.first < b.first) ⊎ ((a.first ≡ b.first) × (a.last < b.last))

-- what stands before the first pair
abbrev pub no_pair : Pair
no_pair = record { first = 0; last = 0 }

-- a pair's bytes are the step from the first of the pair before it, and that from its first to its last
abbrev pub pair_form : PlaceForm Pair
pair_form = record {
  origin = no_pair;
  Follows = ComesAfter;
  IsPlace = λ p. (1 ≤ p.first) × (p.first ≤ p.last) × (p.last < 2 ^ 32);
  bytes = λ before p. varint (p.first - before.first) ++ varint (p.last - p.first);
}

-- ---- computed examples

two_positions : counted_bytes number_form (1 ∷ 3 ∷ []) ≡ 2 ∷ 1 ∷ 2 ∷ []
unfolding varint
two_positions = refl

one_pair : counted_bytes pair_form (record { first = 2; last = 5 } ∷ []) ≡ 1 ∷ 2 ∷ 3 ∷ []
unfolding varint
one_pair = refl

-- two pairs may begin alike
pairs_with_one_first : places_bytes pair_form no_pair (record { first = 2; last = 5 } ∷ record { first = 2; last = 9 } ∷ []) ≡ 2 ∷ 3 ∷ 0 ∷ 7 ∷ []
unfolding varint
pairs_with_one_first = refl
