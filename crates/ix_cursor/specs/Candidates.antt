-- Which documents a query may score.
use Rattle.std.specs.Prelude.{ℕ, ◌≡◌, ◌≤◌, ◌<◌, ◌^◌, nat_le, nat_lt, Bool, true, false, ◌&&◌, Option, Some, None, refl}
use Rattle.std.proofs.Common.{arith}
use Rattle.std.proofs.lemmas.Bool.{lt-leb}
use Rattle.ct_base.specs.declared.numbers.DocId.{DocId}
use Rattle.ix_cursor.specs.declared.nodes.Node.{Node}
use Rattle.ix_cursor.specs.declared.candidates.Candidates.{Candidates}
use Rattle.ix_cursor.specs.Nodes.{may_at, SameScoresFrom, SameDocumentsFrom}

-- the document isn't passed; None stands behind the last one
abbrev pub is_from : Option ℕ → ℕ → Bool
is_from None d = false
is_from (Some from) d = nat_le from d

-- WHETHER A DOCUMENT IS STILL AHEAD: the query may score in it, and it wasn't passed. Those that were given are passed.
abbrev pub ahead : Candidates → ℕ → Bool
ahead c d = is_from c.from d && may_at c.root.value d

-- the least number that may still be given; 2 ^ 32 where none is left
abbrev pub from_or_end : Option ℕ → ℕ
from_or_end None = 2 ^ 32
from_or_end (Some from) = from

abbrev pub least_ahead : Candidates → ℕ
least_ahead c = from_or_end c.from

-- what was found isn't less than the least number that might be, and what may be found later is greater; where nothing was found, nothing will be
abbrev pub MovesOn : ℕ → Option DocId → ℕ → Type 0
MovesOn before None later = later ≡ 2 ^ 32
MovesOn before (Some x) later = (before ≤ x.0) × (x.0 < later)

-- THE LEAST DOCUMENT that passes a test; None where no document does. Documents are numbers below 2 ^ 32.
abbrev pub IsLeast : (ℕ → Bool) → Option DocId → Type 0
IsLeast passes None = (d : ℕ) → d < 2 ^ 32 → passes d ≡ false
IsLeast passes (Some x) = (x.0 < 2 ^ 32) × (passes x.0 ≡ true) × ((d : ℕ) → d < x.0 → passes d ≡ false)

-- the test for the documents behind what was found
abbrev pub behind_found : Option DocId → (ℕ → Bool) → ℕ → Bool
behind_found None passes d = false
behind_found (Some x) passes d = nat_lt x.0 d && passes d

-- no document from one number to below another may have a score
abbrev pub NoneMayBetween : Node → ℕ → ℕ → Type 0
NoneMayBetween n from to = (d : ℕ) → from ≤ d → d < to → may_at n d ≡ false

-- the documents from one number on were passed as far as the first that may have a score
pub record LeapsTo (old new : Node) (from to : ℕ) : Type 0 where
  pub at_least : from ≤ to
  pub none : NoneMayBetween old from to
  pub candidate : may_at old to ≡ true
  pub scores : SameScoresFrom to old new
  pub documents : SameDocumentsFrom to old new

abbrev pub Leaps : Node → Node → ℕ → Option ℕ → Type 0
Leaps old new from None = (d : ℕ) → from ≤ d → may_at old d ≡ false
Leaps old new from (Some to) = LeapsTo old new from to

-- ---- computed examples, where each document passes

behind_2 : behind_found (Some (record { 0 = 2 })) (λ d. true) 2 ≡ false
behind_2 = refl

behind_3 : behind_found (Some (record { 0 = 2 })) (λ d. true) 3 ≡ true
behind_3 = refl

from_3_on : is_from (Some 3) 2 ≡ false
from_3_on = refl

-- the least of the documents from the third on
the_third : IsLeast (λ d. nat_le 3 d) (Some (record { 0 = 3 }))
the_third = (omega arith, refl, λ d lt. lt-leb 3 d lt)

not_the_fourth : IsLeast (λ d. nat_le 3 d) (Some (record { 0 = 4 })) → ⊥
not_the_fourth least = let wrong : true ≡ false = least.2 3 (omega arith) in cc

-- the document 2 doesn't come once more
never_again : MovesOn 3 (Some (record { 0 = 2 })) 3 → ⊥
never_again moves = let late = moves.0 in omega (arith, late)

nor_the_document_5 : MovesOn 3 (Some (record { 0 = 5 })) 5 → ⊥
nor_the_document_5 moves = let later = moves.1 in omega (arith, later)
