-- What the calls of an expansion answer.
use Rattle.std.specs.Prelude.{ℕ, ◌≡◌, ◌<◌, ◌≤◌, true, false, not, ◌&&◌, ◌||◌, List, [], ◌∷◌, length, replicate, codes, Vec, Result, Ok, Err, refl}
use Rattle.std.proofs.Common.{arith, lit<}
use Rattle.std.specs.declared.alloc.Global.{Global}
use Rattle.th_graph.specs.declared.faults.ExpandFault.{ExpandFault}
use Rattle.th_graph.specs.declared.faults.ExpandFault.TheVariants.{TooMany, Memory}
use Rattle.th_graph.specs.Rising.{is_among_terms, rise, with_ordered_terms}
use Rattle.th_graph.specs.Expansions.{expansion_limit}

-- the fault that there are more terms than an expansion may have; nothing is said where memory ran out
abbrev pub IsTooMany : ExpandFault → List (List ℕ) → Type 0
IsTooMany TooMany terms = expansion_limit < length terms
IsTooMany Memory terms = Unit {0}

-- WHAT EXPANDING ANSWERS: all of these terms, of which there are at most 1024; or that there are more.
abbrev pub Expands : Result (Vec (List ℕ) Global) ExpandFault → List (List ℕ) → Type 0
Expands (Ok found) terms = (found.items ≡ terms) × (length terms ≤ expansion_limit)
Expands (Err fault) terms = IsTooMany fault terms

-- terms that rise, as many as an expansion may have at most
pub record AreWithinLimit (terms : List (List ℕ)) : Type 0 where
  pub rises : rise terms ≡ true
  pub limited : length terms ≤ expansion_limit

-- the terms that are new now: those that were new, and those of `more` that weren't found
abbrev pub AreNew : List (List ℕ) → List (List ℕ) → List (List ℕ) → List (List ℕ) → Type 0
AreNew was now found more = (q : List ℕ) → is_among_terms q now ≡ (is_among_terms q was || (is_among_terms q more && not (is_among_terms q found)))

-- these terms were put among those that were found, and behind the new ones those of them that weren't found
pub record Gathered (found newer found' newer' more : List (List ℕ)) : Type 0 where
  pub among : found' ≡ with_ordered_terms found more
  pub limit : AreWithinLimit found'
  pub new : AreNew newer newer' found more

-- These terms were put; or they are too many with those that were found.
abbrev pub Gathers : {T : Type 0} → Result T ExpandFault → List (List ℕ) → List (List ℕ) → List (List ℕ) → List (List ℕ) → List (List ℕ) → Type 0
Gathers (Ok done) found newer found' newer' more = Gathered found newer found' newer' more
Gathers (Err fault) found newer found' newer' more = IsTooMany fault (with_ordered_terms found more)

-- computed examples
too_many : IsTooMany TooMany (replicate 1025 (codes "dog"))
too_many = lit< tt

-- where `dog` was found, of `cat` and `dog` the term `cat` is new, and `dog` isn't
cat_is_new : (now : List (List ℕ)) → AreNew [] now (codes "dog" ∷ []) (codes "cat" ∷ codes "dog" ∷ []) → is_among_terms (codes "cat") now ≡ true
cat_is_new now new = new (codes "cat")

dog_is_not : (now : List (List ℕ)) → AreNew [] now (codes "dog" ∷ []) (codes "cat" ∷ codes "dog" ∷ []) → is_among_terms (codes "dog") now ≡ false
dog_is_not now new = new (codes "dog")

-- `cat` stands before `dog` then
found_in_order : with_ordered_terms (codes "dog" ∷ []) (codes "cat" ∷ codes "dog" ∷ []) ≡ codes "cat" ∷ codes "dog" ∷ []
found_in_order = refl

two_within : AreWithinLimit (codes "cat" ∷ codes "dog" ∷ [])
two_within = record { rises = refl; limited = omega arith }
