-- What a query asks of an index: slots in streams, and sections.
use Rattle.std.specs.Prelude.{ℕ, ◌≡◌, List, [], ◌∷◌, codes, refl}
use Rattle.ct_entry.specs.Lists.{EachIs}
use Rattle.q_tree.specs.declared.flats.Slot.{Slot}
use Rattle.q_tree.specs.declared.flats.Slot.TheVariants.{Any, Takes}
use Rattle.q_tree.specs.declared.flats.PatternBit.{PatternBit}
use Rattle.q_tree.specs.declared.flats.PatternBit.TheVariants.{Many}
use Rattle.q_tree.specs.declared.flats.Place.TheVariants.{Zone, Field, Sentence, Paragraph}
use Rattle.q_tree.specs.ReducedQueries.{Reduced, Term, Both, Weight, Above, Near, Within, Define}

-- ---- slots

-- the keys of a slot
abbrev pub keys_of : Slot → List (List ℕ)
keys_of Any = []
keys_of (Takes keys patterns) = keys

-- its patterns
abbrev pub patterns_of : Slot → List (List PatternBit)
patterns_of Any = []
patterns_of (Takes keys patterns) = patterns

-- ---- facts of all parts of a query

-- P holds of a stream and a slot in it; of Any, which is read nowhere, nothing is said
abbrev pub OfSlot : (ℕ → Slot → Type 0) → ℕ → Slot → Type 0
OfSlot P s Any = Unit {0}
OfSlot P s (Takes keys patterns) = P s (Takes keys patterns)

abbrev pub OfPhrase : (ℕ → Slot → Type 0) → ℕ → List Slot → Type 0
OfPhrase P s phrase = EachIs (λ slot. OfSlot P s slot) phrase

abbrev pub OfTerm : (ℕ → Slot → Type 0) → ℕ → List (List Slot) → Type 0
OfTerm P s phrases = EachIs (λ phrase. OfPhrase P s phrase) phrases

abbrev pub OfOperands : (ℕ → Slot → Type 0) → ℕ → List (List (List Slot)) → Type 0
OfOperands P s operands = EachIs (λ phrases. OfTerm P s phrases) operands

-- P holds of each slot of a query, each with the stream that it is looked for in, and Q of the name of each section
abbrev pub OfParts : (ℕ → Slot → Type 0) → (List ℕ → Type 0) → Reduced → ℕ → Type 0
OfParts P Q (Term phrases) s = OfTerm P s phrases
OfParts P Q (Both op a b) s = OfParts P Q a s × OfParts P Q b s
OfParts P Q (Weight w a) s = OfParts P Q a s
OfParts P Q (Above n a) s = OfParts P Q a s
OfParts P Q (Near operands span ordered) s = OfOperands P s operands
OfParts P Q (Within (Field f) a) s = OfParts P Q a f
OfParts P Q (Within (Zone name) a) s = Q name × OfParts P Q a s
OfParts P Q (Within Sentence a) s = Q (codes "sentence") × OfParts P Q a s
OfParts P Q (Within Paragraph a) s = Q (codes "paragraph") × OfParts P Q a s
OfParts P Q (Define phrases sum) s = OfTerm P s phrases

-- computed examples
abbrev fox : Slot
fox = Takes (codes "fox" ∷ []) []

its_pattern : patterns_of (Takes [] ((Many ∷ []) ∷ [])) ≡ (Many ∷ []) ∷ []
its_pattern = refl

in_a_field : (P : ℕ → Slot → Type 0) (Q : List ℕ → Type 0) → OfParts P Q (Within (Field 3) (Term ((fox ∷ []) ∷ []))) 0 → P 3 fox
in_a_field P Q h = h.0.0
