-- What the calls of reduction answer.
use Rattle.std.specs.Prelude.{◌≡◌, ℕ, List, [], ◌∷◌, ◌++◌, map, Option, Some, None, Result, Ok, Err, Vec, refl}
use Rattle.std.specs.Option.{option_map}
use Rattle.std.specs.declared.alloc.Global.{Global}
use Rattle.q_tree.specs.declared.flats.Flat.{Flat}
use Rattle.q_tree.specs.declared.flats.Slot.{Slot}
use Rattle.q_tree.specs.declared.queries.Leaf.{Leaf}
use Rattle.q_tree.specs.declared.queries.Leaf.TheVariants.{Phrase}
use Rattle.q_tree.specs.ReducedQueries.{Reduced, reduced_of}
use Rattle.q_reduce.specs.declared.reducing.ReduceCtx.{ReduceCtx}
use Rattle.q_reduce.specs.declared.thesauri.NamedThesaurus.{NamedThesaurus}
use Rattle.th_graph.specs.declared.pairs.TermPair.{TermPair}
use Rattle.q_reduce.specs.declared.faults.ReduceFault.{ReduceFault}
use Rattle.q_reduce.specs.declared.faults.ReduceFault.TheVariants.{NoSection as SectionFault, FieldInside as FieldFault, NoThesaurus as ThesaurusFault, ManyTerms as TermsFault, ManyTokens as TokensFault, Memory}
use Rattle.q_reduce.specs.Reducing.{Context, leaf_phrases}
use Rattle.q_reduce.specs.Faults.{Fault, NoSection, FieldInside, NoThesaurus, ManyTerms, ManyTokens, expansion_faults, leaf_faults}

-- thesauri by their names, as lists of pairs
abbrev pub named_pairs : List NamedThesaurus → List (List ℕ × List TermPair)
named_pairs ts = map {B = List ℕ × List TermPair} (λ t. (t.name, t.thesaurus)) ts

abbrev pub context_of : ReduceCtx → Context
context_of c = record { lexer = c.lexer.now; stop = c.stop.now; group = c.group.now; thesauri = named_pairs c.thesauri.now }

-- the first of the faults
abbrev pub first_fault : List Fault → Option Fault
first_fault [] = None
first_fault (f ∷ fs) = Some f

-- It is the first of these faults. Nothing is said where memory ran out.
abbrev pub IsFirst : ReduceFault → List Fault → Type 0
IsFirst (SectionFault name) fs = first_fault fs ≡ Some (NoSection name)
IsFirst (FieldFault name) fs = first_fault fs ≡ Some (FieldInside name)
IsFirst (ThesaurusFault name) fs = first_fault fs ≡ Some (NoThesaurus name)
IsFirst TermsFault fs = first_fault fs ≡ Some ManyTerms
IsFirst (TokensFault place) fs = first_fault fs ≡ Some (ManyTokens place)
IsFirst Memory fs = Unit {0}

-- There are none of these faults, and the value is so; or what is answered is the first fault.
abbrev pub Answers : {X : Type 0} → Result X ReduceFault → List Fault → (X → Type 0) → Type 0
Answers (Ok x) fs is_so = (fs ≡ []) × is_so x
Answers (Err fault) fs is_so = IsFirst fault fs

-- There are none of these faults, and behind the elements that there were stand these; or what is answered is the first fault.
abbrev pub PutsMore : {X Y : Type 0} → Result X ReduceFault → List Fault → List Y → List Y → List Y → Type 0
PutsMore result fs old new more = Answers result fs (λ _. new ≡ old ++ more)

-- The terms of an operator of a thesaurus are these; or there are too many.
abbrev pub AnswersTerms : Result (Vec (List ℕ) Global) ReduceFault → List (List ℕ) → Type 0
AnswersTerms result terms = Answers result (expansion_faults terms) (λ found. found.items ≡ terms)

-- Behind the phrases that there were stand those of a leaf; or what is answered is the first fault of it.
abbrev pub PutsLeaf : {X : Type 0} → Result X ReduceFault → Context → Leaf → List (List Slot) → List (List Slot) → Type 0
PutsLeaf result x leaf old new = PutsMore result (leaf_faults x leaf) old new (leaf_phrases x leaf)

-- The query has no fault, and this is what it is reduced to; or this is its first fault.
abbrev pub Reduces : Result (Option Flat) ReduceFault → List Fault → Option Reduced → Type 0
Reduces result fs q = Answers result fs (λ found. option_map reduced_of found ≡ q)

-- ---- computed examples

first_of_two : (f g : Fault) → first_fault (f ∷ g ∷ []) ≡ Some f
first_of_two f g = refl

-- of no terms none are found
no_terms : (found : Vec (List ℕ) Global) → AnswersTerms (Ok found) [] → found.items ≡ []
no_terms found answer = answer.1

-- a leaf of no words has no phrase
no_words : (x : Context) (old new : List (List Slot)) → PutsLeaf {X = Unit {0}} (Ok tt) x (Phrase []) old new → new ≡ old ++ []
no_words x old new answer = answer.1

-- where there is a fault, no value is answered
no_value : (f : Fault) (x : Option Flat) → Reduces (Ok x) (f ∷ []) None → f ∷ [] ≡ []
no_value f x answer = answer.0
