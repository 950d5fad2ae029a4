-- Why a query can't be reduced for an index.
use Rattle.std.specs.Prelude.{ℕ, ◌≡◌, ◌==◌, Bool, true, false, ◌||◌, nat_lt, List, [], ◌∷◌, ◌++◌, length, Option, Some, None, refl}
use Rattle.std.specs.Bool.{if◌then◌else◌}
use Rattle.std.specs.List.{flat_map}
use Rattle.q_tree.specs.declared.flats.Place.{Place}
use Rattle.q_tree.specs.declared.flats.Place.TheVariants.{Zone, Field}
use Rattle.q_tree.specs.declared.queries.Relation.{Relation}
use Rattle.th_graph.specs.declared.pairs.TermPair.{TermPair}
use Rattle.th_graph.specs.Expansions.{expansion_limit}
use Rattle.q_tree.specs.declared.queries.Word.{Word}
use Rattle.q_tree.specs.declared.queries.Leaf.{Leaf}
use Rattle.q_tree.specs.declared.queries.Leaf.TheVariants.{Phrase, Thes}
use Rattle.q_tree.specs.Limits.{has_wildcard}
use Rattle.q_tree.specs.Trees.{Tree, Single, Both, Weight, Above, Near, Within, Define}
use Rattle.q_reduce.specs.Reducing.{Context, word_keys, named_place, operator_terms, thesaurus_named}

-- The group has no section of the name; a field stands inside another WITHIN; there is no thesaurus of the name; a term expands to too
-- many; a word that EQUIV joins, at this place, isn't one token.
pub data Fault : Type 0 where
  NoSection : List ℕ → Fault
  FieldInside : List ℕ → Fault
  NoThesaurus : List ℕ → Fault
  ManyTerms : Fault
  ManyTokens : ℕ → Fault

-- ---- words that EQUIV joins

-- each of them that is no wildcard word has exactly one token
abbrev pub word_faults : Context → Word → List Fault
word_faults x w = if has_wildcard w.bits || (length (word_keys x w) == 1) then [] else ManyTokens w.place ∷ []

abbrev pub place_faults : Context → List Word → List Fault
place_faults x [] = []
place_faults x (w ∷ []) = []
place_faults x (w ∷ v ∷ ws) = flat_map (word_faults x) (w ∷ v ∷ ws)

-- ---- operators of thesauri

abbrev pub expansion_faults : List (List ℕ) → List Fault
expansion_faults terms = if nat_lt expansion_limit (length terms) then ManyTerms ∷ [] else []

abbrev pub operator_faults : Option (List TermPair) → Relation → ℕ → List Word → List ℕ → List Fault
operator_faults None relation level words name = NoThesaurus name ∷ []
operator_faults (Some ps) relation level words name = expansion_faults (operator_terms ps relation level words)

abbrev pub leaf_faults : Context → Leaf → List Fault
leaf_faults x (Phrase places) = flat_map (place_faults x) places
leaf_faults x (Thes relation words level thesaurus) = operator_faults (thesaurus_named thesaurus x.thesauri) relation level words thesaurus

abbrev pub leaves_faults : Context → List Leaf → List Fault
leaves_faults x leaves = flat_map (leaf_faults x) leaves

abbrev pub operands_faults : Context → List (List Leaf) → List Fault
operands_faults x operands = flat_map (leaves_faults x) operands

-- ---- sections

-- a section's fault stands at its name; `inside` tells whether another WITHIN stands around it
abbrev pub section_faults : Bool → List ℕ → Option Place → List Fault
section_faults inside name None = NoSection name ∷ []
section_faults true name (Some (Field stream)) = FieldInside name ∷ []
section_faults inside name (Some place) = []

-- ---- queries

-- THE FAULTS OF A QUERY in the order of its text; the first is the one that is told.
abbrev pub faults : Context → Bool → Tree → List Fault
faults x inside (Single leaf) = leaf_faults x leaf
faults x inside (Both op a b) = faults x inside a ++ faults x inside b
faults x inside (Weight tenths a) = faults x inside a
faults x inside (Above n a) = faults x inside a
faults x inside (Near operands span ordered) = operands_faults x operands
faults x inside (Within name a) = faults x true a ++ section_faults inside name (named_place x.group name)
faults x inside (Define leaves sum) = leaves_faults x leaves

-- ---- computed examples; those of whole queries are in `Examples.antt`

-- a word that stands by itself may have any number of tokens
word_alone : (x : Context) (w : Word) → place_faults x (w ∷ []) ≡ []
word_alone x w = refl

field_outside : (name : List ℕ) → section_faults false name (Some (Field 1)) ≡ []
field_outside name = refl

field_inside : (name : List ℕ) → section_faults true name (Some (Field 1)) ≡ FieldInside name ∷ []
field_inside name = refl

zone_inside : (name : List ℕ) → section_faults true name (Some (Zone name)) ≡ []
zone_inside name = refl
