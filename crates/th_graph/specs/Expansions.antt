-- What a term expands to along the pairs of a thesaurus.
use Rattle.std.specs.Prelude.{ℕ, zero, suc, ◌≡◌, ◌+◌, ◌*◌, ◌≤◌, ◌↔◌, Bool, true, false, ◌&&◌, ◌||◌, List, [], ◌∷◌, ◌++◌, length, bytes_eq, codes, refl}
use Rattle.std.specs.Bool.{if◌then◌else◌}
use Rattle.std.specs.List.{flat_map}
use Rattle.std.proofs.Common.{◌⊎◌}
use Rattle.q_tree.specs.declared.queries.Relation.{Relation}
use Rattle.q_tree.specs.declared.queries.Relation.TheVariants.{Syn, Broader, Narrower, Preferred}
use Rattle.th_graph.specs.declared.pairs.PairKind.{PairKind}
use Rattle.th_graph.specs.declared.pairs.PairKind.TheVariants.{Synonyms, ToBroader, ToPreferred}
use Rattle.th_graph.specs.declared.pairs.TermPair.{TermPair}
use Rattle.th_graph.specs.Rising.{is_among_terms, rise, with_ordered_terms}
use Rattle.th_graph.specs.Pairs.{has_term_pair, term_pair, stated_pair, same_kind}

-- how many terms an expansion has at most, the term itself among them
abbrev pub expansion_limit : ℕ
expansion_limit = 1024

-- ---- what an expansion is

-- ONE STEP of a relation leads from a to b. Synonyms are so both ways.
abbrev pub is_step_of : List TermPair → Relation → List ℕ → List ℕ → Bool
is_step_of ps Syn a b = has_term_pair (term_pair Synonyms a b) ps || has_term_pair (term_pair Synonyms b a) ps
is_step_of ps Broader a b = has_term_pair (term_pair ToBroader a b) ps
is_step_of ps Narrower a b = has_term_pair (term_pair ToBroader b a) ps
is_step_of ps Preferred a b = has_term_pair (term_pair ToPreferred a b) ps

-- A walk of so many steps leads from a to b.
abbrev pub IsWalk : List TermPair → Relation → ℕ → List ℕ → List ℕ → Type 0
IsWalk ps relation zero a b = a ≡ b
IsWalk ps relation (suc n) a b = (c : List ℕ) × IsWalk ps relation n a c × (is_step_of ps relation c b ≡ true)

-- a walk of at most so many steps leads from a to b
abbrev pub IsWithinLevel : List TermPair → Relation → ℕ → List ℕ → List ℕ → Type 0
IsWithinLevel ps relation level a b = (n : ℕ) × (n ≤ level) × IsWalk ps relation n a b

-- WHAT A TERM REACHES: broader and narrower terms by 0 to `level` steps, synonyms by any number of steps, and of preferred terms
-- that which is preferred to it, or itself where there is none.
abbrev pub IsReached : List TermPair → Relation → ℕ → List ℕ → List ℕ → Type 0
IsReached ps Syn level a b = (n : ℕ) × IsWalk ps Syn n a b
IsReached ps Broader level a b = IsWithinLevel ps Broader level a b
IsReached ps Narrower level a b = IsWithinLevel ps Narrower level a b
IsReached ps Preferred level a b = (is_step_of ps Preferred a b ≡ true) ⊎ ((b ≡ a) × ((c : List ℕ) → is_step_of ps Preferred a c ≡ false))

-- THE EXPANSION: the terms that are reached, in the order of their bytes and each once. That there is one at most is a law.
pub record IsExpansion (ps : List TermPair) (relation : Relation) (level : ℕ) (a : List ℕ) (terms : List (List ℕ)) : Type 0 where
  pub rises : rise terms ≡ true
  pub reached : (b : List ℕ) → (is_among_terms b terms ≡ true) ↔ IsReached ps relation level a b

-- ---- the same, computed; that it is the same is a law, so what follows doesn't have to be believed

-- where a pair of a kind leads from a term: from the first to the second, or back
abbrev pub forward : PairKind → List ℕ → TermPair → List (List ℕ)
forward kind t p = if same_kind kind p.kind && bytes_eq t p.first then p.second ∷ [] else []

abbrev pub backward : PairKind → List ℕ → TermPair → List (List ℕ)
backward kind t p = if same_kind kind p.kind && bytes_eq t p.second then p.first ∷ [] else []

-- where one pair leads from a term
abbrev pub next_of : Relation → List ℕ → TermPair → List (List ℕ)
next_of Syn t p = forward Synonyms t p ++ backward Synonyms t p
next_of Broader t p = forward ToBroader t p
next_of Narrower t p = backward ToBroader t p
next_of Preferred t p = forward ToPreferred t p

abbrev pub next_terms : List TermPair → Relation → List ℕ → List (List ℕ)
next_terms ps relation t = flat_map (next_of relation t) ps

-- these terms, and those one step from one of them
abbrev pub widened : List TermPair → Relation → List (List ℕ) → List (List ℕ)
widened ps relation terms = with_ordered_terms terms (flat_map (next_terms ps relation) terms)

-- the terms within so many steps
unfoldable pub terms_within : List TermPair → Relation → ℕ → List ℕ → List (List ℕ)
terms_within ps relation zero a = a ∷ []
terms_within ps relation (suc n) a = widened ps relation (terms_within ps relation n a)

-- these terms, or else the term itself
abbrev pub or_itself : List ℕ → List (List ℕ) → List (List ℕ)
or_itself a [] = a ∷ []
or_itself a (t ∷ ts) = t ∷ ts

-- How many steps reach all synonyms: no walk to a term has to be longer than there are terms, which are the two of each pair and the
-- first one.
abbrev pub step_limit : List TermPair → ℕ
step_limit ps = 2 * length ps + 1

unfoldable pub expansion : List TermPair → Relation → ℕ → List ℕ → List (List ℕ)
expansion ps Syn level a = terms_within ps Syn (step_limit ps) a
expansion ps Broader level a = terms_within ps Broader level a
expansion ps Narrower level a = terms_within ps Narrower level a
expansion ps Preferred level a = or_itself a (with_ordered_terms [] (next_terms ps Preferred a))

-- ---- computed examples: `animal` is broader than `dog`, which is broader than `poodle`; `dog` and `hound` are synonyms, and so are
-- `hound` and `cur`; `dog` is preferred to `doggy`
abbrev pub pets : List TermPair
pets = stated_pair Broader (codes "dog") (codes "animal") ∷ stated_pair Narrower (codes "dog") (codes "poodle") ∷ stated_pair Syn (codes "hound") (codes "dog") ∷ stated_pair Syn (codes "hound") (codes "cur") ∷ stated_pair Preferred (codes "doggy") (codes "dog") ∷ []

two_steps : IsWalk pets Broader 2 (codes "poodle") (codes "animal")
two_steps = (codes "dog", (codes "poodle", refl, refl), refl)

not_down : is_step_of pets Broader (codes "animal") (codes "dog") ≡ false
not_down = refl

reached_twice : IsReached pets Syn 1 (codes "dog") (codes "cur")
reached_twice = (2, (codes "hound", (codes "dog", refl, refl), refl))

one_level : expansion pets Broader 1 (codes "poodle") ≡ codes "dog" ∷ codes "poodle" ∷ []
unfolding expansion terms_within
one_level = refl

two_levels : expansion pets Broader 2 (codes "poodle") ≡ codes "animal" ∷ codes "dog" ∷ codes "poodle" ∷ []
unfolding expansion terms_within
two_levels = refl

downwards : expansion pets Narrower 9 (codes "dog") ≡ codes "dog" ∷ codes "poodle" ∷ []
unfolding expansion terms_within
downwards = refl

all_synonyms : expansion pets Syn 1 (codes "cur") ≡ codes "cur" ∷ codes "dog" ∷ codes "hound" ∷ []
unfolding expansion terms_within
all_synonyms = refl

the_preferred : expansion pets Preferred 1 (codes "doggy") ≡ codes "dog" ∷ []
unfolding expansion
the_preferred = refl

none_preferred : expansion pets Preferred 1 (codes "dog") ≡ codes "dog" ∷ []
unfolding expansion
none_preferred = refl

-- `animal` is broader than `dog`, and `dog` than `animal`: five steps go round, and each term is given once
a_circle : expansion (stated_pair Broader (codes "dog") (codes "animal") ∷ stated_pair Broader (codes "animal") (codes "dog") ∷ []) Broader 5 (codes "dog") ≡ codes "animal" ∷ codes "dog" ∷ []
unfolding expansion terms_within
a_circle = refl

-- a term of which the thesaurus has no pair
itself_alone : expansion pets Syn 1 (codes "cat") ≡ codes "cat" ∷ []
unfolding expansion terms_within
itself_alone = refl
