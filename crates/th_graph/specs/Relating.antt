-- When a pair may be added to a thesaurus, and what it becomes.
use Rattle.std.specs.Prelude.{ℕ, ◌≡◌, ◌<◌, ◌≤◌, Bool, true, false, ◌&&◌, ◌||◌, List, [], ◌∷◌, ◌++◌, length, bytes_eq, Result, Ok, Err, codes, refl}
use Rattle.std.specs.List.{list_any}
use Rattle.std.proofs.Common.{lit<}
use Rattle.q_tree.specs.declared.queries.Relation.{Relation}
use Rattle.q_tree.specs.declared.queries.Relation.TheVariants.{Broader, Preferred, Syn}
use Rattle.th_graph.specs.declared.pairs.PairKind.TheVariants.{ToPreferred}
use Rattle.th_graph.specs.declared.pairs.TermPair.{TermPair}
use Rattle.th_graph.specs.declared.faults.RelateFault.{RelateFault}
use Rattle.th_graph.specs.declared.faults.RelateFault.TheVariants.{Known, TooMany, Memory}
use Rattle.th_graph.specs.Pairs.{has_term_pair, stated_pair, same_kind}

-- how many pairs a thesaurus has at most
abbrev pub pair_limit : ℕ
pair_limit = 10000

-- whether a term is preferred to this one
abbrev pub prefers : List ℕ → TermPair → Bool
prefers a p = same_kind ToPreferred p.kind && bytes_eq a p.first

abbrev pub has_preferred : List ℕ → List TermPair → Bool
has_preferred a ps = list_any (prefers a) ps

abbrev pub is_preference : Relation → Bool
is_preference Preferred = true
is_preference relation = false

-- WHAT IS KNOWN of a relation: its pair is there; or it states a preferred term of one that has a preferred term, be it this or another.
abbrev pub is_known : Relation → List ℕ → List ℕ → List TermPair → Bool
is_known relation a b ps = has_term_pair (stated_pair relation a b) ps || (is_preference relation && has_preferred a ps)

-- WHAT RELATING DOES: the pair is added behind the others where it isn't known and there are fewer than 10,000; else everything stays,
-- and the answer says why.
abbrev pub Relates : Result Unit RelateFault → List TermPair → List TermPair → Relation → List ℕ → List ℕ → Type 0
Relates (Ok done) old new relation a b = (is_known relation a b old ≡ false) × (length old < pair_limit) × (new ≡ old ++ stated_pair relation a b ∷ [])
Relates (Err Known) old new relation a b = (is_known relation a b old ≡ true) × (new ≡ old)
Relates (Err TooMany) old new relation a b = (is_known relation a b old ≡ false) × (pair_limit ≤ length old) × (new ≡ old)
Relates (Err Memory) old new relation a b = new ≡ old

-- ---- computed examples: a thesaurus where `pet` is preferred to `dog`
abbrev a_preference : List TermPair
a_preference = stated_pair Preferred (codes "dog") (codes "pet") ∷ []

another_preference : is_known Preferred (codes "dog") (codes "animal") a_preference ≡ true
another_preference = refl

of_another_term : is_known Preferred (codes "cat") (codes "pet") a_preference ≡ false
of_another_term = refl

broader_too : is_known Broader (codes "dog") (codes "pet") a_preference ≡ false
broader_too = refl

-- `cat` and `moggy` are synonyms, whichever is named first
synonyms_turned : is_known Syn (codes "moggy") (codes "cat") (stated_pair Syn (codes "cat") (codes "moggy") ∷ []) ≡ true
synonyms_turned = refl

added : Relates (Ok tt) a_preference (a_preference ++ stated_pair Broader (codes "dog") (codes "pet") ∷ []) Broader (codes "dog") (codes "pet")
added = (refl, lit< tt, refl)
