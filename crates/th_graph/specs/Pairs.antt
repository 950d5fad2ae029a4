-- The pairs of a thesaurus: which of its terms are synonyms, broader or preferred.
use Rattle.std.specs.Prelude.{ℕ, ◌≡◌, ◌==◌, Bool, false, ◌&&◌, List, [], ◌∷◌, bytes_eq, codes, refl}
use Rattle.std.specs.Bool.{if◌then◌else◌}
use Rattle.std.specs.List.{list_any}
use Rattle.q_tree.specs.declared.queries.Relation.{Relation}
use Rattle.q_tree.specs.declared.queries.Relation.TheVariants.{Syn, Broader, Narrower, Preferred}
use Rattle.th_graph.specs.declared.pairs.PairKind.{PairKind}
use Rattle.th_graph.specs.declared.pairs.PairKind.TheVariants.{Synonyms, ToBroader, ToPreferred}
use Rattle.th_graph.specs.declared.pairs.TermPair.{TermPair}
use Rattle.th_graph.specs.Rising.{is_less}

-- the number of a kind, as a store has it
abbrev pub kind_number : PairKind → ℕ
kind_number Synonyms = 1
kind_number ToBroader = 2
kind_number ToPreferred = 3

abbrev pub same_kind : PairKind → PairKind → Bool
same_kind k l = kind_number k == kind_number l

-- THE PAIR of two terms, by its kind: they are synonyms; or the second is broader than the first, or preferred to it.
abbrev pub term_pair : PairKind → List ℕ → List ℕ → TermPair
term_pair kind first second = record { kind = kind; first = first; second = second }

abbrev pub same_term_pair : TermPair → TermPair → Bool
same_term_pair p q = same_kind p.kind q.kind && (bytes_eq p.first q.first && bytes_eq p.second q.second)

abbrev pub has_term_pair : TermPair → List TermPair → Bool
has_term_pair p ps = list_any (same_term_pair p) ps

-- THE PAIR that a statement states: that b is a synonym of a, broader or narrower than a, or preferred to a. Of synonyms the lesser
-- stands first. That b is narrower than a is stated as a being broader than b.
abbrev pub stated_pair : Relation → List ℕ → List ℕ → TermPair
stated_pair Syn a b = if is_less b a then term_pair Synonyms b a else term_pair Synonyms a b
stated_pair Broader a b = term_pair ToBroader a b
stated_pair Narrower a b = term_pair ToBroader b a
stated_pair Preferred a b = term_pair ToPreferred a b

-- ---- computed examples

the_lesser_first : stated_pair Syn (codes "hound") (codes "dog") ≡ stated_pair Syn (codes "dog") (codes "hound")
the_lesser_first = refl

narrower_turned : stated_pair Narrower (codes "animal") (codes "dog") ≡ stated_pair Broader (codes "dog") (codes "animal")
narrower_turned = refl

not_both_ways : has_term_pair (stated_pair Broader (codes "animal") (codes "dog")) (stated_pair Broader (codes "dog") (codes "animal") ∷ []) ≡ false
not_both_ways = refl

other_kind : has_term_pair (stated_pair Preferred (codes "dog") (codes "animal")) (stated_pair Broader (codes "dog") (codes "animal") ∷ []) ≡ false
other_kind = refl
