-- Thesauri by their names, each as the set of its pairs.
use Rattle.std.specs.Prelude.{ℕ, ◌≡◌, List, ◌∷◌, map, codes, refl}
use Rattle.std.specs.declared.cmp.Ordering.{Ordering}
use Rattle.std.specs.declared.cmp.Ordering.TheVariants.{Less}
use Rattle.std.specs.Ordering.{nat_cmp}
use Rattle.std.specs.Cmp.Lexicographic.{slice_cmp}
use Rattle.std.specs.FinMap.{FinMap, insert, empty, entries}
use Rattle.ct_entry.specs.Keys.{relation_part}
use Rattle.ct_entry.specs.Maps.{Names, alter}
use Rattle.q_tree.specs.declared.queries.Relation.TheVariants.{Broader, Syn}
use Rattle.th_graph.specs.declared.pairs.TermPair.{TermPair}
use Rattle.th_graph.specs.Pairs.{kind_number, stated_pair}

-- a pair as the rest of the key of its entry: its kind by its number, and both terms after their lengths
abbrev pub pair_part : TermPair → List ℕ
pair_part p = relation_part (kind_number p.kind) p.first p.second

-- the order of these rests
abbrev pub pair_order : TermPair → TermPair → Ordering
pair_order p q = slice_cmp nat_cmp (pair_part p) (pair_part q)

-- the pairs of a thesaurus, as a set
abbrev pub PairSet : Type 0
PairSet = FinMap pair_order (Unit {0})

-- its pairs in their order
abbrev pub pairs_of : PairSet → List TermPair
pairs_of ps = map (λ e. e.0) (entries ps)

-- the thesauri of a store, by their names
abbrev pub Thesauri : Type 0
Thesauri = Names PairSet

-- as a new store has them
abbrev pub no_thesauri : Thesauri
no_thesauri = empty

-- ---- what procedures make of them

-- one more, without pairs
abbrev pub with_thesaurus : Thesauri → List ℕ → Thesauri
with_thesaurus ts name = insert ts name empty

-- a thesaurus with one pair more
abbrev pub with_pair : Thesauri → List ℕ → TermPair → Thesauri
with_pair ts name p = alter ts name (λ ps. insert ps p tt)

-- computed examples
a_pair : pair_part (stated_pair Broader (codes "dog") (codes "animal")) ≡ 2 ∷ 3 ∷ 0x64 ∷ 0x6f ∷ 0x67 ∷ 6 ∷ codes "animal"
a_pair = refl

synonyms_first : pair_order (stated_pair Syn (codes "dog") (codes "hound")) (stated_pair Broader (codes "dog") (codes "animal")) ≡ Less
synonyms_first = refl
