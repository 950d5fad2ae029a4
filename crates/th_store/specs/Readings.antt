-- What is read from the keys of pairs. A rest is read as the pair that it spells exactly where it spells one.
use Rattle.std.specs.Prelude.{ℕ, ◌≡◌, true, List, [], ◌∷◌, ◌++◌, length, Option, Some, None, codes, refl}
use Rattle.std.specs.Str.{chars, is_utf8}
use lib.Utf8.{encode}
use Rattle.q_tree.specs.declared.queries.Relation.TheVariants.{Broader}
use Rattle.th_graph.specs.declared.pairs.PairKind.{PairKind}
use Rattle.th_graph.specs.declared.pairs.TermPair.{TermPair}
use Rattle.th_graph.specs.Pairs.{kind_number, stated_pair}
use Rattle.th_store.specs.Thesauri.{pair_part}
use Rattle.th_store.specs.Rules.{is_pair}

-- the number is that of this kind; or it is that of none
abbrev pub IsNumberOf : ℕ → Option PairKind → Type 0
IsNumberOf n (Some kind) = n ≡ kind_number kind
IsNumberOf n None = (kind : PairKind) → n ≡ kind_number kind → ⊥

-- bytes begin with a list after its length, and then these; or they don't begin so
abbrev pub SplitsCounted : List ℕ → Option (List ℕ × List ℕ) → Type 0
SplitsCounted bytes (Some x) = bytes ≡ length x.0 ∷ (x.0 ++ x.1)
SplitsCounted bytes None = (a rest : List ℕ) → bytes ≡ length a ∷ (a ++ rest) → ⊥

-- the rest spells this pair, whatever its terms; or it spells none
abbrev pub SpellsParts : List ℕ → Option TermPair → Type 0
SpellsParts part (Some p) = part ≡ pair_part p
SpellsParts part None = (p : TermPair) → part ≡ pair_part p → ⊥

-- the rest spells this pair, which keeps its rule; or it spells no such pair
abbrev pub SpellsPair : List ℕ → Option TermPair → Type 0
SpellsPair part (Some p) = (is_pair p ≡ true) × (part ≡ pair_part p)
SpellsPair part None = (p : TermPair) → is_pair p ≡ true → part ≡ pair_part p → ⊥

-- computed examples
a_pair : SpellsPair (2 ∷ 3 ∷ 0x64 ∷ 0x6f ∷ 0x67 ∷ 3 ∷ codes "pet") (Some (stated_pair Broader (codes "dog") (codes "pet")))
unfolding chars is_utf8 encode
a_pair = (refl, refl)

no_bytes : SpellsPair [] None
no_bytes p is e = cc
