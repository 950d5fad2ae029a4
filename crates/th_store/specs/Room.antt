-- How much room thesauri take: what their entries weigh.
use Rattle.std.specs.Prelude.{ℕ, ◌≡◌, sum_by, List, [], ◌∷◌, map, replicate, codes, refl}
use Rattle.std.specs.List.{flat_map}
use Rattle.std.proofs.Common.{ap}
use Rattle.std.specs.Ordering.{nat_cmp}
use Rattle.std.specs.Cmp.Lexicographic.{slice_cmp}
use Rattle.std.specs.FinMap.{entries}
use Rattle.ct_entry.specs.laws.Maps.{entries-none}
use Rattle.ct_keep.specs.Content.{entry_weight}
use Rattle.ct_entry.specs.Keys.{bytes}
use Rattle.q_tree.specs.declared.queries.Relation.TheVariants.{Broader}
use Rattle.th_graph.specs.declared.pairs.TermPair.{TermPair}
use Rattle.th_graph.specs.Pairs.{stated_pair}
use Rattle.th_store.specs.Thesauri.{PairSet, Thesauri, no_thesauri, pairs_of}
use Rattle.th_store.specs.Spelling.{thesaurus_key, pair_key}

-- an entry by its key and value
abbrev pub ThesaurusEntry : Type 0
ThesaurusEntry = List ℕ × List ℕ

-- the entries of one thesaurus
abbrev pub pair_entry : List ℕ → TermPair → ThesaurusEntry
pair_entry name p = (bytes (pair_key name p), [])

abbrev pub entries_of_thesaurus : List ℕ × PairSet → List ThesaurusEntry
entries_of_thesaurus e = (bytes (thesaurus_key e.0), []) ∷ map (pair_entry e.0) (pairs_of e.1)

-- all entries of thesauri
abbrev pub thesaurus_entries : Thesauri → List ThesaurusEntry
thesaurus_entries ts = flat_map entries_of_thesaurus (entries ts)

abbrev pub thesauri_room : Thesauri → ℕ
thesauri_room ts = sum_by entry_weight (thesaurus_entries ts)

-- computed examples
pub no_room : thesauri_room no_thesauri ≡ 0
no_room = ap (λ (es : List (List ℕ × PairSet)). sum_by entry_weight (flat_map entries_of_thesaurus es)) (entries-none (slice_cmp nat_cmp))

a_short_pair : entry_weight (pair_entry (codes "th") (stated_pair Broader (codes "dog") (codes "animal"))) ≡ 64
a_short_pair = refl

-- 4 bytes of the kind and the owner, 1 of the relation, and 1 + 40 and 1 + 60 of the terms
a_long_pair : entry_weight (pair_entry (codes "th") (stated_pair Broader (replicate 40 0x61) (replicate 60 0x62))) ≡ 107
a_long_pair = refl
