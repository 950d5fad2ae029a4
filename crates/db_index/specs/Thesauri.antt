-- Loading the thesauri of a store.
use Rattle.std.specs.Prelude.{ℕ, ◌≡◌, List, [], ◌∷◌, ◌++◌, Option, Some, None}
use Rattle.std.specs.List.{flat_map}
use Rattle.std.specs.Option.{option_map}
use Rattle.std.specs.FinMap.{get, get-empty}
use Rattle.std.specs.Ordering.{nat_cmp}
use Rattle.std.specs.Cmp.Lexicographic.{slice_cmp}
use Rattle.std.proofs.Common.{ap}
use Rattle.th_graph.specs.declared.pairs.TermPair.{TermPair}
use Rattle.th_store.specs.Thesauri.{PairSet, Thesauri, no_thesauri, pairs_of}
use Rattle.rule_index.specs.Outcomes.{NamedThesauri}

-- pairs with their name, where there are any
abbrev pub pairs_named : List ℕ → Option (List TermPair) → NamedThesauri
pairs_named name None = []
pairs_named name (Some ps) = (name, ps) ∷ []

-- the thesaurus of a name, if there is one
abbrev pub thesaurus_at : Thesauri → List ℕ → NamedThesauri
thesaurus_at ts name = pairs_named name (option_map pairs_of (get ts name))

-- those of names, in their order
abbrev pub thesauri_at : Thesauri → List (List ℕ) → NamedThesauri
thesauri_at ts names = flat_map (thesaurus_at ts) names

-- computed example
none_in_a_new_store : (name : List ℕ) → thesauri_at no_thesauri (name ∷ []) ≡ []
none_in_a_new_store name = ap (λ (o : Option PairSet). pairs_named name (option_map pairs_of o) ++ []) (get-empty (slice_cmp nat_cmp) name)
