-- The thesauri that a query names, as a state has them; and what loading them looks up.
use Rattle.std.specs.Prelude.{ℕ, ◌≡◌, List, [], ◌∷◌, ◌++◌, map, Option, Some, None, IsSome, codes, refl}
use Rattle.std.specs.List.{flat_map}
use Rattle.std.specs.Option.{option_map}
use Rattle.std.specs.FinMap.{entries, get, get-empty}
use Rattle.std.specs.Ordering.{nat_cmp}
use Rattle.std.specs.Cmp.Lexicographic.{slice_cmp}
use Rattle.std.proofs.Common.{ap}
use Rattle.ct_keep.specs.Content.{Content}
use Rattle.ct_keep.specs.KeeperViews.{KeeperView}
use Rattle.ct_keep.specs.Looks.{no_looks, LooksAtMost}
use Rattle.ct_entry.specs.declared.kinds.Kind.TheVariants as kind
use Rattle.ct_entry.specs.Keys.{at, key}
use Rattle.th_graph.specs.declared.pairs.TermPair.{TermPair}
use Rattle.th_store.specs.Thesauri.{PairSet, Thesauri, no_thesauri, pairs_of}
use Rattle.q_reduce.specs.declared.thesauri.NamedThesaurus.{NamedThesaurus}
use Rattle.q_reduce.specs.Results.{named_pairs}

-- a thesaurus by its name, as the list of its pairs
abbrev pub NamedPairs : Type 0
NamedPairs = List ℕ × List TermPair

-- what was found of a name
abbrev pub found_thesaurus : List ℕ → Option (List TermPair) → List NamedPairs
found_thesaurus name None = []
found_thesaurus name (Some ps) = (name, ps) ∷ []

-- the thesaurus of a name, if it is there
abbrev pub named_thesaurus : Thesauri → List ℕ → List NamedPairs
named_thesaurus ts name = found_thesaurus name (option_map pairs_of (get ts name))

-- THE THESAURI of these names that are there
abbrev pub thesauri_of : Thesauri → List (List ℕ) → List NamedPairs
thesauri_of ts names = flat_map (named_thesaurus ts) names

-- all thesauri of a state
abbrev pub all_thesauri : Thesauri → List NamedPairs
all_thesauri ts = map {B = NamedPairs} (λ e. (e.0, pairs_of e.1)) (entries ts)

-- to those that code holds the thesaurus of a name was added, if it is there
abbrev pub AddsNamed : Thesauri → List ℕ → List NamedThesaurus → List NamedThesaurus → Type 0
AddsNamed ts name old new = named_pairs new ≡ named_pairs old ++ named_thesaurus ts name

-- The counts of texts, of posting rows and of rules stayed, where the content has an index.
abbrev pub CountsNothing : {K : Type 0} → (K → KeeperView) → K → K → Type 0
CountsNothing view old new = (c : Content) → (view old).content ≡ Some c → (i : List ℕ) → IsSome (at c (key kind.Indexes i [])) → LooksAtMost view old new no_looks

-- computed examples
the_one_there : (ps : List TermPair) → flat_map (found_thesaurus (codes "th")) (None ∷ Some ps ∷ []) ≡ (codes "th", ps) ∷ []
the_one_there ps = refl

none_in_a_new_store : (name : List ℕ) → thesauri_of no_thesauri (name ∷ []) ≡ []
none_in_a_new_store name = ap (λ (o : Option PairSet). found_thesaurus name (option_map pairs_of o) ++ []) (get-empty (slice_cmp nat_cmp) name)
