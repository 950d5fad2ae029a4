-- The entries that spell thesauri: one for each thesaurus, under its name, and one for each of its pairs.
use Rattle.std.specs.Prelude.{ℕ, ◌≡◌, List, [], ◌∷◌, ◌++◌, Option, Some, None, codes, refl}
use Rattle.std.specs.Option.{option_map, option_and_then}
use Rattle.std.specs.FinMap.{get}
use Rattle.ct_entry.specs.declared.kinds.Kind.TheVariants as kind
use Rattle.ct_entry.specs.Keys.{Key, key}
use Rattle.ct_entry.specs.Changes.{put_value, spell}
use Rattle.q_tree.specs.declared.queries.Relation.TheVariants.{Preferred}
use Rattle.th_graph.specs.declared.pairs.TermPair.{TermPair}
use Rattle.th_graph.specs.Pairs.{stated_pair}
use Rattle.th_store.specs.Thesauri.{PairSet, Thesauri, pair_part}

-- the key of a thesaurus, and that of one of its pairs
abbrev pub thesaurus_key : List ℕ → Key
thesaurus_key name = key kind.Thesauri name []

abbrev pub pair_key : List ℕ → TermPair → Key
pair_key name p = key kind.Relations name (pair_part p)

-- What is there has an empty value.
abbrev pub empty_value : {X : Type 0} → X → List ℕ
empty_value x = []

-- what the entry of a pair has: an empty value, where there is a thesaurus and it has the pair
abbrev pub pair_value : Option PairSet → TermPair → Option (List ℕ)
pair_value o p = option_and_then (λ (ps : PairSet). option_map empty_value (get ps p)) o

-- THE ENTRIES SPELL THESE THESAURI: under each name stands an entry exactly where there is such a thesaurus, and under each pair exactly where
-- the thesaurus has it.
pub record ThesauriStand (f : Key → Option (List ℕ)) (ts : Thesauri) : Type 0 where
  pub names : (name : List ℕ) → f (thesaurus_key name) ≡ option_map empty_value (get ts name)
  pub pairs : (name : List ℕ) (p : TermPair) → f (pair_key name p) ≡ pair_value (get ts name) p

-- ---- what calls put into a batch

abbrev pub thesaurus_changes : List ℕ → List (Key × Option (List ℕ))
thesaurus_changes name = put_value (thesaurus_key name) [] ∷ []

abbrev pub pair_changes : List ℕ → TermPair → List (Key × Option (List ℕ))
pair_changes name p = put_value (pair_key name p) [] ∷ []

-- computed examples
a_thesaurus : spell (thesaurus_changes (codes "th")) ≡ (0x14 ∷ 2 ∷ codes "th", Some []) ∷ []
a_thesaurus = refl

a_preferred_term : spell (pair_changes (codes "th") (stated_pair Preferred (codes "dog") (codes "pet"))) ≡ (0x15 ∷ 2 ∷ codes "th" ++ (3 ∷ 3 ∷ codes "dog" ++ (3 ∷ codes "pet")), Some []) ∷ []
a_preferred_term = refl

no_thesaurus : (p : TermPair) → pair_value None p ≡ None
no_thesaurus p = refl
