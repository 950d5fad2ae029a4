-- Which thesauri a query names.
use Rattle.std.specs.Prelude.{ℕ, ◌≡◌, List, [], ◌∷◌, ◌++◌, bytes_eq, codes, refl}
use Rattle.std.specs.Bool.{if◌then◌else◌}
use Rattle.std.specs.List.{flat_map, list_any}
use Rattle.q_tree.specs.declared.queries.Leaf.{Leaf}
use Rattle.q_tree.specs.declared.queries.Leaf.TheVariants.{Phrase, Thes}
use Rattle.q_tree.specs.Trees.{Tree, Single, Both, Weight, Above, Near, Within, Define}

-- those of its operators, in the order of the text
abbrev pub leaf_names : Leaf → List (List ℕ)
leaf_names (Phrase places) = []
leaf_names (Thes relation words level thesaurus) = thesaurus ∷ []

abbrev pub leaves_names : List Leaf → List (List ℕ)
leaves_names leaves = flat_map leaf_names leaves

abbrev pub names_in : Tree → List (List ℕ)
names_in (Single leaf) = leaf_names leaf
names_in (Both op a b) = names_in a ++ names_in b
names_in (Weight tenths a) = names_in a
names_in (Above n a) = names_in a
names_in (Near operands span ordered) = flat_map leaves_names operands
names_in (Within name a) = names_in a
names_in (Define leaves sum) = leaves_names leaves

-- one more behind the others, unless it is there
abbrev pub with_thesaurus_name : List (List ℕ) → List ℕ → List (List ℕ)
with_thesaurus_name names name = if list_any (bytes_eq name) names then names else names ++ name ∷ []

abbrev pub with_thesaurus_names : List (List ℕ) → List (List ℕ) → List (List ℕ)
with_thesaurus_names names [] = names
with_thesaurus_names names (n ∷ ns) = with_thesaurus_names (with_thesaurus_name names n) ns

-- THE THESAURI that a query names, each once
abbrev pub thesauri_in : Tree → List (List ℕ)
thesauri_in t = with_thesaurus_names [] (names_in t)

-- computed example
each_once : with_thesaurus_names [] (codes "a" ∷ codes "b" ∷ codes "a" ∷ []) ≡ codes "a" ∷ codes "b" ∷ []
each_once = refl
