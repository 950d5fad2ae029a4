-- Index sets: the columns of sub-indexes, by their names, and their bytes.
use Rattle.std.specs.Prelude.{ℕ, ◌≡◌, Bool, true, false, ◌&&◌, nat_le, List, [], ◌∷◌, ◌++◌, length, codes, refl}
use Rattle.std.specs.List.{list_all}
use Rattle.ct_base.specs.Names.{is_kept}
use Rattle.ct_base.specs.Limits.{sub_index_limit}
use Rattle.ct_bytes.specs.Varints.{varint}
use Rattle.tx_settings.specs.PrefsBytes.{are_listed, listed, words_bytes}

-- how many columns a sub-index has at most
abbrev pub sub_column_limit : ℕ
sub_column_limit = 3

-- a sub-index by the names of its columns: one to three
abbrev pub is_sub_index : List (List ℕ) → Bool
is_sub_index names = nat_le 1 (length names) && nat_le (length names) sub_column_limit

-- the sub-indexes of an index set: at most sixteen
abbrev pub are_sub_indexes : List (List (List ℕ)) → Bool
are_sub_indexes set = nat_le (length set) sub_index_limit && list_all is_sub_index set

-- an index set: its sub-indexes, whose columns have names as they are kept
abbrev pub is_index_set : List (List (List ℕ)) → Bool
is_index_set set = are_sub_indexes set && list_all (list_all is_kept) set

-- ---- their bytes

-- how many sub-indexes, and for each how many columns, and their names as texts
abbrev pub set_bytes : List (List (List ℕ)) → List ℕ
set_bytes set = listed words_bytes set

-- what is read: fewer than 2 ^ 32 names as they are kept, and fewer than 2 ^ 32 lists of such
abbrev pub are_names : List (List ℕ) → Bool
are_names names = are_listed is_kept names

abbrev pub are_lists : List (List (List ℕ)) → Bool
are_lists set = are_listed are_names set

-- computed examples: the price, and the kind with the price
abbrev pub two_sub_indexes : List (List (List ℕ))
two_sub_indexes = (codes "price" ∷ []) ∷ (codes "kind" ∷ codes "price" ∷ []) ∷ []

are_two : are_sub_indexes two_sub_indexes ≡ true
are_two = refl

without_columns : are_sub_indexes ([] ∷ []) ≡ false
without_columns = refl

of_four_columns : is_sub_index (codes "a" ∷ codes "b" ∷ codes "c" ∷ codes "d" ∷ []) ≡ false
of_four_columns = refl

by_their_names : is_index_set two_sub_indexes ≡ true
by_their_names = refl

in_capitals : is_index_set ((codes "Price" ∷ []) ∷ []) ≡ false
in_capitals = refl

their_bytes : set_bytes two_sub_indexes ≡ 2 ∷ 1 ∷ 5 ∷ codes "price" ++ (2 ∷ 4 ∷ codes "kind" ++ (5 ∷ codes "price"))
unfolding varint
their_bytes = refl

no_sub_index : set_bytes [] ≡ 0 ∷ []
unfolding varint
no_sub_index = refl
