-- What holds of all index sets as bytes.
use Rattle.std.specs.Prelude.{ℕ, ◌≡◌, ◌≤◌, ◌^◌, Bool, true, ◌&&◌, nat_le, nat_lt, List, [], ◌∷◌, length, refl}
use Rattle.std.specs.List.{list_all}
use Rattle.std.proofs.Common.{arith}
use Rattle.std.proofs.lemmas.Bool.{and_parts, and_from, leb-true, lt-ltb}
use Rattle.ct_base.specs.Names.{is_kept}
use Rattle.ct_base.specs.Limits.{name_limit, sub_index_limit}
use Rattle.ct_base.specs.laws.Names.{kept_is_name, name_length}
use Rattle.ct_bytes.specs.Varints.{text_bytes}
use Rattle.tx_settings.specs.PrefsBytes.{words_bytes}
use Rattle.tx_settings.specs.laws.Apart.{listed_apart, words_apart}
use Rattle.tx_settings.specs.laws.Kept.{weaker}
use Rattle.tx_settings.specs.laws.Lengths.{listed_length, text_length}
use Rattle.tx_sets.specs.Sets.{are_names, are_sub_indexes, is_sub_index, sub_column_limit}
use Rattle.tx_sets.specs.SetPromises.{NoSetBeginsAnother, SetsMayBeRead, SetsAreShort}

pub set_apart : NoSetBeginsAnother
set_apart = listed_apart words_bytes words_apart

-- ---- within the limits

pub few_columns : (names : List (List ℕ)) → is_sub_index names ≡ true → length names ≤ sub_column_limit
few_columns names h = leb-true (length names) sub_column_limit (and_parts (nat_le 1 (length names)) (nat_le (length names) sub_column_limit) h).1

pub few_sub_indexes : (set : List (List (List ℕ))) → are_sub_indexes set ≡ true → length set ≤ sub_index_limit
few_sub_indexes set h = leb-true (length set) sub_index_limit (and_parts (nat_le (length set) sub_index_limit) (list_all is_sub_index set) h).0

pub each_sub_index : (set : List (List (List ℕ))) → are_sub_indexes set ≡ true → list_all is_sub_index set ≡ true
each_sub_index set h = (and_parts (nat_le (length set) sub_index_limit) (list_all is_sub_index set) h).1

-- both tests of each
both_all : {X : Type 0} (f g : X → Bool) (xs : List X) → list_all f xs ≡ true → list_all g xs ≡ true → list_all (λ x. f x && g x) xs ≡ true
both_all f g [] a b = refl
both_all f g (x ∷ xs) a b =
    let p = and_parts (f x) (list_all f xs) a in
    let q = and_parts (g x) (list_all g xs) b in
    and_from (f x && g x) (list_all (λ x. f x && g x) xs) (and_from (f x) (g x) p.0 q.0) (both_all f g xs p.1 q.1)

-- a sub-index whose columns have names as they are kept
abbrev is_named : List (List ℕ) → Bool
is_named names = is_sub_index names && list_all is_kept names

names_read : (names : List (List ℕ)) → is_named names ≡ true → are_names names ≡ true
names_read names h =
    let p = and_parts (is_sub_index names) (list_all is_kept names) h in
    let few = few_columns names p.0 in
    and_from (nat_lt (length names) (2 ^ 32)) (list_all is_kept names) (lt-ltb (length names) (2 ^ 32) (omega (arith, few))) p.1

pub sets_may_be_read : SetsMayBeRead
sets_may_be_read set are kept =
    let few = few_sub_indexes set are in
    and_from (nat_lt (length set) (2 ^ 32)) (list_all are_names set) (lt-ltb (length set) (2 ^ 32) (omega (arith, few)))
    (weaker is_named are_names set names_read (both_all is_sub_index (list_all is_kept) set (each_sub_index set are) kept))

-- ---- how many bytes they have

name_bytes : (name : List ℕ) → is_kept name ≡ true → length (text_bytes name) ≤ 35
name_bytes name h = text_length name name_limit (name_length name (kept_is_name name h)).1

names_length : (names : List (List ℕ)) → is_named names ≡ true → length (words_bytes names) ≤ 110
names_length names h =
    let p = and_parts (is_sub_index names) (list_all is_kept names) h in
    let few = few_columns names p.0 in
    let all = listed_length is_kept text_bytes 35 names name_bytes p.1 in
    omega (arith, few, all)

pub sets_are_short : SetsAreShort
sets_are_short set are kept =
    let few = few_sub_indexes set are in
    let all = listed_length is_named words_bytes 110 set names_length (both_all is_sub_index (list_all is_kept) set (each_sub_index set are) kept) in
    omega (arith, few, all)
