-- Changes for each of several things, as owners or rows.
use Rattle.std.specs.Prelude.{ℕ, ℤ, pos, negsuc, ◌+◌, ◌==◌, Bool, cond, List, [], ◌∷◌, ◌++◌, Option, ◌≡◌, nat_lt, true, false, Some, None, codes, refl}
use Rattle.std.specs.List.{list_any}
use Rattle.ct_entry.specs.Keys.{Key, same_list, key}
use Rattle.ct_entry.specs.declared.kinds.Kind.TheVariants.{Pending}
use Rattle.ct_entry.specs.Changes.{put_value, drop_key}

-- the changes for each, in order
abbrev pub each : {I : Type 0} → (I → List (Key × Option (List ℕ))) → List I → List (Key × Option (List ℕ))
each changes [] = []
each changes (i ∷ is) = changes i ++ each changes is

-- the value by the last that the test hits, or else the old one
abbrev pub latest : {I : Type 0} → (I → Bool) → (I → Option (List ℕ)) → List I → Option (List ℕ) → Option (List ℕ)
latest hit value [] old = old
latest hit value (i ∷ is) old = latest hit value is (cond (hit i) (value i) old)

-- whether the name is one of these
abbrev pub is_any_of : List ℕ → List (List ℕ) → Bool
is_any_of name names = list_any (λ j. same_list name j) names

-- rows, each with a document: the first has this one, and each other the next
abbrev pub numbered : ℕ → List ℤ → List (ℕ × ℤ)
numbered d [] = []
numbered d (r ∷ rs) = (d, r) ∷ numbered (d + 1) rs

-- the row of each document, where these rows become the next documents
abbrev pub with_rows : ℕ → List ℤ → (ℕ → Option ℤ) → ℕ → Option ℤ
with_rows given [] row d = row d
with_rows given (r ∷ rs) row d = cond (d == given + 1) (Some r) (with_rows (given + 1) rs row d)

-- computed examples
the_second_row : with_rows 5 (negsuc 2 ∷ pos 7 ∷ []) (λ d. None) 7 ≡ Some (pos 7)
the_second_row = refl

one_after_the_other : numbered 5 (negsuc 2 ∷ pos 0 ∷ pos 7 ∷ []) ≡ (5, negsuc 2) ∷ (6, pos 0) ∷ (7, pos 7) ∷ []
one_after_the_other = refl

abbrev waits : List ℕ → Key
waits i = key Pending i []

in_order : each (λ i. drop_key (waits i) ∷ put_value (waits i) [] ∷ []) (codes "di" ∷ codes "dj" ∷ [])
    ≡ drop_key (waits (codes "di")) ∷ put_value (waits (codes "di")) [] ∷ drop_key (waits (codes "dj")) ∷ put_value (waits (codes "dj")) [] ∷ []
in_order = refl

-- of the numbers below 3 the last counts
last_below_three : latest (λ n. nat_lt n 3) (λ n. Some (n ∷ [])) (1 ∷ 2 ∷ 5 ∷ []) None ≡ Some (2 ∷ [])
last_below_three = refl

none_below_three : latest (λ n. nat_lt n 3) (λ n. Some (n ∷ [])) (4 ∷ 5 ∷ []) (Some []) ≡ Some []
none_below_three = refl

among : is_any_of (codes "dj") (codes "di" ∷ codes "dj" ∷ []) ≡ true
among = refl

not_among : is_any_of (codes "d") (codes "di" ∷ codes "dj" ∷ []) ≡ false
not_among = refl
