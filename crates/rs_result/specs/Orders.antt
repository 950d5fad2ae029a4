-- Rows in the order asked for.
use Rattle.std.specs.Prelude.{ℕ, ℤ, ◌≡◌, ◌-◌, pos, true, false, List, [], ◌∷◌, drop, map, take, Option, Some, None, refl}
use Rattle.std.specs.declared.cmp.Ordering.TheVariants.{Less, Greater}
use Rattle.std.specs.Ordering.{int_eq}
use Rattle.std.specs.List.{IsDistinct}
use Rattle.std.specs.List.Sorted.{IsSorted}
use Rattle.ct_base.specs.declared.lists.Value.{Value}
use Rattle.ct_base.specs.declared.lists.Value.TheVariants.{Number}
use Rattle.rs_result.specs.declared.rows.ResultRow.{ResultRow}
use Rattle.rs_result.specs.declared.rows.By.TheVariants.{Score, Column}
use Rattle.rs_result.specs.declared.rows.OrderBy.{OrderBy}
use Rattle.rs_result.specs.Comparing.{Ranked, rank_cmp, ranked}
use Rattle.rs_result.specs.Sorting.{sorted_by}

-- no row is less than the one before it
abbrev pub AreInOrder : {T : Type 0} → List OrderBy → List (ResultRow T) → Type 0
AreInOrder by rows = IsSorted (λ a b. rank_cmp by (ranked a) (ranked b)) rows

abbrev pub own_key : {T : Type 0} → ResultRow T → ℤ
own_key row = row.key.0

-- No two rows have the same key. Since rows that tie by all keys of the order compare by their own, such rows have one order only.
abbrev pub HaveOwnKeys : {T : Type 0} → List (ResultRow T) → Type 0
HaveOwnKeys rows = IsDistinct int_eq (map own_key rows)

-- those from one number to another, counted from 1; past the end what is there
abbrev pub cut : {A : Type 0} → ℕ → ℕ → List A → List A
cut from to xs = drop (from - 1) (take to xs)

-- computed examples: a key, a score and a price, which may be missing
abbrev row : ℕ → ℕ → Option Value → Ranked
row key score price = record { key = pos key; score = score; values = price ∷ [] }

abbrev one : Ranked
one = row 1 9 (Some (Number (pos 5)))

abbrev two : Ranked
two = row 2 18 (Some (Number (pos 5)))

abbrev three : Ranked
three = row 3 9 (Some (Number (pos 7)))

abbrev four : Ranked
four = row 4 9 None

abbrev price : OrderBy
price = record { by = Column 0; down = false }

abbrev price_down : OrderBy
price_down = record { by = Column 0; down = true }

abbrev score_down : OrderBy
score_down = record { by = Score; down = true }

greatest_price_first : rank_cmp (price_down ∷ []) three one ≡ Less
greatest_price_first = refl

tied_by_price : rank_cmp (price_down ∷ []) two one ≡ Greater
tied_by_price = refl

then_by_score : rank_cmp (price_down ∷ score_down ∷ []) two one ≡ Less
then_by_score = refl

-- the two that tie stand by their own keys, also where the order falls, and the one without a price is the least
by_price : sorted_by (rank_cmp (price ∷ [])) (two ∷ three ∷ one ∷ four ∷ []) ≡ four ∷ one ∷ two ∷ three ∷ []
by_price = refl

by_price_down : sorted_by (rank_cmp (price_down ∷ [])) (four ∷ two ∷ one ∷ three ∷ []) ≡ three ∷ one ∷ two ∷ four ∷ []
by_price_down = refl

by_score_and_price : sorted_by (rank_cmp (score_down ∷ price ∷ [])) (one ∷ two ∷ three ∷ four ∷ []) ≡ two ∷ four ∷ one ∷ three ∷ []
by_score_and_price = refl

by_own_keys : sorted_by (rank_cmp []) (three ∷ one ∷ two ∷ []) ≡ one ∷ two ∷ three ∷ []
by_own_keys = refl

the_second_and_third : cut 2 3 (one ∷ two ∷ three ∷ four ∷ []) ≡ two ∷ three ∷ []
the_second_and_third = refl

what_is_there : cut 2 9 (one ∷ two ∷ three ∷ []) ≡ two ∷ three ∷ []
what_is_there = refl

nothing_there : cut 5 9 (one ∷ two ∷ three ∷ []) ≡ []
nothing_there = refl
