-- The bounds of several parts made one, one part after the other.
use Rattle.std.proofs.Common.{ℕ, ◌≡◌, ◌≤◌, ◌<◌, ◌+◌, ◌&&◌, ◌||◌, ◌⊎◌, inl, inr, max, min, nat_lt, eqb, Bool, true, false, List, [], ◌∷◌, Option, Some, None, map, set, length, zero, suc, refl, sym, ap, ◌∙◌, add-one, arith}
use Rattle.std.specs.Bool.{if◌then◌else◌}
use Rattle.std.specs.List.{list_any, list_all}
use Rattle.std.proofs.Math.Bool.{or_assoc}
use Rattle.std.proofs.lemmas.Bool.{cases_lt, and_left, and_right, and_from, or_from, or_left, or_right}
use Rattle.ct_base.specs.laws.Bools.{or_false, and_assoc}
use Rattle.q_tree.specs.Documents.{put_position, put_all}
use Rattle.ix_lists.specs.Seeking.{BoundsFrom, has_any}
use Rattle.ix_cursor.specs.Bounding.{later, earlier}

-- the same test in other words
pub bound_same : (to : ℕ) (f g : ℕ → Bool) (x : Option ℕ) → ((d : ℕ) → to ≤ d → g d ≡ f d) → BoundsFrom to f x → BoundsFrom to g x
bound_same to f g None same h = λ d le. same d le ∙ h d le
bound_same to f g (Some x) same h = (λ d le lt. same d le ∙ h.0 d le lt, λ le. same to (omega arith) ∙ h.1 le)

-- ---- two parts

-- what needs both
pub and_bound : (to : ℕ) (f g : ℕ → Bool) (x y : Option ℕ) → BoundsFrom to f x → BoundsFrom to g y → BoundsFrom to (λ d. f d && g d) (later x y)
and_bound to f g None y h k = λ d le. and_left (f d) (g d) (h d le)
and_bound to f g (Some x) None h k = λ d le. and_right (f d) (g d) (k d le)
and_bound to f g (Some x) (Some y) h k = (none, λ le. and_from (f to) (g to) (h.1 (omega (arith, le))) (k.1 (omega (arith, le))))
  where
    none : (d : ℕ) → to ≤ d → d < max x y → (f d && g d) ≡ false
    none d le lt = go (cases_lt d x)
      where
        go : (d < x) ⊎ (x ≤ d) → (f d && g d) ≡ false
        go (inl before) = and_left (f d) (g d) (h.0 d le before)
        go (inr late) = and_right (f d) (g d) (k.0 d le (omega (arith, lt, late)))

-- what needs one of them
pub or_bound : (to : ℕ) (f g : ℕ → Bool) (x y : Option ℕ) → BoundsFrom to f x → BoundsFrom to g y → BoundsFrom to (λ d. f d || g d) (earlier x y)
or_bound to f g None None h k = λ d le. or_from (f d) (g d) (h d le) (k d le)
or_bound to f g None (Some y) h k = (λ d le lt. or_from (f d) (g d) (h d le) (k.0 d le lt), λ le. or_right (f to) (g to) (k.1 le))
or_bound to f g (Some x) None h k = (λ d le lt. or_from (f d) (g d) (h.0 d le lt) (k d le), λ le. or_left (f to) (g to) (h.1 le))
or_bound to f g (Some x) (Some y) h k = (λ d le lt. or_from (f d) (g d) (h.0 d le (omega (arith, lt))) (k.0 d le (omega (arith, lt))), λ le. one le (cases_lt y x))
  where
    one : min x y ≤ to → (y < x) ⊎ (x ≤ y) → (f to || g to) ≡ true
    one le (inl less) = or_right (f to) (g to) (k.1 (omega (arith, le, less)))
    one le (inr less) = or_left (f to) (g to) (h.1 (omega (arith, le, less)))

-- ---- the first so many of several parts

abbrev pub any_first : {X : Type 0} → (X → Bool) → ℕ → List X → Bool
any_first f zero xs = false
any_first f (suc i) [] = false
any_first f (suc i) (x ∷ xs) = f x || any_first f i xs

abbrev pub all_first : {X : Type 0} → (X → Bool) → ℕ → List X → Bool
all_first f zero xs = true
all_first f (suc i) [] = true
all_first f (suc i) (x ∷ xs) = f x && all_first f i xs

and_nothing : (b : Bool) → (b && true) ≡ b
and_nothing true = refl
and_nothing false = refl

any_suc : {X : Type 0} (f : X → Bool) (xs : List X) (i : ℕ) (x : X) → i < length xs → any_first f (suc i) (set xs i x) ≡ (any_first f i xs || f x)
any_suc f [] i x few = absurd (omega (arith, few))
any_suc f (y ∷ xs) zero x few = or_false (f x)
any_suc f (y ∷ xs) (suc i) x few = ap (λ b. f y || b) (any_suc f xs i x (omega (arith, few))) ∙ sym (or_assoc (f y) (any_first f i xs) (f x))

any_next : {X : Type 0} (f : X → Bool) (xs : List X) (i : ℕ) (x : X) → i < length xs → any_first f (i + 1) (set xs i x) ≡ (any_first f i xs || f x)
any_next f xs i x few = ap (λ n. any_first f n (set xs i x)) (add-one i) ∙ any_suc f xs i x few

all_suc : {X : Type 0} (f : X → Bool) (xs : List X) (i : ℕ) (x : X) → i < length xs → all_first f (suc i) (set xs i x) ≡ (all_first f i xs && f x)
all_suc f [] i x few = absurd (omega (arith, few))
all_suc f (y ∷ xs) zero x few = and_nothing (f x)
all_suc f (y ∷ xs) (suc i) x few = ap (λ b. f y && b) (all_suc f xs i x (omega (arith, few))) ∙ and_assoc (f y) (all_first f i xs) (f x)

all_next : {X : Type 0} (f : X → Bool) (xs : List X) (i : ℕ) (x : X) → i < length xs → all_first f (i + 1) (set xs i x) ≡ (all_first f i xs && f x)
all_next f xs i x few = ap (λ n. all_first f n (set xs i x)) (add-one i) ∙ all_suc f xs i x few

-- one part more
pub any_more : {X : Type 0} (to : ℕ) (f : ℕ → X → Bool) (xs : List X) (i : ℕ) (x : X) (a b : Option ℕ) → i < length xs → BoundsFrom to (λ d. any_first (f d) i xs) a → BoundsFrom to (λ d. f d x) b → BoundsFrom to (λ d. any_first (f d) (i + 1) (set xs i x)) (earlier a b)
any_more to f xs i x a b few h k = bound_same to (λ d. any_first (f d) i xs || f d x) (λ d. any_first (f d) (i + 1) (set xs i x)) (earlier a b) (λ d le. any_next (f d) xs i x few) (or_bound to (λ d. any_first (f d) i xs) (λ d. f d x) a b h k)

pub all_more : {X : Type 0} (to : ℕ) (f : ℕ → X → Bool) (xs : List X) (i : ℕ) (x : X) (a b : Option ℕ) → i < length xs → BoundsFrom to (λ d. all_first (f d) i xs) a → BoundsFrom to (λ d. f d x) b → BoundsFrom to (λ d. all_first (f d) (i + 1) (set xs i x)) (later a b)
all_more to f xs i x a b few h k = bound_same to (λ d. all_first (f d) i xs && f d x) (λ d. all_first (f d) (i + 1) (set xs i x)) (later a b) (λ d le. all_next (f d) xs i x few) (and_bound to (λ d. all_first (f d) i xs) (λ d. f d x) a b h k)

-- ---- all of them

any_whole : {X Y : Type 0} (f : Y → Bool) (g : X → Y) (xs : List X) (i : ℕ) → length xs ≤ i → list_any f (map g xs) ≡ any_first (λ x. f (g x)) i xs
any_whole f g [] zero all = refl
any_whole f g [] (suc i) all = refl
any_whole f g (x ∷ xs) zero all = absurd (omega (arith, all))
any_whole f g (x ∷ xs) (suc i) all = ap (λ b. f (g x) || b) (any_whole f g xs i (omega (arith, all)))

all_whole : {X Y : Type 0} (f : Y → Bool) (g : X → Y) (xs : List X) (i : ℕ) → length xs ≤ i → list_all f (map g xs) ≡ all_first (λ x. f (g x)) i xs
all_whole f g [] zero all = refl
all_whole f g [] (suc i) all = refl
all_whole f g (x ∷ xs) zero all = absurd (omega (arith, all))
all_whole f g (x ∷ xs) (suc i) all = ap (λ b. f (g x) && b) (all_whole f g xs i (omega (arith, all)))

pub any_end : {X Y : Type 0} (to : ℕ) (f : Y → Bool) (g : ℕ → X → Y) (xs : List X) (i : ℕ) (bound : Option ℕ) → length xs ≤ i → BoundsFrom to (λ d. any_first (λ x. f (g d x)) i xs) bound → BoundsFrom to (λ d. list_any f (map (g d) xs)) bound
any_end to f g xs i bound all h = bound_same to (λ d. any_first (λ x. f (g d x)) i xs) (λ d. list_any f (map (g d) xs)) bound (λ d le. any_whole f (g d) xs i all) h

pub all_end : {X Y : Type 0} (to : ℕ) (f : Y → Bool) (g : ℕ → X → Y) (xs : List X) (i : ℕ) (bound : Option ℕ) → length xs ≤ i → BoundsFrom to (λ d. all_first (λ x. f (g d x)) i xs) bound → BoundsFrom to (λ d. list_all f (map (g d) xs)) bound
all_end to f g xs i bound all h = bound_same to (λ d. all_first (λ x. f (g d x)) i xs) (λ d. list_all f (map (g d) xs)) bound (λ d le. all_whole f (g d) xs i all) h

-- ---- a test of all parts

pub all_true : {X : Type 0} (f : X → Bool) (xs : List X) (i : ℕ) (x : X) → i < length xs → all_first f i xs ≡ true → f x ≡ true → all_first f (i + 1) (set xs i x) ≡ true
all_true f xs i x few h k = all_next f xs i x few ∙ and_from (all_first f i xs) (f x) h k

pub all_same : {X : Type 0} (f : X → Bool) (xs : List X) (i : ℕ) → length xs ≤ i → list_all f xs ≡ all_first f i xs
all_same f [] zero all = refl
all_same f [] (suc i) all = refl
all_same f (x ∷ xs) zero all = absurd (omega (arith, all))
all_same f (x ∷ xs) (suc i) all = ap (λ b. f x && b) (all_same f xs i (omega (arith, all)))

-- before the first part nothing is asked
pub all_begin : (to : ℕ) → BoundsFrom to (λ d. true) (Some 0)
all_begin to = (λ d le lt. absurd (omega (arith, lt)), λ le. refl)

-- ---- positions

put_some : (p : ℕ) (qs : List ℕ) → has_any (put_position p qs) ≡ true
put_some p [] = refl
put_some p (q ∷ qs) = go (nat_lt p q) (eqb p q)
  where
    go : (a b : Bool) → has_any (if a then p ∷ q ∷ qs else (if b then q ∷ qs else q ∷ put_position p qs)) ≡ true
    go true b = refl
    go false true = refl
    go false false = refl

pub put_any : (ps qs : List ℕ) → has_any (put_all ps qs) ≡ (has_any ps || has_any qs)
put_any [] qs = refl
put_any (p ∷ ps) qs = put_some p (put_all ps qs)
