-- What is chosen of each operand.
use Rattle.std.proofs.Common.{◌≡◌, ◌⊎◌, inl, inr, Bool, true, List, [], ◌∷◌, ◌++◌, map, refl, sym, ap, subst, ◌∙◌}
use Rattle.std.specs.List.{flat_map, list_any, list_all}
use Rattle.std.proofs.lemmas.Bool.{and_parts, and_from, or_cases, or_left, or_right}
use Rattle.ct_base.specs.declared.numbers.Pair.{Pair}
use Rattle.ix_spans.specs.Occurrences.{choices}

-- ---- some of a list, each of a list

abbrev pub Within : {X : Type 0} → X → List X → Type 0
Within x [] = ⊥
Within x (y ∷ ys) = (x ≡ y) ⊎ Within x ys

pub any_of : {X : Type 0} (f : X → Bool) (xs : List X) → list_any f xs ≡ true → (x : X) × Within x xs × (f x ≡ true)
any_of f [] h = cc
any_of {X} f (x ∷ xs) h = go (any_of f xs) (or_cases (f x) (list_any f xs) h)
  where
    go : (list_any f xs ≡ true → (y : X) × Within y xs × (f y ≡ true)) → (f x ≡ true) ⊎ (list_any f xs ≡ true) → (y : X) × Within y (x ∷ xs) × (f y ≡ true)
    go rest (inl k) = (x, inl refl, k)
    go rest (inr k) = let r = rest k in (r.0, inr r.1, r.2)

pub any_by : {X : Type 0} (f : X → Bool) (xs : List X) (x : X) → Within x xs → f x ≡ true → list_any f xs ≡ true
any_by f [] x w h = absurd w
any_by f (y ∷ ys) x (inl e) h = or_left (f y) (list_any f ys) (ap f (sym e) ∙ h)
any_by f (y ∷ ys) x (inr w) h = or_right (f y) (list_any f ys) (any_by f ys x w h)

pub all_of : {X : Type 0} (f : X → Bool) (xs : List X) (x : X) → list_all f xs ≡ true → Within x xs → f x ≡ true
all_of f [] x h w = absurd w
all_of f (y ∷ ys) x h (inl e) = ap f e ∙ (and_parts (f y) (list_all f ys) h).0
all_of f (y ∷ ys) x h (inr w) = all_of f ys x (and_parts (f y) (list_all f ys) h).1 w

pub all_by : {X : Type 0} (f : X → Bool) (xs : List X) → ((x : X) → Within x xs → f x ≡ true) → list_all f xs ≡ true
all_by f [] h = refl
all_by f (x ∷ xs) h = and_from (f x) (list_all f xs) (h x (inl refl)) (all_by f xs (λ y w. h y (inr w)))

-- ---- a choice has one occurrence of each operand

abbrev pub Picks : List (List Pair) → List Pair → Type 0
Picks [] [] = Unit {0}
Picks [] (p ∷ c) = ⊥
Picks (o ∷ os) [] = ⊥
Picks (o ∷ os) (p ∷ c) = Within p o × Picks os c

within_map : (p : Pair) (cs : List (List Pair)) (c : List Pair) → Within c (map (λ d. p ∷ d) cs) → (d : List Pair) × Within d cs × (c ≡ p ∷ d)
within_map p [] c w = absurd w
within_map p (d ∷ cs) c (inl e) = (d, inl refl, e)
within_map p (d ∷ cs) c (inr w) = let r = within_map p cs c w in (r.0, inr r.1, r.2)

map_within : (p : Pair) (cs : List (List Pair)) (c : List Pair) → Within c cs → Within (p ∷ c) (map (λ d. p ∷ d) cs)
map_within p [] c w = absurd w
map_within p (d ∷ cs) c (inl e) = inl (ap (λ x. p ∷ x) e)
map_within p (d ∷ cs) c (inr w) = inr (map_within p cs c w)

within_append : {X : Type 0} (x : X) (xs ys : List X) → Within x (xs ++ ys) → Within x xs ⊎ Within x ys
within_append x [] ys w = inr w
within_append x (z ∷ xs) ys (inl e) = inl (inl e)
within_append x (z ∷ xs) ys (inr w) = go (within_append x xs ys w)
  where
    go : Within x xs ⊎ Within x ys → Within x (z ∷ xs) ⊎ Within x ys
    go (inl v) = inl (inr v)
    go (inr v) = inr v

append_left : {X : Type 0} (x : X) (xs ys : List X) → Within x xs → Within x (xs ++ ys)
append_left x [] ys w = absurd w
append_left x (z ∷ xs) ys (inl e) = inl e
append_left x (z ∷ xs) ys (inr w) = inr (append_left x xs ys w)

append_right : {X : Type 0} (x : X) (xs ys : List X) → Within x ys → Within x (xs ++ ys)
append_right x [] ys w = w
append_right x (z ∷ xs) ys w = inr (append_right x xs ys w)

choice_of : (cs : List (List Pair)) (ps : List Pair) (c : List Pair) → Within c (flat_map (λ p. map (λ d. p ∷ d) cs) ps) → (p : Pair) × (d : List Pair) × Within p ps × Within d cs × (c ≡ p ∷ d)
choice_of cs [] c w = absurd w
choice_of cs (p ∷ ps) c w = go (choice_of cs ps c) (within_append c (map (λ d. p ∷ d) cs) (flat_map (λ q. map (λ d. q ∷ d) cs) ps) w)
  where
    go : (Within c (flat_map (λ q. map (λ d. q ∷ d) cs) ps) → (q : Pair) × (d : List Pair) × Within q ps × Within d cs × (c ≡ q ∷ d)) → Within c (map (λ d. p ∷ d) cs) ⊎ Within c (flat_map (λ q. map (λ d. q ∷ d) cs) ps) → (q : Pair) × (d : List Pair) × Within q (p ∷ ps) × Within d cs × (c ≡ q ∷ d)
    go rest (inl v) = let r = within_map p cs c v in (p, r.0, inl refl, r.1, r.2)
    go rest (inr v) = let r = rest v in (r.0, r.1, inr r.2, r.3, r.4)

of_choice : (cs : List (List Pair)) (ps : List Pair) (p : Pair) (d : List Pair) → Within p ps → Within d cs → Within (p ∷ d) (flat_map (λ q. map (λ e. q ∷ e) cs) ps)
of_choice cs [] p d w v = absurd w
of_choice cs (q ∷ ps) p d (inl e) v = append_left (p ∷ d) (map (λ f. q ∷ f) cs) (flat_map (λ r. map (λ f. r ∷ f) cs) ps) (subst (λ (r : Pair). Within (p ∷ d) (map (λ f. r ∷ f) cs)) e (map_within p cs d v))
of_choice cs (q ∷ ps) p d (inr w) v = append_right (p ∷ d) (map (λ f. q ∷ f) cs) (flat_map (λ r. map (λ f. r ∷ f) cs) ps) (of_choice cs ps p d w v)

pub choice_picks : (os : List (List Pair)) (c : List Pair) → Within c (choices os) → Picks os c
choice_picks [] c (inl e) = subst (Picks []) (sym e) tt
choice_picks [] c (inr w) = absurd w
choice_picks (o ∷ os) c w = let r = choice_of (choices os) o c w in subst (Picks (o ∷ os)) (sym r.4) (r.2, choice_picks os r.1 r.3)

pub pick_choice : (os : List (List Pair)) (c : List Pair) → Picks os c → Within c (choices os)
pick_choice [] [] h = inl refl
pick_choice [] (p ∷ c) h = absurd h
pick_choice (o ∷ os) [] h = absurd h
pick_choice (o ∷ os) (p ∷ c) h = of_choice (choices os) o p c h.0 (pick_choice os c h.1)
