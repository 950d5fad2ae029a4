-- A set of characters stays rising.
use Rattle.std.proofs.Common.{◌≡◌, ◌≢◌, ◌+◌, ℕ, Bool, true, false, cond, List, [], ◌∷◌, refl, ap, ◌∙◌, arith, add-one}
use Rattle.std.specs.Prelude.{◌==◌, nat_lt}
use Rattle.std.specs.Bool.{if◌then◌else◌}
use Rattle.std.specs.List.{insert}
use Rattle.std.proofs.lemmas.Bool.{or_parts, and_parts, and_from, eqb-false, ltb-false, lt-ltb}
use Rattle.tx_lexer.specs.CharSets.{has, place_of, above, rises}

-- c before the first that isn't less
abbrev put : ℕ → List ℕ → List ℕ
put c [] = c ∷ []
put c (d ∷ ds) = if nat_lt d c then d ∷ put c ds else c ∷ d ∷ ds

put-step : (b : Bool) (c d : ℕ) (ds : List ℕ) → insert ds (place_of c ds) c ≡ put c ds → insert (d ∷ ds) (cond b (place_of c ds + 1) 0) c ≡ cond b (d ∷ put c ds) (c ∷ d ∷ ds)
put-step true c d ds same = ap (λ i. insert (d ∷ ds) i c) (add-one (place_of c ds)) ∙ ap (λ (l : List ℕ). d ∷ l) same
put-step false c d ds same = refl

put-is : (c : ℕ) (ds : List ℕ) → insert ds (place_of c ds) c ≡ put c ds
put-is c [] = refl
put-is c (d ∷ ds) = put-step (nat_lt d c) c d ds (put-is c ds)

above-step : (b : Bool) (low c d : ℕ) (ds : List ℕ) → nat_lt d c ≡ b → nat_lt low c ≡ true → (d == c) ≡ false → (nat_lt low d ≡ true) × (above d ds ≡ true) → (nat_lt d c ≡ true → above d (put c ds) ≡ true)
    → above low (cond b (d ∷ put c ds) (c ∷ d ∷ ds)) ≡ true
above-step true low c d ds less more other parts later = and_from _ _ parts.0 (later less)
above-step false low c d ds less more other parts later =
    let behind = ltb-false d c less in let ne : d ≢ c = eqb-false d c other in
    and_from _ _ more (and_from _ _ (lt-ltb c d (omega (arith, behind, ne))) parts.1)

put-above : (low c : ℕ) (ds : List ℕ) → above low ds ≡ true → nat_lt low c ≡ true → has ds c ≡ false → above low (put c ds) ≡ true
put-above low c [] h more none = and_from _ _ more refl
put-above low c (d ∷ ds) h more none =
    let parts = and_parts (nat_lt low d) (above d ds) h in
    let others = or_parts (d == c) (has ds c) none in
    above-step (nat_lt d c) low c d ds refl more others.0 parts (λ less. put-above d c ds parts.1 less others.1)

rises-step : (b : Bool) (c d : ℕ) (ds : List ℕ) → nat_lt d c ≡ b → (d == c) ≡ false → above d ds ≡ true → (nat_lt d c ≡ true → above d (put c ds) ≡ true) → rises (cond b (d ∷ put c ds) (c ∷ d ∷ ds)) ≡ true
rises-step true c d ds less other h later = later less
rises-step false c d ds less other h later = let behind = ltb-false d c less in let ne : d ≢ c = eqb-false d c other in and_from _ _ (lt-ltb c d (omega (arith, behind, ne))) h

put-rises : (c : ℕ) (ds : List ℕ) → rises ds ≡ true → has ds c ≡ false → rises (put c ds) ≡ true
put-rises c [] h none = refl
put-rises c (d ∷ ds) h none = let others = or_parts (d == c) (has ds c) none in rises-step (nat_lt d c) c d ds refl others.0 h (λ less. put-above d c ds h less others.1)

pub insert_rises : (c : ℕ) (ds : List ℕ) → rises ds ≡ true → has ds c ≡ false → rises (insert ds (place_of c ds) c) ≡ true
insert_rises c ds h none = ap rises (put-is c ds) ∙ put-rises c ds h none
