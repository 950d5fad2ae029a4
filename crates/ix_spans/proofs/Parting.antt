-- A list that is parted in two by a test.
use Rattle.std.proofs.Common.{◌≡◌, ℕ, zero, suc, ◌≤◌, ◌<◌, Bool, true, false, List, [], ◌∷◌, length, get_or, take, drop, refl, ap, arith}
use Rattle.std.specs.List.{filter}

-- from a place on all pass a test, and before it none does
pub back_is : {X : Type 0} (t : X → Bool) (ps : List X) (i : ℕ) → i ≤ length ps → ((k : ℕ) (d : X) → k < i → t (get_or ps k d) ≡ false) → ((k : ℕ) (d : X) → i ≤ k → k < length ps → t (get_or ps k d) ≡ true) → drop i ps ≡ filter t ps
back_is t [] zero within front back = refl
back_is t [] (suc i) within front back = absurd (omega (arith, within))
back_is t (p ∷ ps) zero within front back =
    let here : t p ≡ true = back 0 p (omega arith) (omega arith) in
    rw here (ap (λ l. p ∷ l) (back_is t ps zero (omega arith) (λ k d h. absurd (omega (arith, h))) (λ k d h w. back (suc k) d (omega arith) (omega (arith, w)))))
back_is t (p ∷ ps) (suc i) within front back =
    let here : t p ≡ false = front 0 p (omega arith) in
    rw here (back_is t ps i (omega (arith, within)) (λ k d h. front (suc k) d (omega (arith, h))) (λ k d h w. back (suc k) d (omega (arith, h)) (omega (arith, w))))

-- before a place all pass a test, and from it on none does
pub front_is : {X : Type 0} (t : X → Bool) (ps : List X) (i : ℕ) → i ≤ length ps → ((k : ℕ) (d : X) → k < i → t (get_or ps k d) ≡ true) → ((k : ℕ) (d : X) → i ≤ k → k < length ps → t (get_or ps k d) ≡ false) → take i ps ≡ filter t ps
front_is t [] zero within front back = refl
front_is t [] (suc i) within front back = absurd (omega (arith, within))
front_is t (p ∷ ps) zero within front back =
    let here : t p ≡ false = back 0 p (omega arith) (omega arith) in
    rw here (front_is t ps zero (omega arith) (λ k d h. absurd (omega (arith, h))) (λ k d h w. back (suc k) d (omega arith) (omega (arith, w))))
front_is t (p ∷ ps) (suc i) within front back =
    let here : t p ≡ true = front 0 p (omega arith) in
    rw here (ap (λ l. p ∷ l) (front_is t ps i (omega (arith, within)) (λ k d h. front (suc k) d (omega (arith, h))) (λ k d h w. back (suc k) d (omega (arith, h)) (omega (arith, w)))))
