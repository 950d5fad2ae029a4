-- A text has no more hits than bytes.
use Rattle.std.specs.Prelude.{ℕ, ◌≤◌, ◌+◌, ◌==◌, ◌&&◌, Bool, true, false, List, [], ◌∷◌, length}
use Rattle.std.proofs.Common.{arith, cond}
use Rattle.gen_script.specs.Hits.{begins_with_hit, hit_count, hits_from, one_if_hit}

one_at_most : (b : Bool) → cond b 1 0 ≤ 1
one_at_most true = omega arith
one_at_most false = omega arith

pub few_hits : (begins : Bool) (text : List ℕ) → hits_from begins text ≤ length text
few_hits begins [] = omega arith
few_hits begins (b ∷ bs) =
    let here : one_if_hit begins (b ∷ bs) ≤ 1 = one_at_most (begins && begins_with_hit (b ∷ bs)) in
    let later = few_hits (b == 10) bs in
    omega (arith, here, later)

-- what begins here is one of the hits from here on
pub one_of_them : (begins : Bool) (text : List ℕ) → one_if_hit begins text ≤ hits_from begins text
one_of_them true [] = omega arith
one_of_them false [] = omega arith
one_of_them begins (b ∷ bs) = omega arith
