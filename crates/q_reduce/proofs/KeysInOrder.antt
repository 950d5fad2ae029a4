-- Keys that are put into rising ones, the last of them first.
use Rattle.std.proofs.Common.{◌≡◌, ℕ, List, [], ◌∷◌, ◌++◌, refl, ap}
use Rattle.tx_stop.specs.StopKeys.{with_key}
use Rattle.q_reduce.specs.Reducing.{in_order}

abbrev pub put_all : List (List ℕ) → List (List ℕ) → List (List ℕ)
put_all [] sorted = sorted
put_all (key ∷ keys) sorted = with_key key (put_all keys sorted)

pub put_last : (keys : List (List ℕ)) (key : List ℕ) (sorted : List (List ℕ)) → put_all (keys ++ key ∷ []) sorted ≡ put_all keys (with_key key sorted)
put_last [] key sorted = refl
put_last (k ∷ keys) key sorted = ap (with_key k) (put_last keys key sorted)

pub put_all_is : (keys : List (List ℕ)) → put_all keys [] ≡ in_order keys
put_all_is [] = refl
put_all_is (key ∷ keys) = ap (with_key key) (put_all_is keys)
