-- Keys one behind the other.
use Rattle.std.proofs.Common.{◌≡◌, ℕ, ◌≤◌, List, [], ◌∷◌, ◌++◌, length, take, drop, ap, ◌∙◌, arith}
use Rattle.std.specs.Prelude.{sum}
use Rattle.std.proofs.lemmas.List.{take-append-le, drop-append-le, length-drop, nil_from_length}
use Rattle.std.proofs.Math.Seq.{take-length}
use Rattle.std.proofs.lemmas.List.Sums.{sum_by-cons}
use Rattle.ct_keep.specs.KeyLists.{cut_keys}

first_le : (n : ℕ) (ns bytes : List ℕ) → length bytes ≡ sum (n ∷ ns) → n ≤ length bytes
first_le n ns bytes long = omega (arith, long, sum_by-cons (λ (x : ℕ). x) n ns)

rest_long : (n : ℕ) (ns bytes : List ℕ) → length bytes ≡ sum (n ∷ ns) → length (drop n bytes) ≡ sum ns
rest_long n ns bytes long = omega (arith, length-drop n bytes, long, sum_by-cons (λ (x : ℕ). x) n ns)

-- a key more
pub keys_push : (ns bytes key : List ℕ) → length bytes ≡ sum ns → cut_keys (ns ++ length key ∷ []) (bytes ++ key) ≡ cut_keys ns bytes ++ key ∷ []
keys_push [] bytes key long = ap (λ (bs : List ℕ). take (length key) (bs ++ key) ∷ []) (nil_from_length bytes long) ∙ ap (λ (k : List ℕ). k ∷ []) (take-length key)
keys_push (n ∷ ns) bytes key long =
    let le = first_le n ns bytes long in
    ap (λ (k : List ℕ). k ∷ cut_keys (ns ++ length key ∷ []) (drop n (bytes ++ key))) (take-append-le n bytes key le)
    ∙ ap (λ (rest : List ℕ). take n bytes ∷ cut_keys (ns ++ length key ∷ []) rest) (drop-append-le n bytes key le)
    ∙ ap (λ (ks : List (List ℕ)). take n bytes ∷ ks) (keys_push ns (drop n bytes) key (rest_long n ns bytes long))
