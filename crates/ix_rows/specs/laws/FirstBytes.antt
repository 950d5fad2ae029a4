-- The order of keys by their numbers where these differ, and of short keys by their lengths where they don't.
use Rattle.std.proofs.Common.{◌≡◌, ℕ, zero, suc, ◌+◌, ◌*◌, ◌^◌, ◌<◌, ◌≤◌, List, [], ◌∷◌, length, refl, ap, ◌∙◌, arith}
use Rattle.std.specs.declared.cmp.Ordering.{Ordering}
use Rattle.std.specs.declared.cmp.Ordering.TheVariants.{Less, Equal, Greater}
use Rattle.std.specs.Ordering.{nat_cmp, ordering_reverse, ordering_then, MatchOrdering}
use Rattle.std.specs.Cmp.{nat_cmp_is}
use Rattle.std.specs.Cmp.Lexicographic.{slice_cmp}
use Rattle.std.proofs.lemmas.Cmp.{nat_list_cmp_total, ranked}
use Rattle.std.proofs.Math.Nat.{mul-le-mul_left, mul_comm, pow-succ'}
use Rattle.ix_rows.specs.FirstBytes.{AreBytes, first_number, key_number}

-- a greater first byte counts for more than all bytes behind it
more : (a b m r : ℕ) → a < b → r < m → a * m + r < b * m
more a b m r less small =
    let product : m * suc a ≤ m * b = mul-le-mul_left m less in
    omega (arith, product, mul_comm a m, mul_comm b m, mul_comm m (suc a), small)

-- the number of `n` bytes
number_bound : (n : ℕ) (bs : List ℕ) → AreBytes bs → first_number n bs < 256 ^ n
number_bound zero bs bytes = omega arith
number_bound (suc n) [] bytes =
    let rest = number_bound n [] bytes in
    omega (arith, pow-succ' 256 n)
number_bound (suc n) (b ∷ bs) bytes =
    let rest = number_bound n bs (λ i. bytes (suc i)) in
    let sum = more b 256 (256 ^ n) (first_number n bs) (bytes 0) rest in
    omega (arith, sum, pow-succ' 256 n)

first_less : (n : ℕ) (xs ys : List ℕ) → AreBytes xs → AreBytes ys → first_number n xs < first_number n ys → slice_cmp nat_cmp xs ys ≡ Less
first_less zero xs ys some others less = absurd (omega (arith, less))
first_less (suc n) [] [] some others less = absurd (omega (arith, less))
first_less (suc n) [] (y ∷ ys) some others less = refl
first_less (suc n) (x ∷ xs) [] some others less = absurd (omega (arith, less))
first_less (suc n) (x ∷ xs) (y ∷ ys) some others less =
    go (nat_cmp x y) (ranked x y (nat_cmp x y) refl) (first_less n xs ys (λ i. some (suc i)) (λ i. others (suc i)))
  where
    go : (o : Ordering) → MatchOrdering o (x < y) (x ≡ y) (y < x) → (first_number n xs < first_number n ys → slice_cmp nat_cmp xs ys ≡ Less) → ordering_then o (slice_cmp nat_cmp xs ys) ≡ Less
    go Less is rest = refl
    go Equal is rest = rest (omega (arith, ap (λ k. k * 256 ^ n) is, less))
    go Greater is rest =
        let back = more y x (256 ^ n) (first_number n ys) is (number_bound n ys (λ i. others (suc i))) in
        absurd (omega (arith, back, less))

-- one element more in each list
longer_both : (a b : ℕ) → nat_cmp a b ≡ nat_cmp (suc a) (suc b)
longer_both a b = nat_cmp_is (suc a) (suc b) (nat_cmp a b) (go (nat_cmp a b) (ranked a b (nat_cmp a b) refl))
  where
    go : (o : Ordering) → MatchOrdering o (a < b) (a ≡ b) (b < a) → MatchOrdering o (suc a < suc b) (suc a ≡ suc b) (suc b < suc a)
    go Less is = omega (arith, is)
    go Equal is = ap suc is
    go Greater is = omega (arith, is)

first_same : (n : ℕ) (xs ys : List ℕ) → AreBytes xs → AreBytes ys → length xs ≤ n → length ys ≤ n → first_number n xs ≡ first_number n ys
    → slice_cmp nat_cmp xs ys ≡ nat_cmp (length xs) (length ys)
first_same n [] [] some others short few same = refl
first_same n [] (y ∷ ys) some others short few same = nat_cmp_is 0 (suc (length ys)) Less (omega arith)
first_same n (x ∷ xs) [] some others short few same = nat_cmp_is (suc (length xs)) 0 Greater (omega arith)
first_same zero (x ∷ xs) (y ∷ ys) some others short few same = absurd (omega (arith, short))
first_same (suc n) (x ∷ xs) (y ∷ ys) some others short few same =
    go (nat_cmp x y) (ranked x y (nat_cmp x y) refl) (first_same n xs ys (λ i. some (suc i)) (λ i. others (suc i)) (omega (arith, short)) (omega (arith, few)))
  where
    go : (o : Ordering) → MatchOrdering o (x < y) (x ≡ y) (y < x) → (first_number n xs ≡ first_number n ys → slice_cmp nat_cmp xs ys ≡ nat_cmp (length xs) (length ys))
        → ordering_then o (slice_cmp nat_cmp xs ys) ≡ nat_cmp (suc (length xs)) (suc (length ys))
    go Less is rest = absurd (omega (arith, more x y (256 ^ n) (first_number n xs) is (number_bound n xs (λ i. some (suc i))), same))
    go Equal is rest = rest (omega (arith, ap (λ k. k * 256 ^ n) is, same)) ∙ longer_both (length xs) (length ys)
    go Greater is rest = absurd (omega (arith, more y x (256 ^ n) (first_number n ys) is (number_bound n ys (λ i. others (suc i))), same))

-- THE ORDER of keys by their numbers
pub number_less : (xs ys : List ℕ) → AreBytes xs → AreBytes ys → key_number xs < key_number ys → slice_cmp nat_cmp xs ys ≡ Less
number_less xs ys some others less = first_less 8 xs ys some others less

pub number_greater : (xs ys : List ℕ) → AreBytes xs → AreBytes ys → key_number ys < key_number xs → slice_cmp nat_cmp xs ys ≡ Greater
number_greater xs ys some others less = nat_list_cmp_total.antisymm xs ys ∙ ap ordering_reverse (number_less ys xs others some less)

-- and of keys of at most eight bytes that have the same number
pub number_same : (xs ys : List ℕ) → AreBytes xs → AreBytes ys → length xs ≤ 8 → length ys ≤ 8 → key_number xs ≡ key_number ys → slice_cmp nat_cmp xs ys ≡ nat_cmp (length xs) (length ys)
number_same xs ys some others short few same = first_same 8 xs ys some others short few same
