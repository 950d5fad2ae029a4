-- Runs of pages, and the page of roots: how long it is, and how many pages it says that there are.
use Rattle.std.proofs.Common.{◌≡◌, ℕ, zero, suc, ◌+◌, ◌≤◌, ◌<◌, ◌^◌, List, ◌∷◌, ◌++◌, length, length-append, refl, ap, ◌∙◌, arith}
use Rattle.std.specs.Int.{to_be_bytes, w32}
use Rattle.std.proofs.lemmas.Nat.{from_be_bytes-to_be_bytes_4}
use Rattle.ct_base.specs.Zeros.{zeros}
use Rattle.ct_base.specs.laws.Zeros.{length-zeros}
use Rattle.pg_journal.specs.Pages.{homes_in, top_in, root_page, pages_from}

-- pages that are the same one by one are the same run
pub pages_same : (f g : ℕ → List ℕ) (i n : ℕ) → ((k : ℕ) → i ≤ k → k < i + n → f k ≡ g k) → pages_from f i n ≡ pages_from g i n
pages_same f g i zero same = refl
pages_same f g i (suc n) same =
    ap (λ (l : List ℕ). l ∷ pages_from f (suc i) n) (same i (omega arith) (omega arith))
    ∙ ap (λ (l : List (List ℕ)). g i ∷ l) (pages_same f g (suc i) n (λ k least less. same k (omega (arith, least)) (omega (arith, less))))

pub length-root : (homes top : ℕ) → length (root_page homes top) ≡ 4096
unfolding root_page
length-root homes top = omega (arith, length-append (to_be_bytes w32 homes) (to_be_bytes w32 top ++ zeros 4084), length-append (to_be_bytes w32 top) (zeros 4084), length-zeros 4084)

-- the page of roots that is written for so many pages tells so many
pub root_homes : (n top : ℕ) → n < 2 ^ 32 → homes_in (root_page n top) ≡ n
unfolding root_page
root_homes n top small = from_be_bytes-to_be_bytes_4 n small

-- and names the page at the top of the directory that is written
pub root_top : (n top : ℕ) → top < 2 ^ 32 → top_in (root_page n top) ≡ top
unfolding root_page
root_top n top small = from_be_bytes-to_be_bytes_4 top small
