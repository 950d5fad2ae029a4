-- An image as pages of 4096 bytes, and what a batch of pages makes of them.
use Rattle.std.specs.Prelude.{◌≡◌, ℕ, ◌-◌, ◌*◌, ◌^◌, ◌≤◌, ◌==◌, ◌⊎◌, List, [], ◌∷◌, ◌++◌, zero, suc, length, take, drop, get_or, codes, nat_lt, refl}
use Rattle.std.specs.Bool.{if◌then◌else◌}
use Rattle.std.specs.Int.{to_be_bytes, from_be_bytes, w32}
use Rattle.ct_base.specs.Zeros.{zeros}

-- the bytes of the page of a number; fewer than 4096 where the image ends in it
abbrev pub page : List ℕ → ℕ → List ℕ
page image i = take 4096 (drop (4096 * i) image)

abbrev pub byte : List ℕ → ℕ → ℕ
byte image at = get_or image at 0

-- the number that four bytes spell, the highest first
abbrev pub number_in : List ℕ → ℕ → ℕ
number_in image at = from_be_bytes w32 (take 4 (drop at image))

-- ---- a batch: pages by their numbers

-- a page's number, and its bytes
abbrev pub Numbered : Type 0
Numbered = ℕ × List ℕ

-- the pages, with this one in place of what stood under its number
abbrev pub with_page : Numbered → (ℕ → List ℕ) → ℕ → List ℕ
with_page w pages i = if w.0 == i then w.1 else pages i

-- the pages after a batch was put on them
abbrev pub put_on : List Numbered → (ℕ → List ℕ) → ℕ → List ℕ
put_on [] pages = pages
put_on (w ∷ ws) pages = put_on ws (with_page w pages)

-- the batch has a page of this number
abbrev pub Has : List Numbered → ℕ → Type 0
Has [] i = ⊥
Has (w ∷ ws) i = (w.0 ≡ i) ⊎ Has ws i

-- The numbers rise strictly, from `low` on, and lie below `end`; each page has 4096 bytes.
abbrev pub AreBetween : ℕ → ℕ → List Numbered → Type 0
AreBetween low end [] = Unit {0}
AreBetween low end (w ∷ ws) = (low ≤ w.0) × (suc w.0 ≤ end) × (length w.1 ≡ 4096) × AreBetween (suc w.0) end ws

-- ---- the root, page 2, and the home pages

-- how many home pages a root says that there are, page 0 and page 1 counted
abbrev pub homes_in : List ℕ → ℕ
homes_in root = number_in root 4

-- the page of the directory of entries at its top, or 0 where there is no directory
abbrev pub top_in : List ℕ → ℕ
top_in root = number_in root 8

unfoldable pub root_page : ℕ → ℕ → List ℕ
root_page homes top = 4 ∷ 0 ∷ 0 ∷ 0 ∷ (to_be_bytes w32 homes ++ (to_be_bytes w32 top ++ zeros 4084))

pub record IsRoot (root : List ℕ) : Type 0 where
  pub is : root ≡ root_page (homes_in root) (top_in root)
  pub least : 3 ≤ homes_in root
  pub most : homes_in root ≤ 2 ^ 31

abbrev pub pages_from : (ℕ → List ℕ) → ℕ → ℕ → List (List ℕ)
pages_from pages i zero = []
pages_from pages i (suc n) = pages i ∷ pages_from pages (suc i) n

-- the pages from the root on, as many as the root says
abbrev pub homes_of : (ℕ → List ℕ) → List (List ℕ)
homes_of pages = pages_from pages 2 (homes_in (pages 2) - 2)

-- the page of a number, of pages from the root on
abbrev pub home : List (List ℕ) → ℕ → List ℕ
home pages i = get_or pages (i - 2) []

-- What a batch makes of such pages. Where it has a root, that root says how many there are then.
abbrev pub changed : List Numbered → List (List ℕ) → List (List ℕ)
changed batch pages = homes_of (put_on batch (home pages))

-- ---- computed examples
root_of_three : homes_in (root_page 3 0) ≡ 3
unfolding root_page
root_of_three = refl

top_of_root : top_in (root_page 5 4) ≡ 4
unfolding root_page
top_of_root = refl

-- one page behind the root comes, and then the page 3 alone is changed
grown : changed ((2, root_page 4 0) ∷ (3, codes "new") ∷ []) (root_page 3 0 ∷ []) ≡ root_page 4 0 ∷ codes "new" ∷ []
unfolding root_page
grown = refl

changed_alone : changed ((3, codes "newer") ∷ []) (root_page 4 0 ∷ codes "new" ∷ []) ≡ root_page 4 0 ∷ codes "newer" ∷ []
unfolding root_page
changed_alone = refl

-- ---- one page more in a batch, in order of the numbers

abbrev pub with_more : Numbered → List Numbered → List Numbered
with_more w [] = w ∷ []
with_more w (v ∷ vs) = if nat_lt v.0 w.0 then v ∷ with_more w vs else w ∷ v ∷ vs

more_behind : with_more (5, codes "b") ((3, codes "a") ∷ (7, codes "c") ∷ []) ≡ (3, codes "a") ∷ (5, codes "b") ∷ (7, codes "c") ∷ []
more_behind = refl
