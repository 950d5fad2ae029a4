-- The pages that an image recovers to: those from the root on, after a batch whose gate is open was put on them.
use Rattle.std.specs.Prelude.{◌≡◌, ◌≢◌, ℕ, ◌+◌, ◌-◌, ◌*◌, ◌/◌, ◌≤◌, ◌<◌, ◌⊎◌, List, [], ◌∷◌, ◌++◌, zero, suc, length, take, drop, codes, refl}
use Rattle.std.specs.Int.{to_be_bytes, w32}
use Rattle.pg_journal.specs.Pages.{page, byte, number_in, Numbered, put_on, AreBetween, homes_in, root_page, IsRoot, homes_of}
use Rattle.ct_base.specs.Zeros.{zeros}

-- ---- birth

-- An image that is no store yet: at most one byte, or at most three pages that begin with 0.
abbrev pub IsUnborn : List ℕ → Type 0
IsUnborn image = (length image ≤ 1) ⊎ ((byte image 0 ≡ 0) × (length image ≤ 12288))

-- what stands behind the first byte of page 0
unfoldable pub mark : List ℕ
mark = codes "CTXSTORE" ++ zeros 4087

-- An image that was born: it is not unborn, has the mark, and has three whole pages.
pub record IsStore (image : List ℕ) : Type 0 where
  pub born : (1 < length image) × ((byte image 0 ≢ 0) ⊎ (12288 < length image))
  pub mark : take 4095 (drop 1 image) ≡ mark
  pub whole : 12288 ≤ length image

-- ---- the gate and the batch, of which page 1 tells

abbrev pub gate : List ℕ → ℕ
gate image = byte image 4096

-- the page at which the batch begins, and how many pages it has
abbrev pub batch_page : List ℕ → ℕ
batch_page image = number_in image 4104

abbrev pub batch_count : List ℕ → ℕ
batch_count image = number_in image 4108

abbrev pub numbers_bytes : List Numbered → List ℕ
numbers_bytes [] = []
numbers_bytes (w ∷ ws) = to_be_bytes w32 w.0 ++ numbers_bytes ws

abbrev pub images_bytes : List Numbered → List ℕ
images_bytes [] = []
images_bytes (w ∷ ws) = w.1 ++ images_bytes ws

-- how many pages the numbers of a batch take
abbrev pub number_pages : ℕ → ℕ
number_pages count = (count + 1023) / 1024

-- how many zeros fill so many numbers to whole pages, of 1024 numbers each
abbrev pub filling : ℕ → ℕ
filling count = 4096 * number_pages count - 4 * count

-- the bytes of a batch: its numbers, filled with zeros to whole pages, and then its images
abbrev pub batch_bytes : List Numbered → List ℕ
batch_bytes ws = numbers_bytes ws ++ (zeros (filling (length ws)) ++ images_bytes ws)

-- the first of n things, from the one numbered i on
abbrev pub table : (ℕ → Numbered) → ℕ → ℕ → List Numbered
table f i zero = []
table f i (suc n) = f i ∷ table f (suc i) n

-- a number of the batch, of four bytes, and its page: the numbers come first, then the pages
abbrev pub numbered_at : List ℕ → ℕ → Numbered
numbered_at image i = (number_in image (4096 * batch_page image + 4 * i), page image (batch_page image + number_pages (batch_count image) + i))

abbrev pub batch_in : List ℕ → List Numbered
batch_in image = table (numbered_at image) 0 (batch_count image)

-- The gate is open, and page 1 tells of a batch that may stand there.
pub record IsOpen (image : List ℕ) : Type 0 where
  pub gate : gate image ≡ 1
  pub some : 1 ≤ batch_count image
  pub inside : 4096 * (batch_page image + number_pages (batch_count image) + batch_count image) ≤ length image
  pub numbers : AreBetween 2 (batch_page image) (batch_in image)
  pub filling : take (filling (batch_count image)) (drop (4096 * batch_page image + 4 * batch_count image) image) ≡ zeros (filling (batch_count image))

-- ---- the recovered pages

pub record IsClosed (image : List ℕ) (pages : List (List ℕ)) : Type 0 where
  pub gate : gate image ≢ 1
  pub root : IsRoot (page image 2)
  pub inside : 4096 * homes_in (page image 2) ≤ length image
  pub are : pages ≡ homes_of (page image)

-- with the pages of the batch in place of those of the image
pub record IsOpened (image : List ℕ) (pages : List (List ℕ)) : Type 0 where
  pub is_open : IsOpen image
  pub root : IsRoot (put_on (batch_in image) (page image) 2)
  pub inside : homes_in (put_on (batch_in image) (page image) 2) ≤ batch_page image
  pub are : pages ≡ homes_of (put_on (batch_in image) (page image))

-- the pages of a store that was just born: a root alone
abbrev pub first_pages : List (List ℕ)
first_pages = root_page 3 0 ∷ []

-- An image recovers to these pages. An unborn one has those that birth would give it.
abbrev pub IsRecovered : List ℕ → List (List ℕ) → Type 0
IsRecovered image pages = (IsUnborn image × (pages ≡ first_pages)) ⊎ (IsStore image × (IsClosed image pages ⊎ IsOpened image pages))

-- Two images recover to the same, or both to nothing.
pub record Alike (image other : List ℕ) : Type 0 where
  pub onward : (pages : List (List ℕ)) → IsRecovered image pages → IsRecovered other pages
  pub back : (pages : List (List ℕ)) → IsRecovered other pages → IsRecovered image pages

-- ---- which files loading writes

-- Where the image is a store, its gate isn't open: no batch is under way.
abbrev pub HasNoOpenGate : List ℕ → Type 0
HasNoOpenGate image = IsStore image → gate image ≢ 1

-- Loading only reads it: it isn't a file that birth makes a store, and no batch is under way.
pub record IsOnlyRead (image : List ℕ) : Type 0 where
  pub born : IsUnborn image → ⊥
  pub shut : HasNoOpenGate image

-- ---- computed examples: one number is filled to a page, and so are 1024; 1025 take two pages
fill_one : filling 1 ≡ 4092
fill_one = refl

fill_page : filling 1024 ≡ 0
fill_page = refl

fill_two : filling 1025 ≡ 4092
fill_two = refl

empty_is_unborn : IsUnborn []
empty_is_unborn = Rattle.std.proofs.Common.inl (omega Rattle.std.proofs.Common.arith)

-- a file of two letters, which is no store
letters_are_read : IsOnlyRead (codes "no")
letters_are_read = record {
  born = λ unborn. Rattle.std.proofs.Common.⊎_elim (λ short. omega (Rattle.std.proofs.Common.arith, short)) (λ zero_first. omega (Rattle.std.proofs.Common.arith, zero_first.0)) unborn;
  shut = λ store. omega (Rattle.std.proofs.Common.arith, store.whole);
}
