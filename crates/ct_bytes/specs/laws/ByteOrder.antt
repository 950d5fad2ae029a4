-- The order of lists of bytes, and of the bytes of numbers.
use Rattle.std.proofs.Common.{◌≡◌, ℕ, zero, suc, ◌<◌, ◌/◌, ◌%◌, ◌^◌, List, [], ◌∷◌, ◌++◌, length, refl, sym, ap, inl, inr, ◌∙◌, arith, length-append}
use Rattle.std.specs.declared.cmp.Ordering.{Ordering}
use Rattle.std.specs.declared.cmp.Ordering.TheVariants.{Less, Equal, Greater}
use Rattle.std.specs.Ordering.{nat_cmp, ordering_then}
use Rattle.std.specs.Cmp.Lexicographic.{slice_cmp}
use Rattle.std.specs.Int.{to_be_bytes, w16, w32, w64}
use Rattle.std.proofs.lemmas.Bool.{cases_order, lt-ltb, le-ltb, eq-eqb, ne_eqb}

-- what a comparison answers, in each of the three cases
pub nat_cmp_less : (m n : ℕ) → m < n → nat_cmp m n ≡ Less
nat_cmp_less m n h = rw (lt-ltb m n h) refl

pub nat_cmp_equal : (m n : ℕ) → m ≡ n → nat_cmp m n ≡ Equal
nat_cmp_equal m n h = rw (le-ltb m n (omega arith), eq-eqb m n h) refl

pub nat_cmp_greater : (m n : ℕ) → n < m → nat_cmp m n ≡ Greater
nat_cmp_greater m n h = rw (le-ltb m n (omega arith), ne_eqb m n (λ e. omega arith)) refl

-- two pairs that are in one order compare alike
pub compare_alike : (a b m n : ℕ) → (a < b → m < n) → (a ≡ b → m ≡ n) → (b < a → n < m) → nat_cmp m n ≡ nat_cmp a b
compare_alike a b m n less same greater = elim (cases_order a b) [
  | inl h ↦ nat_cmp_equal m n (same h) ∙ sym (nat_cmp_equal a b h)
  | inr h ↦ elim h [
    | inl h ↦ nat_cmp_less m n (less h) ∙ sym (nat_cmp_less a b h)
    | inr h ↦ nat_cmp_greater m n (greater h) ∙ sym (nat_cmp_greater a b h)
  ]
]

-- ---- lists

then_equal : (o : Ordering) → ordering_then o Equal ≡ o
then_equal Less = refl
then_equal Equal = refl
then_equal Greater = refl

assoc_then : (o p q : Ordering) → ordering_then (ordering_then o p) q ≡ ordering_then o (ordering_then p q)
assoc_then Less p q = refl
assoc_then Equal p q = refl
assoc_then Greater p q = refl

-- prefixes of one length decide, and then what follows them
pub slice_cmp_parts : (xs ys r s : List ℕ) → length xs ≡ length ys → slice_cmp nat_cmp (xs ++ r) (ys ++ s) ≡ ordering_then (slice_cmp nat_cmp xs ys) (slice_cmp nat_cmp r s)
slice_cmp_parts [] [] r s l = refl
slice_cmp_parts [] (y ∷ ys) r s l = absurd (omega arith)
slice_cmp_parts (x ∷ xs) [] r s l = absurd (omega arith)
slice_cmp_parts (x ∷ xs) (y ∷ ys) r s l =
    ap (ordering_then (nat_cmp x y)) (slice_cmp_parts xs ys r s (omega arith)) ∙ sym (assoc_then (nat_cmp x y) (slice_cmp nat_cmp xs ys) (slice_cmp nat_cmp r s))

-- ---- the bytes of numbers, the highest first

-- a number as cells of 8 bits, of which `more` stand after the first; the first is left whole
cells : ℕ → ℕ → List ℕ
cells zero n = n ∷ []
cells (suc more) n = cells more (n / 256) ++ (n % 256) ∷ []

length-cells : (more n : ℕ) → length (cells more n) ≡ suc more
unfolding cells
length-cells zero n = refl
length-cells (suc more) n = length-append (cells more (n / 256)) ((n % 256) ∷ []) ∙ (let e = length-cells more (n / 256) in omega arith)

split_cmp : (m n : ℕ) → ordering_then (nat_cmp (m / 256) (n / 256)) (nat_cmp (m % 256) (n % 256)) ≡ nat_cmp m n
split_cmp m n = elim (cases_order (m / 256) (n / 256)) [
  | inl h ↦
      ap (λ (o : Ordering). ordering_then o (nat_cmp (m % 256) (n % 256))) (nat_cmp_equal (m / 256) (n / 256) h) ∙
      sym (compare_alike (m % 256) (n % 256) m n (λ low. omega arith) (λ low. omega arith) (λ low. omega arith))
  | inr h ↦ elim h [
    | inl h ↦ ap (λ (o : Ordering). ordering_then o (nat_cmp (m % 256) (n % 256))) (nat_cmp_less (m / 256) (n / 256) h) ∙ sym (nat_cmp_less m n (omega arith))
    | inr h ↦ ap (λ (o : Ordering). ordering_then o (nat_cmp (m % 256) (n % 256))) (nat_cmp_greater (m / 256) (n / 256) h) ∙ sym (nat_cmp_greater m n (omega arith))
  ]
]

cells_in_order : (more m n : ℕ) → slice_cmp nat_cmp (cells more m) (cells more n) ≡ nat_cmp m n
unfolding cells
cells_in_order zero m n = then_equal (nat_cmp m n)
cells_in_order (suc more) m n =
    slice_cmp_parts (cells more (m / 256)) (cells more (n / 256)) ((m % 256) ∷ []) ((n % 256) ∷ []) (length-cells more (m / 256) ∙ sym (length-cells more (n / 256))) ∙
    ap (ordering_then (slice_cmp nat_cmp (cells more (m / 256)) (cells more (n / 256)))) (then_equal (nat_cmp (m % 256) (n % 256))) ∙
    ap (λ (o : Ordering). ordering_then o (nat_cmp (m % 256) (n % 256))) (cells_in_order more (m / 256) (n / 256)) ∙ split_cmp m n

-- numbers whose bytes are these cells
in_order : (more m n : ℕ) (xs ys : List ℕ) → cells more m ≡ xs → cells more n ≡ ys → slice_cmp nat_cmp xs ys ≡ nat_cmp m n
in_order more m n xs ys p q =
    ap (λ (x : List ℕ). slice_cmp nat_cmp x ys) (sym p) ∙ ap (λ (x : List ℕ). slice_cmp nat_cmp (cells more m) x) (sym q) ∙ cells_in_order more m n

two : (a b a' b' : ℕ) → a ≡ a' → b ≡ b' → a ∷ b ∷ [] ≡ a' ∷ b' ∷ []
two a b a' b' p q = cc

two_cells : (n : ℕ) → n < 2 ^ 16 → cells 1 n ≡ to_be_bytes w16 n
unfolding cells
two_cells n fits = two _ _ _ _ (omega arith) refl

pub two_bytes_in_order : (m n : ℕ) → m < 2 ^ 16 → n < 2 ^ 16 → slice_cmp nat_cmp (to_be_bytes w16 m) (to_be_bytes w16 n) ≡ nat_cmp m n
two_bytes_in_order m n f g = in_order 1 m n _ _ (two_cells m f) (two_cells n g)

four : (a b c d a' b' c' d' : ℕ) → a ≡ a' → b ≡ b' → c ≡ c' → d ≡ d' → a ∷ b ∷ c ∷ d ∷ [] ≡ a' ∷ b' ∷ c' ∷ d' ∷ []
four a b c d a' b' c' d' p q r s = cc

four_cells : (n : ℕ) → n < 2 ^ 32 → cells 3 n ≡ to_be_bytes w32 n
unfolding cells
four_cells n fits = four _ _ _ _ _ _ _ _ (omega arith) (omega arith) (omega arith) refl

pub four_bytes_in_order : (m n : ℕ) → m < 2 ^ 32 → n < 2 ^ 32 → slice_cmp nat_cmp (to_be_bytes w32 m) (to_be_bytes w32 n) ≡ nat_cmp m n
four_bytes_in_order m n f g = in_order 3 m n _ _ (four_cells m f) (four_cells n g)

eight : (a b c d e f g h a' b' c' d' e' f' g' h' : ℕ) → a ≡ a' → b ≡ b' → c ≡ c' → d ≡ d' → e ≡ e' → f ≡ f' → g ≡ g' → h ≡ h' → a ∷ b ∷ c ∷ d ∷ e ∷ f ∷ g ∷ h ∷ [] ≡ a' ∷ b' ∷ c' ∷ d' ∷ e' ∷ f' ∷ g' ∷ h' ∷ []
eight a b c d e f g h a' b' c' d' e' f' g' h' pa pb pc pd pe pf pg ph = cc

eight_cells : (n : ℕ) → n < 2 ^ 64 → cells 7 n ≡ to_be_bytes w64 n
unfolding cells
eight_cells n fits = eight _ _ _ _ _ _ _ _ _ _ _ _ _ _ _ _ (omega arith) (omega arith) (omega arith) (omega arith) (omega arith) (omega arith) (omega arith) refl

pub eight_bytes_in_order : (m n : ℕ) → m < 2 ^ 64 → n < 2 ^ 64 → slice_cmp nat_cmp (to_be_bytes w64 m) (to_be_bytes w64 n) ≡ nat_cmp m n
eight_bytes_in_order m n f g = in_order 7 m n _ _ (eight_cells m f) (eight_cells n g)
