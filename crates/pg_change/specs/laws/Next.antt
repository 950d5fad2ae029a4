-- The pages of a store after a batch, one by one.
use Rattle.std.specs.Prelude.{Bool, true, false, cond}
use Rattle.std.proofs.Common.{◌≡◌, ◌≢◌, ⊎_elim, ℕ, suc, ◌+◌, ◌-◌, ◌==◌, ◌≤◌, ◌<◌, List, [], ◌∷◌, length, get_or, refl, sym, ap, subst, ◌∙◌, arith}
use Rattle.std.specs.List.{Contains}
use Rattle.std.proofs.lemmas.Bool.{eq-eqb, eqb-true, false≢true, cases_lt}
use Rattle.pg_map.specs.Holding.{times}
use Rattle.pg_map.specs.Kinds.{Each, Kind, Free, IsKind}
use Rattle.pg_map.specs.laws.Loose.{times_here, times_more, times_other}
use Rattle.pg_directory.specs.Trees.{StorePage, Plain, IsPage, page_at}
use Rattle.pg_directory.specs.Written.{PageWrite, write_over, with_writes, with_free, write_numbers}
use Rattle.pg_directory.specs.laws.Listing.{none_in, in_more, first_in, later_in}
use Rattle.pg_directory.specs.laws.Written.{length-writes, length-free, page_written, page_kept, page_as_free, each_free}
use Rattle.pg_change.specs.DirectoryImages.{AreGood, AreSameWrites}
use Rattle.pg_change.specs.Next.{HaveKinds, image_at, page_writes, next_pages}
use Rattle.pg_change.specs.laws.DirectoryImages.{each_is_good}

-- ---- how often a number is counted among some

pub some_counted : (i : ℕ) (ns : List ℕ) → Contains ns i → 1 ≤ times i ns
some_counted i [] has = absurd (none_in i has)
some_counted i (n ∷ ns) has = ⊎_elim
    (λ is. let e = subst (λ (k : ℕ). times i (k ∷ ns) ≡ 1 + times i ns) (sym is) (times_here i ns) in omega (arith, e))
    (λ later. let r = some_counted i ns later in let m = times_more i n ns in omega (arith, r, m))
    (in_more n i ns has)

pub counted_in : (i : ℕ) (ns : List ℕ) → 1 ≤ times i ns → Contains ns i
counted_in i [] some = absurd (omega (arith, some))
counted_in i (n ∷ ns) some = of (n == i) (eqb-true n i) (λ e is. false≢true (sym e ∙ eq-eqb n i is)) (counted_in i ns)
  where
    of : (b : Bool) → (b ≡ true → n ≡ i) → (b ≡ false → n ≢ i) → (1 ≤ times i ns → Contains ns i) → Contains (n ∷ ns) i
    of true yes_ no_ rest = subst (λ (k : ℕ). Contains (n ∷ ns) k) (yes_ refl) (first_in n ns)
    of false yes_ no_ rest = later_in n i ns (rest (omega (arith, some, times_other i n ns (no_ refl))))

-- ---- what is written

pub numbers_written : (now : List Kind) (directory : List PageWrite) (numbers : List ℕ) → write_numbers (page_writes now directory numbers) ≡ numbers
numbers_written now directory [] = refl
numbers_written now directory (n ∷ ns) = ap (λ (l : List ℕ). n ∷ l) (numbers_written now directory ns)

over_image : (now : List Kind) (directory : List PageWrite) (numbers : List ℕ) (i : ℕ) (p : StorePage) → Contains numbers i
    → write_over (page_writes now directory numbers) i p ≡ image_at now directory i
over_image now directory [] i p has = absurd (none_in i has)
over_image now directory (n ∷ ns) i p has = of (n == i) (eqb-true n i) (λ e is. false≢true (sym e ∙ eq-eqb n i is)) (over_image now directory ns i p)
  where
    rest : StorePage
    rest = write_over (page_writes now directory ns) i p

    of : (b : Bool) → (b ≡ true → n ≡ i) → (b ≡ false → n ≢ i) → (Contains ns i → rest ≡ image_at now directory i) → cond b (image_at now directory n) rest ≡ image_at now directory i
    of true yes_ no_ again = ap (image_at now directory) (yes_ refl)
    of false yes_ no_ again = again (⊎_elim (λ is. absurd (no_ refl is)) (λ later. later) (in_more n i ns has))

pub image_good : (now : List Kind) (directory : List PageWrite) (n : ℕ) → IsKind (get_or now (n - 3) Free) → AreGood directory → IsPage (image_at now directory n)
image_good now directory n kind good = good.good n (Plain (get_or now (n - 3) Free)) kind

writes_good : (now : List Kind) (directory : List PageWrite) (numbers : List ℕ) → HaveKinds now numbers → AreGood directory → Each (λ (w : PageWrite). IsPage w.1) (page_writes now directory numbers)
writes_good now directory [] kinds good = tt
writes_good now directory (n ∷ ns) kinds good = (image_good now directory n kinds.0 good, writes_good now directory ns kinds.1 good)

-- the same images of the directory's pages
writes_same : (now : List Kind) (vs ws : List PageWrite) (numbers : List ℕ) → AreSameWrites vs ws → page_writes now vs numbers ≡ page_writes now ws numbers
writes_same now vs ws [] are = refl
writes_same now vs ws (n ∷ ns) are =
    ap (λ (p : StorePage). let w : PageWrite = (n, p) in w ∷ page_writes now vs ns) (are.same n (Plain (get_or now (n - 3) Free)))
    ∙ ap (λ (l : List PageWrite). let w : PageWrite = (n, image_at now ws n) in w ∷ l) (writes_same now vs ws ns are)

pub next_same : (pages : List StorePage) (now : List Kind) (vs ws : List PageWrite) (numbers : List ℕ) → AreSameWrites vs ws → next_pages pages now vs numbers ≡ next_pages pages now ws numbers
next_same pages now vs ws numbers are = ap (λ (l : List PageWrite). with_writes l 3 (with_free (length now - length pages) pages)) (writes_same now vs ws numbers are)

-- ---- the pages then

grown_count : (pages : List StorePage) (now : List Kind) → length pages ≤ length now → length (with_free (length now - length pages) pages) ≡ length now
grown_count pages now grown = omega (arith, length-free (length now - length pages) pages, grown)

pub next_count : (pages : List StorePage) (now : List Kind) (directory : List PageWrite) (numbers : List ℕ) → length pages ≤ length now → length (next_pages pages now directory numbers) ≡ length now
next_count pages now directory numbers grown = length-writes (page_writes now directory numbers) 3 (with_free (length now - length pages) pages) ∙ grown_count pages now grown

-- under each of the numbers stands what is written there
pub next_written : (pages : List StorePage) (now : List Kind) (directory : List PageWrite) (numbers : List ℕ) (i : ℕ) → length pages ≤ length now → 3 ≤ i → i < 3 + length now → Contains numbers i
    → page_at (next_pages pages now directory numbers) i ≡ image_at now directory i
next_written pages now directory numbers i grown low less has =
    let all = with_free (length now - length pages) pages in
    page_written (page_writes now directory numbers) all i low (omega (arith, less, grown_count pages now grown)) ∙ over_image now directory numbers i (page_at all i) has

-- and under each other one what stood there
pub next_kept : (pages : List StorePage) (now : List Kind) (directory : List PageWrite) (numbers : List ℕ) (i : ℕ) → 3 ≤ i → (Contains numbers i → ⊥)
    → page_at (next_pages pages now directory numbers) i ≡ page_at pages i
next_kept pages now directory numbers i low no_ =
    let none : times i (write_numbers (page_writes now directory numbers)) ≡ 0 = ⊎_elim
    (λ less. omega (arith, less, ap (times i) (numbers_written now directory numbers)))
    (λ some. absurd (no_ (counted_in i numbers some)))
    (cases_lt (times i numbers) 1) in
    page_kept (page_writes now directory numbers) (with_free (length now - length pages) pages) i low none ∙ page_as_free (length now - length pages) pages i

pub next_good : (pages : List StorePage) (now : List Kind) (directory : List PageWrite) (numbers : List ℕ) → Each IsPage pages → HaveKinds now numbers → AreGood directory
    → Each IsPage (next_pages pages now directory numbers)
next_good pages now directory numbers each kinds good = from 3 (with_free (length now - length pages) pages) (each_free (length now - length pages) pages each)
  where
    are : AreGood (page_writes now directory numbers)
    are = each_is_good (page_writes now directory numbers) (writes_good now directory numbers kinds good)

    from : (i : ℕ) (ps : List StorePage) → Each IsPage ps → Each IsPage (with_writes (page_writes now directory numbers) i ps)
    from i [] all = tt
    from i (p ∷ ps) all = (are.good i p all.0, from (suc i) ps all.1)
