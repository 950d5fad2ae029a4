-- The pages of a batch, and the store that their commit leaves.
use Rattle.std.proofs.Common.{◌≡◌, inl, inr, ⊎_elim, ℕ, zero, suc, ◌+◌, ◌-◌, ◌^◌, ◌≤◌, ◌<◌, List, [], ◌∷◌, length, get_or, slice_index, refl, sym, ap, subst, ◌∙◌, arith}
use Rattle.std.specs.List.{Contains}
use Rattle.std.specs.List.Sorted.{IsStrictlyIncreasing}
use Rattle.ct_site.specs.Disks.{DiskView, Leaves, leaves_more}
use Rattle.ct_site.specs.Lengths.{Lengthens}
use Rattle.pg_batch.specs.BatchPages.{batch_end}
use Rattle.pg_journal.specs.BatchStates.{numbers_in, image_at as image_in}
use Rattle.pg_journal.specs.Pages.{Numbered, AreBetween, changed}
use Rattle.pg_journal.specs.Recovered.{IsRecovered}
use Rattle.pg_journal.specs.Standing.{DiskStands, IsEither, MayCommit, commit_end, homes_with}
use Rattle.pg_journal.specs.laws.PageRuns.{length-root}
use Rattle.pg_map.specs.Holding.{times}
use Rattle.pg_map.specs.Kinds.{Kind, Free, IsKind}
use Rattle.pg_directory.specs.Looking.{store_pages, DiskHolds}
use Rattle.pg_directory.specs.Trees.{StorePage, bytes_of_page}
use Rattle.pg_directory.specs.Written.{PageWrite, with_free, write_numbers, images_of, store_batch, AreWrites}
use Rattle.pg_directory.specs.laws.Listing.{first_in, later_in}
use Rattle.pg_directory.specs.laws.Written.{batch_may, between_images, length-free, store_written}
use Rattle.pg_plan.specs.Drafts.{Drafted}
use Rattle.pg_change.specs.BatchCommits.{commit_pages, IsBatchEnd, IsEitherStore, MayWrite}
use Rattle.pg_change.specs.DirectoryImages.{AreGood}
use Rattle.pg_change.specs.Next.{HaveKinds, image_at, page_writes, next_pages}
use Rattle.pg_change.specs.laws.BatchCommits.{commit_count, numbers_of_images, homes_said, commit_end_is}
use Rattle.pg_change.specs.laws.Next.{some_counted, numbers_written, image_good, next_count, next_good}

-- ---- the numbers and the images of the batch

module _ (now : List Kind) (directory : List PageWrite) (numbers : List ℕ) (top : ℕ) where
  pub batch_numbers : 2 ∷ numbers ≡ numbers_in (commit_pages now directory numbers top)
  batch_numbers = ap (λ (l : List ℕ). 2 ∷ l) (sym (numbers_written now directory numbers) ∙ numbers_of_images (page_writes now directory numbers))

image_behind : (now : List Kind) (directory : List PageWrite) (numbers : List ℕ) (i n : ℕ) → i < length (images_of (page_writes now directory numbers)) → n ≡ get_or numbers i 0
    → image_in i (images_of (page_writes now directory numbers)) ≡ bytes_of_page (image_at now directory n)
image_behind now directory [] i n less is = absurd (omega (arith, less))
image_behind now directory (m ∷ ns) zero n less is = ap (λ (k : ℕ). bytes_of_page (image_at now directory k)) (sym is)
image_behind now directory (m ∷ ns) (suc i) n less is = image_behind now directory ns i n (omega (arith, less)) is

-- the image behind the root, at an index
pub image_there : (now : List Kind) (directory : List PageWrite) (numbers : List ℕ) (top index n : ℕ) → (index ≡ 0 → ⊥) → index < length (commit_pages now directory numbers top)
    → n ≡ get_or (2 ∷ numbers) index 0
    → image_in index (commit_pages now directory numbers top) ≡ bytes_of_page (image_at now directory n)
image_there now directory numbers top zero n later less is = absurd (later refl)
image_there now directory numbers top (suc i) n later less is = image_behind now directory numbers i n (omega (arith, less)) is

-- what is between two numbers is there at each index
between_at : (low end : ℕ) (ws : List Numbered) (i n : ℕ) → AreBetween low end ws → i < length ws → n ≡ get_or (numbers_in ws) i 0 → (low ≤ n) × (n < end) × (length (image_in i ws) ≡ 4096)
between_at low end [] i n between less is = absurd (omega (arith, less))
between_at low end (w ∷ ws) zero n between less is = (omega (arith, between.0, is), omega (arith, between.1, is), between.2)
between_at low end (w ∷ ws) (suc i) n between less is = let r = between_at (suc w.0) end ws i n between.3 (omega (arith, less)) is in (omega (arith, r.0, between.0), r.1, r.2)

pub image_within : (now : List Kind) (directory : List PageWrite) (numbers : List ℕ) (top index n : ℕ) → AreBetween 2 (3 + length now) (commit_pages now directory numbers top)
    → HaveKinds now numbers → (index ≡ 0 → ⊥) → index < length (commit_pages now directory numbers top) → n ≡ get_or (2 ∷ numbers) index 0 → MayWrite now directory n
image_within now directory numbers top zero n between kinds later less is = absurd (later refl)
image_within now directory numbers top (suc i) n between kinds later less is =
    let there = subst (λ (l : List ℕ). n ≡ get_or l (suc i) 0) (batch_numbers now directory numbers top) is in
    let r = between_at 3 (3 + length now) (images_of (page_writes now directory numbers)) i n between.3 (omega (arith, less)) there in
    record {
      low = r.0;
      less = r.1;
      long = ap (λ (l : List ℕ). length l) (sym (image_behind now directory numbers i n (omega (arith, less)) is)) ∙ r.2;
      kind = kind_in numbers i kinds (let c = commit_count now directory numbers top in omega (arith, less, c)) is;
    }
  where
    kind_in : (ns : List ℕ) (i : ℕ) → HaveKinds now ns → i < length ns → n ≡ get_or ns i 0 → IsKind (get_or now (n - 3) Free)
    kind_in [] i kinds less is = absurd (omega (arith, less))
    kind_in (k ∷ ns) zero kinds less is = subst (λ (j : ℕ). IsKind (get_or now (j - 3) Free)) (sym is) kinds.0
    kind_in (k ∷ ns) (suc i) kinds less is = kind_in ns i kinds.1 (omega (arith, less)) is

-- ---- a batch of numbers that rise

writes_rise : (now : List Kind) (directory : List PageWrite) (numbers : List ℕ) → HaveKinds now numbers → AreGood directory → IsStrictlyIncreasing numbers
    → ((n : ℕ) → Contains numbers n → (3 ≤ n) × (n < 3 + length now))
    → AreWrites 3 (3 + length now) (page_writes now directory numbers)
writes_rise now directory [] kinds good rise within = tt
writes_rise now directory (n ∷ ns) kinds good rise within = from 3 n ns kinds (within n (first_in n ns)).0 rise within
  where
    from : (low n : ℕ) (ns : List ℕ) → HaveKinds now (n ∷ ns) → low ≤ n → IsStrictlyIncreasing (n ∷ ns) → ((m : ℕ) → Contains (n ∷ ns) m → (3 ≤ m) × (m < 3 + length now))
        → AreWrites low (3 + length now) (page_writes now directory (n ∷ ns))
    from low n [] kinds least rise within = let w = within n (first_in n []) in (least, omega (arith, w.1), image_good now directory n kinds.0 good, tt)
    from low n (m ∷ ns) kinds least rise within =
        let w = within n (first_in n (m ∷ ns)) in
        let up = rise 0 (omega arith) in (
          least,
          omega (arith, w.1),
          image_good now directory n kinds.0 good,
          from (suc n) m ns kinds.1 (omega (arith, up))
              (λ k less. let e : suc k + 1 ≡ suc (k + 1) = omega arith in subst (λ (j : ℕ). slice_index (m ∷ ns) k < slice_index (n ∷ m ∷ ns) j) e (rise (suc k) (omega (arith, less))))
              (λ k has. within k (later_in n k (m ∷ ns) has)),
        )

-- The end of a batch, whose commit is asked for over so many home pages.
module _ (d : Drafted) (directory : List PageWrite) (numbers : List ℕ) (homes top : ℕ) (end : IsBatchEnd d directory numbers homes) (grown : length d.before.kinds ≤ length d.now) where
  are_writes : AreWrites 3 (3 + length d.now) (page_writes d.now directory numbers)
  are_writes = writes_rise d.now directory numbers end.kinds end.good end.touched.rise end.touched.within

  pub batch_between : AreBetween 2 (3 + length d.now) (commit_pages d.now directory numbers top)
  batch_between = (omega arith, omega arith, length-root (3 + length d.now) top, between_images 3 (3 + length d.now) (page_writes d.now directory numbers) are_writes)

  new_written : (i : ℕ) → homes ≤ i → i < 3 + length d.now → 1 ≤ times i (write_numbers (page_writes d.now directory numbers))
  new_written i low less =
      let before = end.before in
      let e : (i - 3) + 3 ≡ i = omega (arith, low, before) in
      let has = subst (λ (k : ℕ). Contains numbers k) e (end.touched.new (i - 3) (omega (arith, low, before)) (omega (arith, low, before, less))) in
      subst (λ (ns : List ℕ). 1 ≤ times i ns) (sym (numbers_written d.now directory numbers)) (some_counted i numbers has)

  pub may_commit : top < 2 ^ 32 → MayCommit homes (commit_pages d.now directory numbers top)
  may_commit fits =
      let before = end.before in
      batch_may homes (3 + length d.now) top (page_writes d.now directory numbers) (omega (arith, before)) (omega (arith, before, grown)) end.count fits
      (between_images 3 (3 + length d.now) (page_writes d.now directory numbers) are_writes) new_written

  pub homes_now : homes_with homes (commit_pages d.now directory numbers top) ≡ 3 + length d.now
  homes_now = homes_said d.now directory numbers top homes end.count

  pub batch_within : (old new : DiskView) → Lengthens (commit_end homes (commit_pages d.now directory numbers top)) old new → Lengthens (batch_end (3 + length d.now) (length numbers)) old new
  batch_within old new lengthens =
      let before = end.before in
      subst (λ (n : ℕ). Lengthens n old new) (commit_end_is d.now directory numbers top homes (omega (arith, before, grown)) end.count) lengthens

  module _ (disk : DiskView) (top_old : ℕ) (pages : List StorePage) (held : DiskHolds disk homes top_old pages) where
    fewer : length pages ≤ length d.now
    fewer =
        let before = end.before in
        omega (arith, held.count, before, grown)

    long : length (with_free (length d.now - length pages) pages) ≡ length d.now
    long = omega (arith, length-free (length d.now - length pages) pages, fewer)

    abbrev next : List StorePage
    next = next_pages pages d.now directory numbers

    is_changed : changed (commit_pages d.now directory numbers top) (store_pages top_old pages) ≡ store_pages top next
    is_changed =
        ap (λ (n : ℕ). changed (store_batch (3 + n) top (page_writes d.now directory numbers)) (store_pages top_old pages)) (sym long)
        ∙ store_written top_old top (length d.now - length pages) pages (page_writes d.now directory numbers)
        (subst (λ (n : ℕ). AreWrites 3 (3 + n) (page_writes d.now directory numbers)) (sym long) are_writes)
        (λ i low high. let c = held.count in new_written i (omega (arith, low, c)) (omega (arith, high, long)))
        (let c = end.count in omega (arith, long, c))

    pub batch_leaves : (new : DiskView) → ((store : List (List ℕ)) → DiskStands disk homes store → Leaves disk new (IsEither store (commit_pages d.now directory numbers top)))
        → Leaves disk new (IsEitherStore top_old pages top next)
    batch_leaves new leaves = leaves_more disk new _ _ (leaves (store_pages top_old pages) held.stands) (λ image left. ⊎_elim
        (λ old. inl old)
        (λ after. inr (subst (λ (store : List (List ℕ)). IsRecovered image store) is_changed after))
        left)

    pub batch_holds : (new : DiskView) (now : ℕ) → now ≡ 3 + length d.now
        → ((store : List (List ℕ)) → DiskStands disk homes store → DiskStands new now (changed (commit_pages d.now directory numbers top) store)) → DiskHolds new now top next
    batch_holds new now is stands = record {
      stands = subst (λ (store : List (List ℕ)). DiskStands new now store) is_changed (stands (store_pages top_old pages) held.stands);
      are = next_good pages d.now directory numbers held.are end.kinds end.good;
      count = is ∙ ap (λ (n : ℕ). 3 + n) (sym (next_count pages d.now directory numbers fewer));
    }
