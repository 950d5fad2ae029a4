-- Laws of the commit of a batch: its numbers, and where it ends.
use Rattle.std.proofs.Common.{◌≡◌, ℕ, suc, ◌+◌, ◌*◌, ◌^◌, ◌≤◌, max, List, [], ◌∷◌, length, refl, ap, ◌∙◌, arith}
use Rattle.std.proofs.lemmas.List.{length-map}
use Rattle.pg_batch.specs.BatchPages.{batch_end}
use Rattle.pg_journal.specs.BatchStates.{numbers_in}
use Rattle.pg_journal.specs.Pages.{Numbered, AreBetween}
use Rattle.pg_journal.specs.Recovered.{number_pages}
use Rattle.pg_journal.specs.Standing.{commit_end, homes_with}
use Rattle.pg_journal.specs.laws.PageRuns.{root_homes}
use Rattle.pg_map.specs.Kinds.{Kind}
use Rattle.pg_directory.specs.Trees.{bytes_of_page}
use Rattle.pg_directory.specs.Written.{PageWrite, write_numbers, images_of}
use Rattle.pg_change.specs.BatchCommits.{commit_pages}
use Rattle.pg_change.specs.Next.{image_at, page_writes}

pub numbers_of_images : (ws : List PageWrite) → write_numbers ws ≡ numbers_in (images_of ws)
numbers_of_images [] = refl
numbers_of_images (w ∷ ws) = ap (λ (l : List ℕ). w.0 ∷ l) (numbers_of_images ws)

pub between_wider : (low end more : ℕ) (ws : List Numbered) → end ≤ more → AreBetween low end ws → AreBetween low more ws
between_wider low end more [] le between = tt
between_wider low end more (w ∷ ws) le between = (between.0, omega (arith, between.1, le), between.2, between_wider (suc w.0) end more ws le between.3)

module _ (now : List Kind) (directory : List PageWrite) (numbers : List ℕ) (top : ℕ) where
  pub commit_count : length (commit_pages now directory numbers top) ≡ 1 + length numbers
  commit_count =
      let images = length-map (page_writes now directory numbers) (λ (w : PageWrite). let b : Numbered = (w.0, bytes_of_page w.1) in b) in
      let writes = length-map numbers (λ (n : ℕ). let w : PageWrite = (n, image_at now directory n) in w) in
      omega (arith, images, writes)

  pub homes_said : (homes : ℕ) → 3 + length now ≤ 2 ^ 31 → homes_with homes (commit_pages now directory numbers top) ≡ 3 + length now
  homes_said homes small = root_homes (3 + length now) top (omega (arith, small))

  -- the home pages then, the pages of numbers, and those that are written with the root
  pub commit_end_is : (homes : ℕ) → homes ≤ 3 + length now → 3 + length now ≤ 2 ^ 31 → commit_end homes (commit_pages now directory numbers top) ≡ batch_end (3 + length now) (length numbers)
  commit_end_is homes more small =
      let greater : max homes (homes_with homes (commit_pages now directory numbers top)) ≡ 3 + length now = omega (arith, homes_said homes small, more) in
      ap (λ (h : ℕ). 4096 * (h + number_pages (length (commit_pages now directory numbers top)) + length (commit_pages now directory numbers top))) greater
      ∙ ap (λ (n : ℕ). 4096 * (3 + length now + number_pages n + n)) commit_count
