-- How a batch over the parts of a heap ends within its bound.
use Rattle.std.proofs.Common.{◌≤◌, inl, inr, ⊎_elim, ℕ, ◌+◌, ◌*◌, List, length, Option, ap, ◌∙◌, arith}
use Rattle.ct_site.specs.Disks.{DiskView, IsSame}
use Rattle.ct_site.specs.Lengths.{Lengthens}
use Rattle.ct_site.specs.laws.Lengths.{grows_more, grows_same}
use Rattle.ct_keep.specs.Content.{Content, Change}
use Rattle.ct_keep.specs.Counting.{PrefixCounts}
use Rattle.pg_batch.specs.BatchPages.{batch_end}
use Rattle.pg_batch.specs.ByKey.{AreByKey}
use Rattle.pg_batch.specs.RoughPages.{rough_pages}
use Rattle.pg_directory.specs.declared.directories.Directory.{Directory}
use Rattle.pg_directory.specs.declared.entries.EntryAt.{EntryAt}
use Rattle.pg_plan.specs.Drafts.{Drafted}
use Rattle.pg_plan.specs.FreePlaces.{ListsFree}
use Rattle.pg_plan.specs.Touched.{AreTouched}
use Rattle.pg_change.specs.Planning.{most_pages, HasFewPages}
use Rattle.pg_change.specs.laws.Lengths.{most_by_homes, rough_end}
use Rattle.pg_heap.specs.Batching.{IsBatchBegun}
use Rattle.pg_heap.specs.BatchLengths.{EndsWithin}

module _ {disk : DiskView} {homes top : ℕ} {old : Directory} {ws : List Change} {os : List (Option EntryAt)} {places : List ℕ} {d : Drafted} {counts : PrefixCounts} (b : IsBatchBegun disk homes top old ws os places d counts)
    (free : List ℕ) (listed : ListsFree d.now free) where
  -- where the disk was only read
  pub ends_same : (new : DiskView) → IsSame disk new → EndsWithin homes free ws b.held disk new
  ends_same new same = inr (grows_same _ disk new same.image)

  -- where there were no numbers for so many pages
  pub ends_many : (new : DiskView) → 2147483645 ≤ most_pages d.now homes ws → EndsWithin homes free ws b.held disk new
  ends_many new many =
      let now = ap (λ ks. length ks) b.begun.now ∙ b.begun.window.shows.count in
      let count = b.holds.count in
      let most = most_by_homes d.now homes ws free (omega (arith, now, count)) listed in
      inl (omega (arith, many, most))

  -- where the pages of a plan were committed
  pub ends_committed : (mid new : DiskView) (done : Drafted) (numbers : List ℕ) → IsSame disk mid → HasFewPages d done homes ws places → AreTouched done numbers → Lengthens (batch_end (3 + length done.now) (length numbers)) mid new
      → EndsWithin homes free ws b.held disk new
  ends_committed mid new done numbers same few touched lengthens =
      let within = rough_end b.pages b.held b.part ws places d done numbers homes b.holds.count b.store.layout b.begun few touched in
      let grown = grows_more _ (4096 * (8 * (homes + rough_pages ws b.held))) mid new within lengthens in
      inr (record { bounds = λ image x told given. grown.bounds image x (same.image ∙ told) given })

-- where the disk was only read
pub ends_read : (homes : ℕ) (free : List ℕ) (ws : List Change) (m : Content) (old new : DiskView) → IsSame old new → EndsWithin homes free ws m old new
ends_read homes free ws m old new same = inr (grows_same _ old new same.image)

-- where the disk was only read before, and the changes are those of a batch by their keys
pub ends_by_key : (homes : ℕ) (free : List ℕ) (batch ws : List Change) (m : Content) (old mid new : DiskView) → AreByKey batch ws → IsSame old mid → EndsWithin homes free ws m mid new → EndsWithin homes free batch m old new
ends_by_key homes free batch ws m old mid new by same ends = ⊎_elim
    (λ many. inl (let put = by.put in let few = by.few in omega (arith, many, put, few)))
    (λ grows.
    let grown = grows_more _ (4096 * (8 * (homes + rough_pages batch m))) mid new (let r = by.rough m in omega (arith, r)) grows in
    inr (record { bounds = λ image x told given. grown.bounds image x (same.image ∙ told) given }))
    ends
