-- The batch of a directory that was made may be committed.
use Rattle.std.specs.Prelude.{map}
use Rattle.std.proofs.Common.{◌≡◌, ℕ, suc, ◌-◌, ◌^◌, ◌≤◌, ◌<◌, List, [], ◌∷◌, length, sym, subst, ◌∙◌, arith}
use Rattle.pg_journal.specs.Pages.{AreBetween}
use Rattle.pg_journal.specs.Standing.{MayCommit}
use Rattle.pg_map.specs.Kinds.{Each}
use Rattle.pg_map.specs.Holding.{times}
use Rattle.pg_map.specs.laws.Holding.{each-append}
use Rattle.pg_directory.specs.declared.entries.Child.{Child}
use Rattle.pg_directory.specs.declared.entries.EntryAt.{EntryAt}
use Rattle.pg_directory.specs.Building.{Above, child_of, AreOfLevel, LeadUp}
use Rattle.pg_directory.specs.Layering.{all_pages}
use Rattle.pg_directory.specs.Leaves.{LeafAt, leaf_child, AreLeafPages}
use Rattle.pg_directory.specs.Making.{leaf_writes, above_writes, directory_writes, IsMadeOn}
use Rattle.pg_directory.specs.Numbering.{homes_taken, numbers_from, AreRising}
use Rattle.pg_directory.specs.Trees.{bytes_of_page}
use Rattle.pg_directory.specs.Written.{PageWrite, write_numbers, images_of, store_batch}
use Rattle.pg_directory.specs.laws.Making.{numbers_written, writes-append}
use Rattle.pg_directory.specs.laws.Numbering.{taken_rise, new_taken}
use Rattle.pg_directory.specs.laws.Written.{batch_may, length-leaf, length-inner}

-- Each page has 4096 bytes.
abbrev pub AreSized : List PageWrite → Type 0
AreSized ws = Each (λ (w : PageWrite). length (bytes_of_page w.1) ≡ 4096) ws

sized_leaves : (ls : List LeafAt) → AreLeafPages ls → AreSized (leaf_writes ls)
sized_leaves [] are = tt
sized_leaves (l ∷ ls) are = (length-leaf l.entries are.0.1, sized_leaves ls are.1)

sized_level : (level : ℕ) (as_ : List Above) → AreOfLevel level as_ → AreSized (above_writes as_)
sized_level level [] are = tt
sized_level level (a ∷ as_) are = (length-inner a.level a.children are.0.2, sized_level level as_ are.1)

sized_levels : (level : ℕ) (cs : List Child) (levels : List (List Above)) (last : List Child) → LeadUp level cs levels last → AreSized (above_writes (all_pages levels))
sized_levels level cs [] last up = tt
sized_levels level cs (as_ ∷ levels) last (are, names, up) =
    subst AreSized (sym (writes-append as_ (all_pages levels)))
    (each-append (λ (w : PageWrite). length (bytes_of_page w.1) ≡ 4096) (above_writes as_) (above_writes (all_pages levels)) (sized_level (suc level) as_ are) (sized_levels (suc level) (map child_of as_) levels last up))

between_sized : (low end : ℕ) (ws : List PageWrite) → AreRising low end (write_numbers ws) → AreSized ws → AreBetween low end (images_of ws)
between_sized low end [] rise sized = tt
between_sized low end (w ∷ ws) rise sized = (rise.0, rise.1, sized.0, between_sized (suc w.0) end ws rise.2 sized.1)

module _ (homes : ℕ) (free : List ℕ) (places : List EntryAt) (ls : List LeafAt) (as_ : List Above) (inner : List ℕ) (top : Child) (count : ℕ) (on : IsMadeOn homes free places ls as_ inner top count) (least : 3 ≤ homes) (rise : AreRising 0 (homes - 3) free) where
  numbers_are : write_numbers (directory_writes ls as_) ≡ numbers_from free homes count
  numbers_are = numbers_written ls as_ ∙ on.numbers

  pub made_between : AreBetween 3 (homes_taken free homes count) (images_of (directory_writes ls as_))
  made_between =
      between_sized 3 (homes_taken free homes count) (directory_writes ls as_) (subst (AreRising 3 (homes_taken free homes count)) (sym numbers_are) (taken_rise free homes rise least count))
      (each-append (λ (w : PageWrite). length (bytes_of_page w.1) ≡ 4096) (leaf_writes ls) (above_writes as_) (sized_leaves ls on.made.leaves)
      (subst (λ (l : List Above). AreSized (above_writes l)) (sym on.made.pages_are) (sized_levels 0 (map leaf_child ls) on.made.levels (top ∷ []) on.made.are)))

  pub made_may : top.page < 2 ^ 32 → MayCommit homes (store_batch (homes_taken free homes count) top.page (directory_writes ls as_))
  made_may fits = batch_may homes (homes_taken free homes count) top.page (directory_writes ls as_) least (omega arith) on.most fits made_between
      (λ i low high. subst (λ (ns : List ℕ). 1 ≤ times i ns) (sym numbers_are) (new_taken free homes count i low high))
