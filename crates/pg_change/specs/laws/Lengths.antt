-- How long a file is at most behind the commit of a batch: eight times as many pages as there were, and as the rough bound on the batch says.
use Rattle.std.specs.Prelude.{map}
use Rattle.std.proofs.Common.{◌≡◌, ◌≤◌, ℕ, ◌+◌, ◌-◌, ◌*◌, ◌/◌, Bool, true, false, cond, nat_lt, max, List, [], ◌∷◌, length, get_or, Option, Some, None, sym, ap, subst, ◌∙◌, arith}
use Rattle.std.specs.FinMap.{get}
use Rattle.std.proofs.lemmas.Bool.{false≢true}
use Rattle.std.proofs.lemmas.List.{length-map}
use Rattle.ct_site.specs.Disks.{DiskView}
use Rattle.ct_site.specs.Lengths.{Lengthens}
use Rattle.ct_site.specs.laws.Lengths.{grows_more}
use Rattle.ct_keep.specs.Content.{Content, Change, set_to}
use Rattle.pg_journal.specs.Recovered.{number_pages}
use Rattle.pg_map.specs.Done.{IsDone, HasKeyAt}
use Rattle.pg_map.specs.Holding.{IsLayout}
use Rattle.pg_map.specs.Kinds.{Kind}
use Rattle.pg_map.specs.laws.Whole.{whole}
use Rattle.pg_batch.specs.BatchPages.{batch_end, changed_pages, entry_pages, long_pages, put_pages}
use Rattle.pg_batch.specs.ByKey.{AreByKey}
use Rattle.pg_batch.specs.RoughPages.{rough_pages, started}
use Rattle.pg_batch.specs.laws.Costs.{cost_agree, pages_cost}
use Rattle.pg_directory.specs.Trees.{StorePage, kind_of}
use Rattle.pg_window.specs.Windows.{IsWindow, ChangesShown}
use Rattle.pg_window.specs.laws.PageKeys.{held_one, no_key_no_value}
use Rattle.pg_window.specs.laws.Parts.{none_outside}
use Rattle.pg_window.specs.laws.Windows.{all_inside, split_window}
use Rattle.pg_plan.specs.Changes.{StandAt}
use Rattle.pg_plan.specs.Drafts.{Drafted}
use Rattle.pg_plan.specs.FreePlaces.{used_pages, ListsFree}
use Rattle.pg_plan.specs.Touched.{AreTouched}
use Rattle.pg_plan.specs.laws.Freeing.{used_most}
use Rattle.pg_change.specs.Planning.{most_pages, IsBegun, HasFewPages}
use Rattle.pg_change.specs.laws.FreeCounts.{used_and_listed}

-- ---- pages in memory, and the whole store

-- Under a key that stands on no page that is away, the pages in memory have what the store has.
pub part_agrees : (pages : List StorePage) (m : Content) (now : List Kind) (away : List Bool) (part : Content) (key : List ℕ) → IsLayout (map kind_of pages) m → IsWindow pages now away → IsDone now part
    → ((at : ℕ) → HasKeyAt (map kind_of pages) at key → get_or away at false ≡ false) → get part key ≡ get m key
part_agrees pages m now away part key layout w done shown =
    let ks = map kind_of pages in
    let s = split_window pages m now away part layout w (whole now part done.is) in
    let few : length away ≤ length ks = let f = w.shows.flags in let c = length-map pages kind_of in omega (arith, f, c) in
    let out = none_outside key away s.parts (λ at gone. no_key_no_value ks ks s.parts at key s.are s.items s.stand (λ has. false≢true (sym (shown at has) ∙ gone))) in
    held_one (get part key) (get m key) (sym (s.values_inside.are key) ∙ all_inside ks m now away part s few key out)

-- So as many pages of either are changed.
pub changed_of_part : (pages : List StorePage) (m : Content) (now : List Kind) (away : List Bool) (part : Content) (ws : List Change) → IsLayout (map kind_of pages) m → IsWindow pages now away → IsDone now part
    → ChangesShown (map kind_of pages) away ws → changed_pages ws part ≡ changed_pages ws m
changed_of_part pages m now away part ws layout w done shown =
    pages_cost ws part
    ∙ cost_agree entry_pages ws part m (λ c has. part_agrees pages m now away part c.0 layout w done (λ at there. shown.shown c at has there))
    ∙ sym (pages_cost ws m)

-- ---- the rough bound

-- an entry is on one page more than the runs of 1,024 bytes that it begins
entry_rough : (key : List ℕ) (o : Option (List ℕ)) → entry_pages key o ≤ 1 + started key o
entry_rough key None = omega arith
entry_rough key (Some value) = of (nat_lt 4084 (3 + length key + length value)) (length key) (length value)
  where
    of : (far : Bool) (k v : ℕ) → 1 + cond far (long_pages v) 0 ≤ 1 + (k + v + 1023) / 1024
    of true k v = omega arith
    of false k v = omega arith

-- of the 512 of each change one is for the entry that it puts
pub put_rough : (ws : List Change) (m : Content) → put_pages ws + 511 * length ws ≤ rough_pages ws m
put_rough [] m = omega arith
put_rough (w ∷ ws) m = let a = entry_rough w.0 w.1 in let e = put_rough ws (set_to w.0 w.1 m) in omega (arith, a, e)

-- and one for the entry that it finds
pub changed_rough : (ws : List Change) (m : Content) → changed_pages ws m + 510 * length ws ≤ rough_pages ws m
changed_rough [] m = omega arith
changed_rough (w ∷ ws) m = let a = entry_rough w.0 w.1 in let b = entry_rough w.0 (get m w.0) in let e = changed_rough ws (set_to w.0 w.1 m) in omega (arith, a, b, e)

-- Home pages h, so many pages behind the root and numbers then, and changes w; by the rough bound r on these.
end_within : (h l u n k t p c w r : ℕ) → h ≡ 3 + l → u ≤ l → n ≤ max l (u + p) + 2 * h + 1024 * w → k ≤ t → t ≤ c + 3 * h + 2048 * w → p + 511 * w ≤ r → c + 510 * w ≤ r
    → 4096 * (3 + n + number_pages (1 + k) + (1 + k)) ≤ 4096 * (8 * (h + r))
end_within h l u n k t p c w r homes used pages few notes put changed = omega (arith, homes, used, pages, few, notes, put, changed)

-- ---- the end of a batch

module _ (pages : List StorePage) (m part : Content) (ws : List Change) (places : List ℕ) (began done : Drafted) (numbers : List ℕ) (homes : ℕ) (count : homes ≡ 3 + length pages)
    (layout : IsLayout (map kind_of pages) m) (begun : IsBegun pages part ws places began) (few : HasFewPages began done homes ws places) (touched : AreTouched done numbers) where
  -- The commit ends there at the latest.
  pub rough_end : batch_end (3 + length done.now) (length numbers) ≤ 4096 * (8 * (homes + rough_pages ws m))
  rough_end =
      let now : length began.now ≡ length pages = ap (λ (ks : List Kind). length ks) begun.now ∙ begun.window.shows.count in
      let holds : IsDone began.now part = subst (λ (ks : List Kind). IsDone ks part) (sym begun.now) begun.holds in
      let stand = subst (λ (ks : List Kind). StandAt ks ws places) (sym begun.now) begun.stand in
      let notes = few.notes part holds stand in
      let none = ap (λ (l : List ℕ). length l) begun.untouched in
      let changed = changed_of_part pages m began.before.kinds began.before.away part ws layout begun.window begun.holds begun.shown in
      let all : length done.touched ≤ changed_pages ws m + 3 * homes + 2048 * length ws = omega (arith, notes, none, changed) in
      end_within homes (length began.now) (used_pages began.now) (length done.now) (length numbers) (length done.touched) (put_pages ws) (changed_pages ws m) (length ws) (rough_pages ws m) (omega (arith, count, now))
      (used_most began.now) few.pages touched.few all (put_rough ws m) (changed_rough ws m)

  -- By the changes of a batch as it was said.
  pub rough_batch_end : (batch : List Change) → AreByKey batch ws → batch_end (3 + length done.now) (length numbers) ≤ 4096 * (8 * (homes + rough_pages batch m))
  rough_batch_end batch by = let e = rough_end in let r = by.rough m in omega (arith, e, r)

  -- So the file is no longer than it was, or than that bound.
  pub batch_lengthens : (batch : List Change) → AreByKey batch ws → (old new : DiskView) → Lengthens (batch_end (3 + length done.now) (length numbers)) old new → Lengthens (4096 * (8 * (homes + rough_pages batch m))) old new
  batch_lengthens batch by old new lengthens = grows_more _ _ old new (rough_batch_end batch by) lengthens

-- ---- where there are no numbers for so many pages

-- So many pages aren't enough for the changes of a batch by their keys only where they aren't for the batch.
pub most_by_key : (kinds : List Kind) (homes : ℕ) (batch ws : List Change) → AreByKey batch ws → most_pages kinds homes ws ≤ most_pages kinds homes batch
most_by_key kinds homes batch ws by = of (length kinds) (used_pages kinds) homes (put_pages ws) (put_pages batch) (length ws) (length batch) by.put by.few
  where
    of : (n u h p q v w : ℕ) → p ≤ q → v ≤ w → max n (u + p) + 2 * h + 1024 * v ≤ max n (u + q) + 2 * h + 1024 * w
    of n u h p q v w put few = omega (arith, put, few)

-- They are at most these, by the home pages and how many of them are free.
pub most_by_homes : (kinds : List Kind) (homes : ℕ) (ws : List Change) (free : List ℕ) → homes ≡ 3 + length kinds → ListsFree kinds free → 3 + most_pages kinds homes ws ≤ max homes (homes - length free + put_pages ws) + 2 * homes + 1024 * length ws
most_by_homes kinds homes ws free count lists = of (length kinds) (used_pages kinds) (length free) homes (put_pages ws) (length ws) count (used_and_listed kinds free lists)
  where
    of : (n u f h p w : ℕ) → h ≡ 3 + n → u + f ≡ n → 3 + (max n (u + p) + 2 * h + 1024 * w) ≤ max h (h - f + p) + 2 * h + 1024 * w
    of n u f h p w is both = omega (arith, is, both)
