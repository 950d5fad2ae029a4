-- The directory after a batch: which pages were taken for it, and that it leads to all entries once they stand under their numbers.
use Rattle.std.specs.Prelude.{map}
use Rattle.std.proofs.Common.{◌≡◌, inl, inr, ⊎_elim, ◌≤◌, ℕ, zero, suc, ◌+◌, ◌-◌, List, [], ◌∷◌, ◌++◌, length, refl, sym, ap, subst, ◌∙◌, length-append, arith}
use Rattle.std.specs.List.{Contains}
use Rattle.std.proofs.lemmas.List.{length-map, map-append}
use Rattle.pg_map.specs.Kinds.{Each}
use Rattle.pg_map.specs.Holding.{times}
use Rattle.pg_map.specs.laws.Holding.{each-left, each-right}
use Rattle.pg_map.specs.laws.Loose.{times-append, times_here, times_more, times_other}
use Rattle.pg_directory.specs.declared.building.InnerPage.{InnerPage}
use Rattle.pg_directory.specs.declared.directories.Directory.{Directory}
use Rattle.pg_directory.specs.declared.entries.Child.{Child}
use Rattle.pg_directory.specs.declared.entries.EntryAt.{EntryAt}
use Rattle.pg_directory.specs.declared.leaves.LeafPage.{LeafPage}
use Rattle.pg_directory.specs.Building.{Above, above_of, numbers_of, StandThere}
use Rattle.pg_directory.specs.Layering.{all_pages, BuildsLevels}
use Rattle.pg_directory.specs.Leaves.{LeafAt, leaf_at, leaf_numbers, LeavesStand}
use Rattle.pg_directory.specs.Levels.{pages_of, AreLeaves, IsLevel, LeadsTo, HasLevels}
use Rattle.pg_directory.specs.Making.{leaf_writes, above_writes}
use Rattle.pg_directory.specs.Trees.{StorePage, Plain, Directory as DirectoryAt, page_at, one_if_directory}
use Rattle.pg_directory.specs.Written.{PageWrite, write_numbers}
use Rattle.pg_directory.specs.laws.Building.{all_numbers, numbers_down, levels_lead, times-down}
use Rattle.pg_directory.specs.laws.Levels.{AsOften}
use Rattle.pg_directory.specs.laws.Making.{StandOn, numbers_written, writes-append}
use Rattle.pg_leaves.specs.declared.parting.LeafNow.{LeafNow}
use Rattle.pg_leaves.specs.declared.parting.LeafNow.TheVariants.{Kept, Made}
use Rattle.pg_leaves.specs.declared.placing.Placed.{Placed}
use Rattle.pg_leaves.specs.Relisting.{kept_pages, written_now, ArePagesOfLeaves, NamePlaces}
use Rattle.pg_leaves.specs.laws.Relisting.{leaves_now, pages_now}
use Rattle.pg_plan.specs.Drafts.{Drafted}
use Rattle.pg_change.specs.declared.rebuilding.Rebuilt.{Rebuilt}
use Rattle.pg_change.specs.Rebuilding.{own_numbers, rebuilt_writes, placed_numbers, upper_numbers, AreAway, GoesTo, IsPlaced, AboveStays, AboveIsBuilt, AboveIsNone, IsAbove, HasAbove, IsRebuilt, RebuildsIn, WasLed, StandsRebuilt, IsWithoutLeaves, HasRebuilt}
use Rattle.pg_change.specs.laws.DirectorySteps.{same_or, away_often, goes_often, goes_then, only_takes}

-- ---- the numbers of what is written

pub numbers_rebuilt : (i : ℕ) (new : Rebuilt) → times i (write_numbers (rebuilt_writes new)) ≡ times i (leaf_numbers (map leaf_at new.written.items)) + times i (upper_numbers new)
numbers_rebuilt i new = ap (times i) (numbers_written (map leaf_at new.written.items) (map above_of new.upper.items)) ∙ times-append i (leaf_numbers (map leaf_at new.written.items)) (upper_numbers new)

-- ---- what was taken and given back

module _ (a b c d : Drafted) (top : ℕ) (old : Directory) (ls : List LeafNow) (gone : List ℕ) (placed : Placed) (new : Rebuilt) (are : AreAway a (own_numbers old)) (pages : ArePagesOfLeaves old.leaves.items ls gone) (under : IsPlaced ls placed) (raised : HasAbove top old placed new) where
  abbrev inner : List ℕ
  inner = old.inner.items

  abbrev kept : List ℕ
  kept = kept_pages ls

  abbrev leaves : List ℕ
  leaves = placed_numbers placed

  abbrev upper : List ℕ
  upper = upper_numbers new

  at_first : AsOften (own_numbers old) (gone ++ (kept ++ inner))
  at_first i =
      let x = times-append i inner (pages_of old.leaves.items) in
      let y = times-append i gone (kept ++ inner) in
      let z = times-append i kept inner in
      let w = pages i in
      omega (arith, x, y, z, w)

  then_ : AsOften (leaves ++ (kept ++ inner)) (inner ++ (leaves ++ kept))
  then_ i =
      let x = times-append i leaves (kept ++ inner) in
      let y = times-append i kept inner in
      let z = times-append i inner (leaves ++ kept) in
      let w = times-append i leaves kept in
      omega (arith, x, y, z, w)

  at_last : AsOften (new.directory.inner.items ++ (leaves ++ kept)) (own_numbers new.directory)
  at_last i =
      let x = times-append i new.directory.inner.items (leaves ++ kept) in
      let y = times-append i leaves kept in
      let z = times-append i new.directory.inner.items (pages_of new.directory.leaves.items) in
      let w = ap (λ (l : List Child). times i (pages_of l)) (raised.leaves ∙ under.children) ∙ pages_now ls under.numbers i in
      let v = ap (λ (l : List LeafAt). times i (leaf_numbers l)) under.written in
      omega (arith, x, y, z, w, v)

  are_written : AsOften (leaves ++ upper) (write_numbers (rebuilt_writes new))
  are_written i =
      let x = times-append i leaves upper in
      let y = numbers_rebuilt i new in
      let z = ap (λ (v : List LeafPage). times i (leaf_numbers (map leaf_at v))) (ap (λ v. v.items) raised.written) in
      omega (arith, x, y, z)

  pub rebuilds : ((ms : List ℕ) → AreAway a (gone ++ ms) → GoesTo a b (gone ++ ms) ms []) → ((ns : List ℕ) → AreAway b ns → GoesTo b c ns (leaves ++ ns) leaves)
      → ((ns : List ℕ) → AreAway c (inner ++ ns) → GoesTo c d (inner ++ ns) (new.directory.inner.items ++ ns) upper) → RebuildsIn a d old new
  rebuilds first second third =
      let g = first (kept ++ inner) (away_often a (own_numbers old) (gone ++ (kept ++ inner)) at_first are) in
      let h = goes_then a b c (gone ++ (kept ++ inner)) (kept ++ inner) (leaves ++ (kept ++ inner)) [] leaves (only_takes (gone ++ (kept ++ inner)) (kept ++ inner) leaves) g (second (kept ++ inner) g.away) in
      let k = goes_often a c (gone ++ (kept ++ inner)) (leaves ++ (kept ++ inner)) (own_numbers old) (inner ++ (leaves ++ kept)) leaves leaves (λ i. sym (at_first i)) then_ (λ i. refl) h in
      goes_often a d (own_numbers old) (new.directory.inner.items ++ (leaves ++ kept)) (own_numbers old) (own_numbers new.directory) (leaves ++ upper) (write_numbers (rebuilt_writes new)) (λ i. refl) at_last are_written
      (goes_then a c d (own_numbers old) (inner ++ (leaves ++ kept)) (new.directory.inner.items ++ (leaves ++ kept)) leaves upper
      (λ i some none.
      let x = times-append i inner (leaves ++ kept) in
      let y = times-append i new.directory.inner.items (leaves ++ kept) in
      let z = times-append i inner (pages_of old.leaves.items) in
      omega (arith, x, y, z, some, none))
      k (third (leaves ++ kept) k.away))

-- ---- pages that are as they were

level_same : (pages next : List StorePage) (level : ℕ) (cs ds : List Child) → IsLevel pages level cs ds → ((i : ℕ) → 3 ≤ i → 1 ≤ times i (pages_of cs) → page_at next i ≡ page_at pages i) → IsLevel next level cs ds
level_same pages next level [] ds is same = is
level_same pages next level (c ∷ cs) ds (own, later, low, at, first, more, is) same = (
  own,
  later,
  low,
  same c.page low (let e = times_here c.page (pages_of cs) in omega (arith, e)) ∙ at,
  first,
  level_same pages next level cs later more (λ i least some. same i least (let e = times_more i c.page (pages_of cs) in omega (arith, e, some))),
  is,
)

-- Where the pages above the leaves are what they were, they lead to the same leaves.
pub leads_same : (pages next : List StorePage) (level : ℕ) (cs : List Child) (inner : List ℕ) (leaves : List Child) → LeadsTo pages level cs inner leaves → ((i : ℕ) → 3 ≤ i → 1 ≤ times i inner → page_at next i ≡ page_at pages i) → LeadsTo next level cs inner leaves
leads_same pages next zero cs inner leaves leads same = leads
leads_same pages next (suc level) cs inner leaves (ds, below, is_level, leads, is) same = (
  ds,
  below,
  level_same pages next (suc level) cs ds is_level (λ i low some. same i low (let e = ap (times i) is ∙ times-append i (pages_of cs) below in omega (arith, e, some))),
  leads_same pages next level ds below leaves leads (λ i low some. same i low (let e = ap (times i) is ∙ times-append i (pages_of cs) below in omega (arith, e, some))),
  is,
)

-- ---- what was written

leaves_there : (next : List StorePage) (ls : List LeafAt) → StandOn next (leaf_writes ls) → LeavesStand next ls
leaves_there next [] stand = tt
leaves_there next (l ∷ ls) stand = (stand.0, leaves_there next ls stand.1)

-- the pages of some levels, in two parts
levels_there : (next : List StorePage) (levels : List (List Above)) → StandOn next (above_writes (all_pages levels)) → Each (StandThere next) levels
levels_there next [] stand = tt
levels_there next (as_ ∷ more) stand =
    let parts = subst (StandOn next) (writes-append as_ (all_pages more)) stand in
    let P : PageWrite → Type 0 = λ w. (3 ≤ w.0) × (page_at next w.0 ≡ w.1) in
    (of as_ (each-left P (above_writes as_) (above_writes (all_pages more)) parts), levels_there next more (each-right P (above_writes as_) (above_writes (all_pages more)) parts))
  where
    of : (bs : List Above) → StandOn next (above_writes bs) → StandThere next bs
    of [] there = tt
    of (b ∷ bs) there = (there.0, of bs there.1)

numbers_of_all : (levels : List (List Above)) → all_numbers levels ≡ numbers_of (all_pages levels)
numbers_of_all [] = refl
numbers_of_all (as_ ∷ more) = ap (λ (ns : List ℕ). numbers_of as_ ++ ns) (numbers_of_all more) ∙ sym (map-append (λ (a : Above). a.number) as_ (all_pages more))

-- the numbers above the leaves are those of the pages that are built
pub built_often : (cs : List Child) (numbers : List ℕ) (as_ : List Above) (inner : List ℕ) (top : Child) → BuildsLevels cs numbers as_ inner top → AsOften (numbers_of as_) inner
built_often cs numbers as_ inner top b i =
    let x = ap (times i) b.inner_are ∙ times-down i b.levels [] in
    let y = ap (times i) (numbers_of_all b.levels ∙ ap numbers_of (sym b.pages_are)) in
    omega (arith, x, y)

none_above : (i : ℕ) (us : List InnerPage) → us ≡ [] → times i (numbers_of (map above_of us)) ≡ 0
none_above i us is = ap (λ (l : List InnerPage). times i (numbers_of (map above_of l))) is

upper_in : (i top : ℕ) (old : Directory) (new : Rebuilt) → IsAbove top old new → times i (upper_numbers new) ≤ times i new.directory.inner.items
upper_in i top old new above = ⊎_elim
    (λ stays. let e = none_above i new.upper.items stays.none in omega (arith, e))
    (λ more. ⊎_elim
    (λ built. let e = built_often new.directory.leaves.items built.numbers (map above_of new.upper.items) new.directory.inner.items built.top built.builds i in omega (arith, e))
    (λ none. let e = none_above i new.upper.items none.none in omega (arith, e)) more)
    above

-- ---- how many pages there are above the leaves

length-down : (levels : List (List Above)) (others : List ℕ) → length (numbers_down levels others) ≡ length (all_pages levels) + length others
length-down [] others = omega arith
length-down (as_ ∷ more) others =
    let x = length-down more (numbers_of as_ ++ others) in
    let y = length-append (numbers_of as_) others in
    let z = length-append as_ (all_pages more) in
    let w = length-map as_ (λ (a : Above). a.number) in
    omega (arith, x, y, z, w)

-- There are no more pages above the leaves than leaves, where that was so before.
pub inner_few : (top : ℕ) (old : Directory) (ls : List LeafNow) (new : Rebuilt) → IsRebuilt top old ls new → length old.inner.items ≤ length old.leaves.items → length new.directory.inner.items ≤ length new.directory.leaves.items
inner_few top old ls new rebuilt few = ⊎_elim
    (λ stays. let x = ap (λ (l : List ℕ). length l) stays.inner in let y = ap (λ (l : List Child). length l) stays.leaves in omega (arith, x, y, few))
    (λ more. ⊎_elim
    (λ built.
    let x = ap (λ (l : List ℕ). length l) built.builds.inner_are ∙ length-down built.builds.levels [] in
    let y = ap (λ (l : List Above). length l) built.builds.pages_are in
    let z = built.builds.fewer in
    omega (arith, x, y, z))
    (λ none. let x = ap (λ (l : List ℕ). length l) none.inner in omega (arith, x)) more)
    rebuilt.above

-- ---- elements

each_times : (P : ℕ → Type 0) (ns : List ℕ) → ((n : ℕ) → 1 ≤ times n ns → P n) → Each P ns
each_times P [] all = tt
each_times P (n ∷ ns) all = (all n (let e = times_here n ns in omega (arith, e)), each_times P ns (λ m some. all m (let e = times_more m n ns in omega (arith, e, some))))

times_of_each : (P : ℕ → Type 0) (ns : List ℕ) (n : ℕ) → Each P ns → 1 ≤ times n ns → P n
times_of_each P [] n all some = absurd (omega (arith, some))
times_of_each P (m ∷ ns) n all some = ⊎_elim (λ is. subst P (sym is) all.0) (λ apart. times_of_each P ns n all.1 (let e = times_other n m ns (λ is. apart (sym is)) in omega (arith, e, some))) (same_or n m)

kept_low : (pages : List StorePage) (ls : List LeafNow) (es : List EntryAt) → NamePlaces pages ls es → Each (λ (n : ℕ). 3 ≤ n) (kept_pages ls)
kept_low pages [] es name = tt
kept_low pages (Kept c ∷ ls) es (own, later, low, at, first, more, is) = (low, kept_low pages ls later more)
kept_low pages (Made v ∷ ls) es (later, some, most, more, is) = kept_low pages ls later more

pub one_at_most : (p : StorePage) → one_if_directory p ≤ 1
one_at_most (Plain k) = omega arith
one_at_most (DirectoryAt d) = omega arith

-- ---- the numbers of the directory

module _ (top : ℕ) (old : Directory) (ls : List LeafNow) (new : Rebuilt) (rebuilt : IsRebuilt top old ls new) where
  pub all_in : (i : ℕ) → times i (own_numbers new.directory) ≡ times i new.directory.inner.items + (times i (kept_pages ls) + times i (leaf_numbers (map leaf_at new.written.items)))
  all_in i =
      let x = times-append i new.directory.inner.items (pages_of new.directory.leaves.items) in
      let y = ap (λ (l : List Child). times i (pages_of l)) rebuilt.leaves ∙ pages_now ls rebuilt.numbers i in
      let z = ap (λ (l : List LeafAt). times i (leaf_numbers l)) rebuilt.written in
      omega (arith, x, y, z)

  -- what is written are pages of it
  pub written_in : (i : ℕ) → times i (write_numbers (rebuilt_writes new)) ≤ times i (own_numbers new.directory)
  written_in i =
      let x = numbers_rebuilt i new in
      let y = all_in i in
      let u = upper_in i top old new rebuilt.above in
      omega (arith, x, y, u)

  module _ (a d : Drafted) (on : RebuildsIn a d old new) where
    pub written_once : (i : ℕ) → times i (write_numbers (rebuilt_writes new)) ≤ 1
    written_once i = let w = written_in i in let o = on.away.once i in omega (arith, w, o)

    back_there : (i : ℕ) → 1 ≤ times i (own_numbers new.directory) → (i - 3) + 3 ≡ i
    back_there i some = let low = (on.away.each i some).0 in omega (arith, low)

    -- each page that is written counts as changed
    pub written_touched : (i : ℕ) → 1 ≤ times i (write_numbers (rebuilt_writes new)) → (3 ≤ i) × Contains d.touched (i - 3)
    written_touched i some =
        let there : 1 ≤ times i (own_numbers new.directory) = (let w = written_in i in omega (arith, w, some)) in
        let e = back_there i there in (
          (on.away.each i there).0,
          ⊎_elim
              (λ was. absurd (let u = was.untaken in let f = ap (λ (n : ℕ). times n (write_numbers (rebuilt_writes new))) e in omega (arith, u, f, some)))
              (λ more. ⊎_elim (λ given. absurd (let n = given.none in let f = ap (λ (n : ℕ). times n (own_numbers new.directory)) e in omega (arith, n, f, there))) (λ taken. taken.touched) more)
              (on.goes.each (i - 3)),
        )

    -- each other page of the directory was one, and counts as changed only if it did before
    pub kept_untouched : (i : ℕ) → 1 ≤ times i (own_numbers new.directory) → times i (write_numbers (rebuilt_writes new)) ≡ 0 → (1 ≤ times i (own_numbers old)) × (Contains d.touched (i - 3) → Contains a.touched (i - 3))
    kept_untouched i there none =
        let e = back_there i there in
        ⊎_elim
        (λ was. (let o = was.often in let f = ap (λ (n : ℕ). times n (own_numbers new.directory)) e in let g = ap (λ (n : ℕ). times n (own_numbers old)) e in omega (arith, o, f, g, there), was.touched.0))
        (λ more. ⊎_elim
        (λ given. absurd (let n = given.none in let f = ap (λ (n : ℕ). times n (own_numbers new.directory)) e in omega (arith, n, f, there)))
        (λ taken. absurd (let t = taken.taken_is in let f = ap (λ (n : ℕ). times n (write_numbers (rebuilt_writes new))) e in omega (arith, t, f, none))) more)
        (on.goes.each (i - 3))

-- ---- the directory

module _ (pages next : List StorePage) (top : ℕ) (old : Directory) (ls : List LeafNow) (new : Rebuilt) (es : List EntryAt) (led : WasLed pages top old) (rebuilt : IsRebuilt top old ls new) (name : NamePlaces pages ls es) (on : StandsRebuilt pages next new es) where
  abbrev written : List ℕ
  written = leaf_numbers (map leaf_at new.written.items)

  abbrev above : List ℕ
  above = upper_numbers new

  -- each number comes once among those of the leaves that stay, of the leaves that are written, and of the pages above them
  counted : (i : ℕ) → 3 ≤ i → times i new.directory.inner.items + (times i (kept_pages ls) + times i written) ≤ 1
  counted i low =
      let a = all_in top old ls new rebuilt i in
      let w = on.once i low in
      let v = one_at_most (page_at next i) in
      omega (arith, a, w, v)

  same_kept : Each (λ (n : ℕ). page_at next n ≡ page_at pages n) (kept_pages ls)
  same_kept = each_times (λ n. page_at next n ≡ page_at pages n) (kept_pages ls) (λ n some.
      let low = times_of_each (λ m. 3 ≤ m) (kept_pages ls) n (kept_low pages ls es name) some in
      let c = counted n low in
      let a = all_in top old ls new rebuilt n in
      let u = upper_in n top old new rebuilt.above in
      let w = numbers_rebuilt n new in
      on.kept n (omega (arith, a, some)) (omega (arith, c, u, w, some)))

  leaves_stand : LeavesStand next (written_now ls rebuilt.numbers)
  leaves_stand = subst (LeavesStand next) rebuilt.written (leaves_there next (map leaf_at new.written.items) (each-left (λ (w : PageWrite). (3 ≤ w.0) × (page_at next w.0 ≡ w.1)) (leaf_writes (map leaf_at new.written.items)) (above_writes (map above_of new.upper.items)) on.stand))

  pub rebuilt_leaves : AreLeaves next new.directory.leaves.items es
  rebuilt_leaves = subst (λ (cs : List Child). AreLeaves next cs es) (sym rebuilt.leaves) (leaves_now pages next ls rebuilt.numbers es name same_kept leaves_stand)

  -- from the top on one comes to the leaves
  abbrev IsLed : Type 0
  IsLed = (level : ℕ) × (least : EntryAt) × LeadsTo next level (record { page = new.top; least = least } ∷ []) new.directory.inner.items new.directory.leaves.items

  has_levels : IsLed → HasLevels next new.top new.directory.inner.items new.directory.leaves.items es
  has_levels (level, least, leads) = record { level = level; least = least; leads = leads; are = rebuilt_leaves; once = on.once; strings = on.strings; all = on.all; order = on.order }

  led_still : AboveStays top old new → IsLed
  led_still stays =
      let l = led stays.some in
      (l.0, l.1, moved l.0 l.1 (leads_same pages next l.0 (record { page = top; least = l.1 } ∷ []) old.inner.items old.leaves.items l.2 inner_same))
    where
      inner_same : (i : ℕ) → 3 ≤ i → 1 ≤ times i old.inner.items → page_at next i ≡ page_at pages i
      inner_same i low some =
          let e = ap (times i) stays.inner in
          let c = counted i low in
          let a = all_in top old ls new rebuilt i in
          let u = none_above i new.upper.items stays.none in
          let w = numbers_rebuilt i new in
          on.kept i (omega (arith, a, e, some)) (omega (arith, c, u, w, e, some))

      moved : (level : ℕ) (least : EntryAt) → LeadsTo next level (record { page = top; least = least } ∷ []) old.inner.items old.leaves.items → LeadsTo next level (record { page = new.top; least = least } ∷ []) new.directory.inner.items new.directory.leaves.items
      moved level least leads =
          subst (λ (n : ℕ). LeadsTo next level (record { page = n; least = least } ∷ []) new.directory.inner.items new.directory.leaves.items) (sym stays.top_is)
          (subst (λ (ns : List ℕ). LeadsTo next level (record { page = top; least = least } ∷ []) ns new.directory.leaves.items) (sym stays.inner)
          (subst (λ (cs : List Child). LeadsTo next level (record { page = top; least = least } ∷ []) old.inner.items cs) (sym stays.leaves) leads))

  led_anew : AboveIsBuilt new → IsLed
  led_anew built =
      let b = built.builds in
      let P : PageWrite → Type 0 = λ w. (3 ≤ w.0) × (page_at next w.0 ≡ w.1) in
      let stand = each-right P (leaf_writes (map leaf_at new.written.items)) (above_writes (map above_of new.upper.items)) on.stand in
      let there = levels_there next b.levels (subst (λ (l : List Above). StandOn next (above_writes l)) b.pages_are stand) in
      let leads = levels_lead next 0 new.directory.leaves.items b.levels built.top [] new.directory.leaves.items b.are there (refl, refl) in (
        0 + length b.levels,
        built.top.least,
        subst (λ (n : ℕ). LeadsTo next (0 + length b.levels) (record { page = n; least = built.top.least } ∷ []) new.directory.inner.items new.directory.leaves.items) (sym built.top_is)
            (subst (λ (ns : List ℕ). LeadsTo next (0 + length b.levels) (built.top ∷ []) ns new.directory.leaves.items) (sym b.inner_are) leads),
      )

  no_leaf : AboveIsNone new → IsWithoutLeaves next new es
  no_leaf none = record {
    none = record {
      none = none.top_is;
      no = λ i low.
          let x = sym (on.once i low) in
          let y = times-append i new.directory.inner.items (pages_of new.directory.leaves.items) in
          let z = ap (times i) none.inner in
          let w = ap (λ (cs : List Child). times i (pages_of cs)) none.leaves in
          omega (arith, x, y, z, w);
    };
    inner = none.inner;
    leaves = none.leaves;
    es_are = subst (λ (cs : List Child). AreLeaves next cs es) none.leaves rebuilt_leaves;
    all = on.all;
  }

  -- The theorem: it is the directory of all places, or there are none.
  pub rebuilt_levels : HasRebuilt next new es
  rebuilt_levels = ⊎_elim (λ stays. inl (has_levels (led_still stays))) (λ more. ⊎_elim (λ built. inl (has_levels (led_anew built))) (λ none. inr (no_leaf none)) more) rebuilt.above
