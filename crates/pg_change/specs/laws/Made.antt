-- The pages of a store after a batch: what became of each, and what they hold then.
use Rattle.std.specs.Prelude.{Bool, true, false, map}
use Rattle.std.proofs.Common.{◌≡◌, ◌≢◌, ◌⊎◌, inl, inr, ⊎_elim, ℕ, zero, suc, ◌+◌, ◌-◌, ◌≤◌, ◌<◌, List, [], ◌∷◌, ◌++◌, length, get_or, refl, sym, ap, subst, ◌∙◌, arith}
use Rattle.std.specs.List.{Contains}
use Rattle.std.proofs.lemmas.Bool.{cases_lt, false≢true}
use Rattle.std.proofs.lemmas.List.{length-map}
use Rattle.ct_keep.specs.Content.{Content, Change, after}
use Rattle.pg_map.specs.Done.{IsDone}
use Rattle.pg_map.specs.Holding.{times, IsLayout}
use Rattle.pg_map.specs.Kinds.{Each, Kind, Free, Slotted, Long, strings_of}
use Rattle.pg_map.specs.laws.Loose.{times_more, times_here, times_other}
use Rattle.pg_map.specs.laws.Whole.{whole}
use Rattle.pg_directory.specs.Trees.{StorePage, Plain, Directory, kind_of, page_at, one_if_directory, strings_at, IsPage}
use Rattle.pg_directory.specs.Written.{PageWrite, write_over, write_numbers}
use Rattle.pg_directory.specs.laws.Listing.{none_in, in_more, first_in, later_in}
use Rattle.pg_directory.specs.laws.Making.{AreOfDirectory, StandOn}
use Rattle.pg_directory.specs.laws.Written.{over_here, over_other, over_none}
use Rattle.pg_plan.specs.Drafts.{Drafted, Shown}
use Rattle.pg_plan.specs.FreePlaces.{one_if_free, free_at, ListsFree}
use Rattle.pg_plan.specs.Touched.{IsAsBefore}
use Rattle.pg_plan.specs.laws.Freeing.{times-append}
use Rattle.pg_window.specs.Windows.{merged, IsWindow, IsBare, StayAway, ChangesShown, DifferInBare}
use Rattle.pg_window.specs.laws.Parts.{length-merged, merged_old, merged_new}
use Rattle.pg_window.specs.laws.Frames.{frame, layout_alike}
use Rattle.pg_change.specs.KeyEdits.{strings_on, AreStringsNow}
use Rattle.pg_change.specs.Made.{IsMade, Stays, Changes, Frees, Takes}
use Rattle.pg_change.specs.Next.{image_at, next_pages}
use Rattle.pg_change.specs.Rebuilding.{IsAsItWas, IsGivenBack, IsTakenFor}
use Rattle.pg_change.specs.laws.DirectorySteps.{same_or}
use Rattle.pg_change.specs.laws.Next.{next_count, next_written, next_kept}
use Rattle.pg_change.specs.Resting.{ListsDirectory}

-- ---- whether a number is among some

among : (n : ℕ) (ns : List ℕ) → Contains ns n ⊎ (Contains ns n → ⊥)
among n [] = inr (λ has. none_in n has)
among n (k ∷ ns) = ⊎_elim
    (λ here. inl (subst (Contains (k ∷ ns)) here (first_in k ns)))
    (λ other. ⊎_elim (λ more. inl (later_in k n ns more)) (λ none. inr (λ has. ⊎_elim (λ is. other is) (λ more. none more) (in_more k n ns has))) (among n ns))
    (same_or k n)

-- ---- what is written under a number

over_directory : (ws : List PageWrite) (i : ℕ) (p : StorePage) → AreOfDirectory ws → 1 ≤ times i (write_numbers ws) → one_if_directory (write_over ws i p) ≡ 1
over_directory [] i p are some = absurd (omega (arith, some))
over_directory (w ∷ ws) i p are some = ⊎_elim
    (λ here. ap (λ (n : ℕ). one_if_directory (write_over (w ∷ ws) n p)) (sym here) ∙ ap one_if_directory (over_here w ws p) ∙ are.0)
    (λ apart. let count = times_other i w.0 (write_numbers ws) apart in ap one_if_directory (over_other w ws i p apart) ∙ over_directory ws i p are.1 (omega (arith, some, count)))
    (same_or w.0 i)

-- each of the pages, where no number is written twice
each_counted : (ws : List PageWrite) → Each (λ (w : PageWrite). 1 ≤ times w.0 (write_numbers ws)) ws
each_counted [] = tt
each_counted (w ∷ ws) = (let a = times_here w.0 (write_numbers ws) in omega (arith, a), more ws (each_counted ws))
  where
    more : (us : List PageWrite) → Each (λ (u : PageWrite). 1 ≤ times u.0 (write_numbers ws)) us → Each (λ (u : PageWrite). 1 ≤ times u.0 (write_numbers (w ∷ ws))) us
    more [] each = tt
    more (u ∷ us) each = (let a = each.0 in let b = times_more u.0 w.0 (write_numbers ws) in omega (arith, a, b), more us each.1)

each_written : (ws : List PageWrite) (p : ℕ → StorePage) → ((i : ℕ) → times i (write_numbers ws) ≤ 1) → Each (λ (w : PageWrite). write_over ws w.0 (p w.0) ≡ w.1) ws
each_written [] p once = tt
each_written (w ∷ ws) p once = (over_here w ws (p w.0), more ws (each_counted ws) (each_written ws p (λ i. let a = once i in let b = times_more i w.0 (write_numbers ws) in omega (arith, a, b))))
  where
    apart : (u : PageWrite) → 1 ≤ times u.0 (write_numbers ws) → w.0 ≢ u.0
    apart u some is =
        let a = once u.0 in
        let b : times u.0 (u.0 ∷ write_numbers ws) ≡ 1 + times u.0 (write_numbers ws) = times_here u.0 (write_numbers ws) in
        let c : times u.0 (w.0 ∷ write_numbers ws) ≡ times u.0 (u.0 ∷ write_numbers ws) = ap (λ (n : ℕ). times u.0 (n ∷ write_numbers ws)) is in
        omega (arith, a, b, c, some)

    more : (us : List PageWrite) → Each (λ (u : PageWrite). 1 ≤ times u.0 (write_numbers ws)) us → Each (λ (u : PageWrite). write_over ws u.0 (p u.0) ≡ u.1) us → Each (λ (u : PageWrite). write_over (w ∷ ws) u.0 (p u.0) ≡ u.1) us
    more [] counted each = tt
    more (u ∷ us) counted each = (over_other w ws u.0 (p u.0) (apart u counted.0) ∙ each.0, more us counted.1 each.1)

-- ---- lists of kinds, by their places

alike_by_place : (ks ls : List Kind) → length ks ≡ length ls → ((at : ℕ) → at < length ls → (get_or ks at Free ≡ get_or ls at Free) ⊎ (IsBare (get_or ks at Free) × IsBare (get_or ls at Free))) → DifferInBare ks ls
alike_by_place [] [] count each = tt
alike_by_place [] (l ∷ ls) count each = absurd (omega (arith, count))
alike_by_place (k ∷ ks) [] count each = absurd (omega (arith, count))
alike_by_place (k ∷ ks) (l ∷ ls) count each = (each 0 (omega arith), alike_by_place ks ls (omega (arith, count)) (λ at less. each (suc at) (omega (arith, less))))

kinds_there : (ps : List StorePage) (at : ℕ) → get_or (map kind_of ps) at Free ≡ kind_of (get_or ps at (Plain Free))
kinds_there [] at = refl
kinds_there (p ∷ ps) zero = refl
kinds_there (p ∷ ps) (suc at) = kinds_there ps at

free_there : (ks : List Kind) (at : ℕ) → at < length ks → free_at ks at ≡ one_if_free (get_or ks at Free)
free_there [] at less = absurd (omega (arith, less))
free_there (k ∷ ks) zero less = refl
free_there (k ∷ ks) (suc at) less = free_there ks at (omega (arith, less))

free_past : (ks : List Kind) (at : ℕ) → length ks ≤ at → free_at ks at ≡ 0
free_past [] at past = refl
free_past (k ∷ ks) zero past = absurd (omega (arith, past))
free_past (k ∷ ks) (suc at) past = free_past ks at (omega (arith, past))

page_past : (ps : List StorePage) (at : ℕ) → length ps ≤ at → get_or ps at (Plain Free) ≡ Plain Free
page_past [] at past = refl
page_past (p ∷ ps) zero past = absurd (omega (arith, past))
page_past (p ∷ ps) (suc at) past = page_past ps at (omega (arith, past))

-- a page of the directory is free to the map
directory_kind : (p : StorePage) → 1 ≤ one_if_directory p → kind_of p ≡ Free
directory_kind (Plain kind) some = absurd (omega (arith, some))
directory_kind (Directory d) some = refl

plain_used : (p : StorePage) → one_if_directory p ≡ 0 → (p ≡ Plain Free → ⊥) → one_if_free (kind_of p) ≡ 0
plain_used (Plain Free) none used = absurd (used refl)
plain_used (Plain (Slotted ss)) none used = refl
plain_used (Plain (Long next bytes)) none used = refl
plain_used (Directory d) none used = absurd (omega (arith, none))

module _ (pages : List StorePage) (before : Shown) (planned done : Drafted) (ns ms : List ℕ) (writes images : List PageWrite) (early numbers : List ℕ) (made : IsMade pages before planned done ns ms writes images early numbers) where
  abbrev next : List StorePage
  next = next_pages pages done.now images numbers

  -- ---- page by page

  image_plain : (i : ℕ) → times i (write_numbers writes) ≡ 0 → image_at done.now images i ≡ Plain (get_or done.now (i - 3) Free)
  image_plain i none = made.same.same i (Plain (get_or done.now (i - 3) Free)) ∙ over_none writes i (Plain (get_or done.now (i - 3) Free)) none

  written_there : (i : ℕ) → 3 ≤ i → Contains numbers i → page_at next i ≡ image_at done.now images i
  written_there i low has = next_written pages done.now images numbers i made.grown low (made.touched.within i has).1 has

  numbered : (at : ℕ) → Contains done.touched at → Contains numbers (at + 3)
  numbered at has = (made.touched.same at).0 has

  -- a page of the directory wasn't in memory when all changes were planned
  was_away : (i : ℕ) → get_or planned.away (i - 3) false ≡ false → times i ns ≡ 0
  was_away i here = of (times i ns) refl
    where
      of : (n : ℕ) → times i ns ≡ n → times i ns ≡ 0
      of zero is = is
      of (suc n) is = absurd (false≢true (sym here ∙ (made.away.each i (omega (arith, is))).1))

  pub record Became (i : ℕ) : Type 0 where
    pub is : Stays pages next planned done ns ms early numbers i ⊎ (Changes next planned done ns ms early i ⊎ (Frees next planned done ns ms early i ⊎ Takes next planned done ns ms writes i))

  became : (i : ℕ) → 3 ≤ i → Became i
  became i low = subst Became back (record { is = at_place (i - 3) })
    where
      back : (i - 3) + 3 ≡ i
      back = omega (arith, low)

      at_place : (at : ℕ) → Stays pages next planned done ns ms early numbers (at + 3) ⊎ (Changes next planned done ns ms early (at + 3) ⊎ (Frees next planned done ns ms early (at + 3) ⊎ Takes next planned done ns ms writes (at + 3)))
      at_place at = ⊎_elim
          (λ was. inl_or was (among (at + 3) numbers))
          (λ other. ⊎_elim (λ gave. inr (inr (inl (freed gave)))) (λ took. inr (inr (inr (taken took)))) other)
          (made.goes.goes.each at)
        where
          low_at : 3 ≤ at + 3
          low_at = omega arith

          place : (at + 3) - 3 ≡ at
          place = omega arith

          inl_or : IsAsItWas planned done ns ms (write_numbers writes) at → Contains numbers (at + 3) ⊎ (Contains numbers (at + 3) → ⊥)
              → Stays pages next planned done ns ms early numbers (at + 3) ⊎ (Changes next planned done ns ms early (at + 3) ⊎ (Frees next planned done ns ms early (at + 3) ⊎ Takes next planned done ns ms writes (at + 3)))
          inl_or was (inl has) =
              let touched : Contains planned.touched at = was.touched.0 ((made.touched.same at).1 has) in
              let here : get_or planned.away ((at + 3) - 3) false ≡ false = ap (λ (k : ℕ). get_or planned.away k false) place ∙ made.here.here at touched in
              let none = was_away (at + 3) here in
              inr (inl (record {
                page = written_there (at + 3) low_at has ∙ image_plain (at + 3) was.untaken;
                kind = ap (λ (k : ℕ). get_or done.now k Free) place ∙ was.kind ∙ ap (λ (k : ℕ). get_or planned.now k Free) (sym place);
                here = here;
                was = none;
                is = was.often ∙ none;
                early_has = (made.early_are.same at).0 touched;
              }))
          inl_or was (inr none) = inl (record {
            page = next_kept pages done.now images numbers (at + 3) low_at none;
            kind = ap (λ (k : ℕ). get_or done.now k Free) place ∙ was.kind ∙ ap (λ (k : ℕ). get_or planned.now k Free) (sym place);
            often = was.often;
            none = none;
            early_none = λ has. none (numbered at (was.touched.1 ((made.early_are.same at).1 has)));
          })

          freed : IsGivenBack planned done ns ms at → Frees next planned done ns ms early (at + 3)
          freed gave =
              let has = numbered at gave.touched in
              let none : times (at + 3) (write_numbers writes) ≡ 0 = let a = made.within (at + 3) in let b = gave.none in omega (arith, a, b) in
              let kind : get_or done.now ((at + 3) - 3) Free ≡ Free = ap (λ (k : ℕ). get_or done.now k Free) place ∙ gave.kind in
              record { page = written_there (at + 3) low_at has ∙ image_plain (at + 3) none ∙ ap Plain kind; kind = kind; was = gave.was; is = gave.none }

          taken : IsTakenFor planned done ns ms (write_numbers writes) at → Takes next planned done ns ms writes (at + 3)
          taken took =
              let has = numbered at took.touched in
              let image = Plain (get_or done.now ((at + 3) - 3) Free) in
              record {
                page = ap one_if_directory (written_there (at + 3) low_at has ∙ made.same.same (at + 3) image) ∙ over_directory writes (at + 3) image made.of_directory took.taken_is;
                kind = ap (λ (k : ℕ). get_or done.now k Free) place ∙ took.kind;
                was = ⊎_elim (λ free. inl (ap (λ (k : ℕ). get_or planned.now k Free) place ∙ free)) (λ own. inr own) took.was;
                is = let a = made.goes.away.once (at + 3) in let b = took.is in omega (arith, a, b);
                written = took.taken_is;
              }

  -- ---- the directory

  -- Each page of the directory is one of its numbers, once.
  pub directory_once : (i : ℕ) → 3 ≤ i → times i ms ≡ one_if_directory (page_at next i)
  directory_once i low = ⊎_elim
      (λ stays. stays.often ∙ made.directory i low ∙ ap one_if_directory (sym stays.page))
      (λ other. ⊎_elim
      (λ changes. changes.is ∙ ap one_if_directory (sym changes.page))
      (λ rest. ⊎_elim (λ frees. frees.is ∙ ap one_if_directory (sym frees.page)) (λ takes. takes.is ∙ sym takes.page) rest)
      other)
      (became i low).is

  -- What is written stands under its number.
  pub directory_stands : StandOn next writes
  directory_stands = each writes (each_counted writes) (each_written writes (λ i. Plain (get_or done.now (i - 3) Free)) once)
    where
      once : (i : ℕ) → times i (write_numbers writes) ≤ 1
      once i = let a = made.within i in let b = made.goes.away.once i in omega (arith, a, b)

      there : (w : PageWrite) → 1 ≤ times w.0 (write_numbers writes) → write_over writes w.0 (Plain (get_or done.now (w.0 - 3) Free)) ≡ w.1 → (3 ≤ w.0) × (page_at next w.0 ≡ w.1)
      there w some is =
          let a = made.within w.0 in
          let low : 3 ≤ w.0 = (made.goes.away.each w.0 (omega (arith, a, some))).0 in (
            low,
            ⊎_elim
                (λ stays. absurd (never w (stays.none) low some))
                (λ other. ⊎_elim
                (λ changes. absurd (let z = changes.is in omega (arith, z, a, some)))
                (λ rest. ⊎_elim
                (λ frees. absurd (let z = frees.is in omega (arith, z, a, some)))
                (λ takes. written_there w.0 low (has w low some) ∙ made.same.same w.0 (Plain (get_or done.now (w.0 - 3) Free)) ∙ is)
                rest)
                other)
                (became w.0 low).is,
          )
        where
          has : (w : PageWrite) → 3 ≤ w.0 → 1 ≤ times w.0 (write_numbers writes) → Contains numbers w.0
          has w low some = of (w.0 - 3) (omega (arith, low))
            where
              of : (at : ℕ) → at + 3 ≡ w.0 → Contains numbers w.0
              of at back = ⊎_elim
                  (λ was. absurd (let u = was.untaken in let e = ap (λ (n : ℕ). times n (write_numbers writes)) back in omega (arith, u, e, some)))
                  (λ other. ⊎_elim (λ gave. subst (Contains numbers) back (numbered at gave.touched)) (λ took. subst (Contains numbers) back (numbered at took.touched)) other)
                  (made.goes.goes.each at)

          never : (w : PageWrite) → (Contains numbers w.0 → ⊥) → 3 ≤ w.0 → 1 ≤ times w.0 (write_numbers writes) → ⊥
          never w none low some = none (has w low some)

      each : (us : List PageWrite) → Each (λ (u : PageWrite). 1 ≤ times u.0 (write_numbers writes)) us → Each (λ (u : PageWrite). write_over writes u.0 (Plain (get_or done.now (u.0 - 3) Free)) ≡ u.1) us → StandOn next us
      each [] counted is = tt
      each (u ∷ us) counted is = (there u counted.0 is.0, each us counted.1 is.1)

  -- All other pages of the directory are what they were.
  pub directory_kept : (i : ℕ) → 1 ≤ times i ms → times i (write_numbers writes) ≡ 0 → page_at next i ≡ page_at pages i
  directory_kept i some none = ⊎_elim
      (λ stays. stays.page)
      (λ other. ⊎_elim
      (λ changes. absurd (let z = changes.is in omega (arith, z, some)))
      (λ rest. ⊎_elim (λ frees. absurd (let z = frees.is in omega (arith, z, some))) (λ takes. absurd (let z = takes.written in omega (arith, z, none))) rest)
      other)
      (became i (made.goes.away.each i some).0).is

  -- ---- kinds

  -- the kind of a page that stays is what the drafts have, unless it wasn't in memory
  kept_kind : (at : ℕ) → (Contains numbers (at + 3) → ⊥) → at < length done.now → get_or before.away at false ≡ false → get_or done.now at Free ≡ kind_of (get_or pages at (Plain Free))
  kept_kind at none less shown = ⊎_elim (λ has. absurd (none has)) (λ same. of same (cases_lt at (length pages))) (made.touched.all at less)
    where
      of : IsAsBefore done at → (at < length pages) ⊎ (length pages ≤ at) → get_or done.now at Free ≡ kind_of (get_or pages at (Plain Free))
      of same (inl there) = sym same.kind ∙ ap (λ (b : Shown). get_or b.kinds at Free) made.ends ∙ ap kind_of (sym (made.shows.shown at there shown))
      of same (inr past) = absurd (none (made.touched.new at (let c = made.shows.count in let e = ap (λ (b : Shown). length b.kinds) made.ends in omega (arith, past, c, e)) less))

  back_place : (at : ℕ) → (at + 3) - 3 ≡ at
  back_place at = omega arith

  pages_back : (ps : List StorePage) (at : ℕ) → page_at ps (at + 3) ≡ get_or ps at (Plain Free)
  pages_back ps at = ap (λ (k : ℕ). get_or ps k (Plain Free)) (back_place at)

  length_next : length next ≡ length done.now
  length_next = next_count pages done.now images numbers made.grown

  alike : DifferInBare (merged before.away (map kind_of pages) done.now) (map kind_of next)
  alike = alike_by_place (merged before.away (map kind_of pages) done.now) (map kind_of next) (length-merged before.away (map kind_of pages) done.now ∙ sym length_next ∙ sym (length-map next kind_of)) at_place
    where
      here : ℕ → Kind
      here at = get_or (merged before.away (map kind_of pages) done.now) at Free

      there : ℕ → Kind
      there at = get_or (map kind_of next) at Free

      is_there : (at : ℕ) → there at ≡ kind_of (page_at next (at + 3))
      is_there at = kinds_there next at ∙ ap kind_of (sym (pages_back next at))

      was_hidden : (at : ℕ) → get_or before.away at false ≡ true → here at ≡ kind_of (page_at pages (at + 3))
      was_hidden at gone =
          merged_old before.away (map kind_of pages) done.now at Free (let f = made.shows.flags in let l = length-map pages kind_of in omega (arith, f, l)) (let g = made.grown in let l = length-map pages kind_of in omega (arith, g, l)) gone
          ∙ kinds_there pages at ∙ ap kind_of (sym (pages_back pages at))

      was_shown : (at : ℕ) → get_or before.away at false ≡ false → here at ≡ get_or done.now at Free
      was_shown at shown = merged_new before.away (map kind_of pages) done.now at Free shown

      done_at : (at : ℕ) → get_or done.now at Free ≡ get_or done.now ((at + 3) - 3) Free
      done_at at = ap (λ (k : ℕ). get_or done.now k Free) (sym (back_place at))

      at_place : (at : ℕ) → at < length (map kind_of next) → (here at ≡ there at) ⊎ (IsBare (here at) × IsBare (there at))
      at_place at less = of (get_or before.away at false) refl (became (at + 3) (omega arith)).is
        where
          within : at < length done.now
          within = let a = length_next in let b = length-map next kind_of in omega (arith, less, a, b)

          of : (b : Bool) → get_or before.away at false ≡ b → Stays pages next planned done ns ms early numbers (at + 3) ⊎ (Changes next planned done ns ms early (at + 3) ⊎ (Frees next planned done ns ms early (at + 3) ⊎ Takes next planned done ns ms writes (at + 3)))
              → (here at ≡ there at) ⊎ (IsBare (here at) × IsBare (there at))
          of true gone (inl stays) = inl (was_hidden at gone ∙ ap kind_of (sym stays.page) ∙ sym (is_there at))
          of true gone (inr (inl changes)) =
              absurd (false≢true (sym changes.here ∙ ap (λ (k : ℕ). get_or planned.away k false) (back_place at) ∙ made.stays at gone))
          of true gone (inr (inr (inl frees))) =
              let own : 1 ≤ one_if_directory (page_at pages (at + 3)) = let a = made.directory (at + 3) (omega arith) in let b = frees.was in omega (arith, a, b) in
              inl (was_hidden at gone ∙ directory_kind (page_at pages (at + 3)) own ∙ sym (is_there at ∙ ap kind_of frees.page))
          of true gone (inr (inr (inr takes))) =
              let hidden = made.sees.kind at (made.stays at gone) in
              ⊎_elim
              (λ free. absurd (let z = ap one_if_free (sym hidden ∙ ap (λ (k : ℕ). get_or planned.now k Free) (sym (back_place at)) ∙ free) in omega (arith, z)))
              (λ was.
              let own : 1 ≤ one_if_directory (page_at pages (at + 3)) = let a = made.directory (at + 3) (omega arith) in omega (arith, a, was) in
              let now : 1 ≤ one_if_directory (page_at next (at + 3)) = let a = takes.page in omega (arith, a) in
              inl (was_hidden at gone ∙ directory_kind (page_at pages (at + 3)) own ∙ sym (is_there at ∙ directory_kind (page_at next (at + 3)) now)))
              takes.was
          of false shown (inl stays) = inl (was_shown at shown ∙ kept_kind at stays.none within shown ∙ ap kind_of (sym (pages_back pages at)) ∙ ap kind_of (sym stays.page) ∙ sym (is_there at))
          of false shown (inr (inl changes)) = inl (was_shown at shown ∙ done_at at ∙ ap kind_of (sym changes.page) ∙ sym (is_there at))
          of false shown (inr (inr (inl frees))) = inl (was_shown at shown ∙ done_at at ∙ frees.kind ∙ sym (is_there at ∙ ap kind_of frees.page))
          of false shown (inr (inr (inr takes))) =
              let now : 1 ≤ one_if_directory (page_at next (at + 3)) = let a = takes.page in omega (arith, a) in
              let first : here at ≡ Slotted [] = was_shown at shown ∙ done_at at ∙ takes.kind in
              let second : there at ≡ Free = is_there at ∙ directory_kind (page_at next (at + 3)) now in
              inr (subst IsBare (sym first) tt, subst IsBare (sym second) tt)

  -- THE PAGES HOLD the map after the changes, where those in memory hold its part.
  pub next_layout : (m part : Content) (ws : List Change) → Each IsPage pages → IsLayout (map kind_of pages) m → IsWindow pages before.kinds before.away → IsDone before.kinds part → IsDone done.now (after ws part) → StayAway done.now before.away
      → ChangesShown (map kind_of pages) before.away ws → IsLayout (map kind_of next) (after ws m)
  next_layout m part ws are layout window old new stay shown =
      let more : length before.kinds ≤ length done.now = let c = made.shows.count in let g = made.grown in omega (arith, c, g) in
      layout_alike (merged before.away (map kind_of pages) done.now) (map kind_of next) (after ws m) alike
      (whole (merged before.away (map kind_of pages) done.now) (after ws m) (frame pages m before.kinds before.away part done.now ws are layout window old more new stay shown).is)

  -- ---- strings

  -- The pages that the plan changed have the strings that it gave them, and all others those that they had.
  pub strings_now : AreStringsNow pages next planned.now early
  strings_now = record { stay = stay; are = are }
    where
      nothing : (p : StorePage) → kind_of p ≡ Free → strings_of (kind_of p ∷ []) ≡ []
      nothing p is = ap (λ (k : Kind). strings_of (k ∷ [])) is

      none_before : (i : ℕ) → 3 ≤ i → 1 ≤ times i ns → strings_at pages i ≡ []
      none_before i low some =
          let a = made.directory i low in
          nothing (page_at pages i) (directory_kind (page_at pages i) (omega (arith, a, some)))

      -- a page that was free in the plan, and that the plan didn't change, was free
      free_before : (i : ℕ) → 3 ≤ i → (Contains early i → ⊥) → get_or planned.now (i - 3) Free ≡ Free → strings_at pages i ≡ []
      free_before i low none free = nothing (page_at pages i) (of (cases_lt (i - 3) (length pages)))
        where
          back : (i - 3) + 3 ≡ i
          back = omega (arith, low)

          of : (i - 3 < length pages) ⊎ (length pages ≤ i - 3) → kind_of (page_at pages i) ≡ Free
          of (inr past) = ap kind_of (page_past pages (i - 3) past)
          of (inl less) = hid (get_or before.away (i - 3) false) refl
            where
              hid : (b : Bool) → get_or before.away (i - 3) false ≡ b → kind_of (page_at pages i) ≡ Free
              hid true gone = absurd (let z = ap one_if_free (sym (made.sees.kind (i - 3) (made.stays (i - 3) gone)) ∙ free) in omega (arith, z))
              hid false shown = ap kind_of (made.shows.shown (i - 3) less shown) ∙ same
                where
                  same : get_or before.kinds (i - 3) Free ≡ Free
                  same = ⊎_elim
                      (λ has. absurd (none (subst (Contains early) back has)))
                      (λ as_. ap (λ (b : Shown). get_or b.kinds (i - 3) Free) (sym made.began) ∙ as_.kind ∙ free)
                      (made.early_are.all (i - 3) (let g = made.grew in omega (arith, g, less)))

      stay : (i : ℕ) → 3 ≤ i → (Contains early i → ⊥) → strings_at next i ≡ strings_at pages i
      stay i low none = ⊎_elim
          (λ stays. ap (λ (p : StorePage). strings_of (kind_of p ∷ [])) stays.page)
          (λ other. ⊎_elim
          (λ changes. absurd (none changes.early_has))
          (λ rest. ⊎_elim
          (λ frees. ap (λ (p : StorePage). strings_of (kind_of p ∷ [])) frees.page ∙ sym (none_before i low frees.was))
          (λ takes.
          let now : 1 ≤ one_if_directory (page_at next i) = let a = takes.page in omega (arith, a) in
          nothing (page_at next i) (directory_kind (page_at next i) now) ∙ sym (⊎_elim (λ free. free_before i low none free) (λ was. none_before i low was) takes.was))
          rest)
          other)
          (became i low).is

      are : (i : ℕ) → Contains early i → strings_at next i ≡ strings_on planned.now i
      are i has = ⊎_elim
          (λ stays. absurd (stays.early_none has))
          (λ other. ⊎_elim
          (λ changes. ap (λ (p : StorePage). strings_of (kind_of p ∷ [])) changes.page ∙ ap (λ (k : Kind). strings_of (k ∷ [])) changes.kind)
          (λ rest. ⊎_elim (λ frees. absurd (never frees.was)) (λ takes. ⊎_elim (λ free.
          let now : 1 ≤ one_if_directory (page_at next i) = let a = takes.page in omega (arith, a) in
          nothing (page_at next i) (directory_kind (page_at next i) now) ∙ sym (ap (λ (k : Kind). strings_of (k ∷ [])) free)) (λ was. absurd (never was)) takes.was) rest)
          other)
          (became i low).is
        where
          low : 3 ≤ i
          low = (made.early_are.within i has).0

          here : get_or planned.away (i - 3) false ≡ false
          here = made.here.here (i - 3) ((made.early_are.same (i - 3)).1 (subst (Contains early) (sym back) has))
            where
              back : (i - 3) + 3 ≡ i
              back = omega (arith, low)

          never : 1 ≤ times i ns → ⊥
          never some = let z = was_away i here in omega (arith, z, some)

  -- ---- free pages

  -- Each page that is free is listed once, and so is each of the directory.
  pub free_listed : (free places : List ℕ) → ListsFree done.now free → ListsDirectory next places → ListsFree (map kind_of next) (free ++ places)
  free_listed free places listed own = record {
    each = λ at.
        let a = times-append free places at in
        let b = listed.each at in
        let c = own.each at in
        let d = of at (cases_lt at (length done.now)) in
        omega (arith, a, b, c, d);
  }
    where
      page_here : (at : ℕ) → at < length done.now → one_if_free (get_or done.now at Free) + one_if_directory (page_at next (at + 3)) ≡ one_if_free (kind_of (page_at next (at + 3)))
      page_here at less = ⊎_elim
          (λ stays. kept stays (get_or before.away at false) refl (times (at + 3) ns) refl)
          (λ other. ⊎_elim
          (λ changes. plain changes.page)
          (λ rest. ⊎_elim
          (λ frees. let k = ap one_if_free (done_at ∙ frees.kind) in let d = ap one_if_directory frees.page in let f = ap (λ (p : StorePage). one_if_free (kind_of p)) frees.page in omega (arith, k, d, f))
          (λ takes.
          let k = ap one_if_free (done_at ∙ takes.kind) in
          let d = takes.page in
          let f = ap one_if_free (directory_kind (page_at next (at + 3)) (omega (arith, d))) in
          omega (arith, k, d, f))
          rest)
          other)
          (became (at + 3) (omega arith)).is
        where
          hidden_within : (at : ℕ) → get_or before.away at false ≡ true → at < length pages
          hidden_within at gone = let less = true_within before.away at gone in let f = made.shows.flags in omega (arith, less, f)
            where
              true_within : (bs : List Bool) (at : ℕ) → get_or bs at false ≡ true → at < length bs
              true_within [] at is = absurd (false≢true is)
              true_within (b ∷ bs) zero is = omega arith
              true_within (b ∷ bs) (suc at) is = omega (arith, true_within bs at is)

          done_at : get_or done.now at Free ≡ get_or done.now ((at + 3) - 3) Free
          done_at = ap (λ (k : ℕ). get_or done.now k Free) (sym (back_place at))

          plain : page_at next (at + 3) ≡ Plain (get_or done.now ((at + 3) - 3) Free) → one_if_free (get_or done.now at Free) + one_if_directory (page_at next (at + 3)) ≡ one_if_free (kind_of (page_at next (at + 3)))
          plain is = let k = ap one_if_free done_at in let d = ap one_if_directory is in let f = ap (λ (p : StorePage). one_if_free (kind_of p)) is in omega (arith, k, d, f)

          kept : Stays pages next planned done ns ms early numbers (at + 3) → (b : Bool) → get_or before.away at false ≡ b → (n : ℕ) → times (at + 3) ns ≡ n
              → one_if_free (get_or done.now at Free) + one_if_directory (page_at next (at + 3)) ≡ one_if_free (kind_of (page_at next (at + 3)))
          kept stays b hides (suc n) own =
              let away = (made.away.each (at + 3) (omega (arith, own))).1 in
              let hidden = made.sees.kind ((at + 3) - 3) away in
              let k = ap one_if_free (done_at ∙ stays.kind ∙ hidden) in
              let d = ap one_if_directory stays.page in
              let e = made.directory (at + 3) (omega arith) in
              let one = made.away.once (at + 3) in
              let f = ap one_if_free (directory_kind (page_at next (at + 3)) (omega (arith, d, e, own))) in
              omega (arith, k, d, e, f, own, one)
          kept stays false shown zero none =
              let k = ap one_if_free (kept_kind at stays.none less shown) in
              let p = ap (λ (p : StorePage). one_if_free (kind_of p)) (stays.page ∙ pages_back pages at) in
              let d = ap one_if_directory stays.page in
              let e = made.directory (at + 3) (omega arith) in
              omega (arith, k, p, d, e, none)
          kept stays true gone zero none =
              let hidden = made.sees.kind at (made.stays at gone) in
              let k = ap one_if_free (done_at ∙ stays.kind ∙ ap (λ (n : ℕ). get_or planned.now n Free) (back_place at) ∙ hidden) in
              let d = ap one_if_directory stays.page in
              let e = made.directory (at + 3) (omega arith) in
              let f = ap (λ (p : StorePage). one_if_free (kind_of p)) stays.page in
              let u = plain_used (page_at pages (at + 3)) (sym e ∙ none) (λ is. false≢true (sym (made.shows.free at (hidden_within at gone) (sym (pages_back pages at) ∙ is)) ∙ gone)) in
              omega (arith, k, d, e, f, u, none)

      of : (at : ℕ) → (at < length done.now) ⊎ (length done.now ≤ at) → free_at done.now at + one_if_directory (get_or next at (Plain Free)) ≡ free_at (map kind_of next) at
      of at (inl less) =
          let a = free_there done.now at less in
          let b = free_there (map kind_of next) at (let l = length_next in let k = length-map next kind_of in omega (arith, less, l, k)) in
          let c = ap one_if_free (kinds_there next at ∙ ap kind_of (sym (pages_back next at))) in
          let d = ap one_if_directory (sym (pages_back next at)) in
          let e = page_here at less in
          omega (arith, a, b, c, d, e)
      of at (inr past) =
          let a = free_past done.now at past in
          let b = free_past (map kind_of next) at (let l = length_next in let k = length-map next kind_of in omega (arith, past, l, k)) in
          let c = ap one_if_directory (page_past next at (let l = length_next in omega (arith, past, l))) in
          omega (arith, a, b, c)
