-- Where what is in memory has changed, the whole store holds the changed map.
use Rattle.std.specs.Prelude.{Bool, true, false, map}
use Rattle.std.proofs.Common.{◌≡◌, ◌⊎◌, inl, ⊎_elim, ℕ, zero, suc, ◌+◌, ◌-◌, ◌≤◌, List, [], ◌∷◌, ◌++◌, length, get_or, Option, Some, None, refl, sym, ap, subst, ◌∙◌, arith, ◌<◌}
use Rattle.std.specs.Bool.{if◌then◌else◌}
use Rattle.std.specs.Option.{option_or, unwrap_or}
use Rattle.std.specs.List.{Contains}
use Rattle.std.specs.FinMap.{get}
use Rattle.std.proofs.lemmas.Bool.{cases_lt}
use Rattle.std.proofs.lemmas.List.Elements.{Contains-append_left, Contains-append_right, Contains-push, at_from_Contains}
use Rattle.std.proofs.lemmas.List.{length-map, get_or_past}
use Rattle.ct_keep.specs.Content.{Content, Change, after}
use Rattle.ct_keep.specs.laws.Content.{last_change, get-after, same, same_keys}
use Rattle.pg_map.specs.Done.{IsDone, HasKeyAt}
use Rattle.pg_map.specs.Holding.{kind_of_page, Placed, StandsFor, times, one_if_long, IsLayout, chains_of}
use Rattle.pg_map.specs.Kinds.{Each, Kind, Free, Slotted, Long, IsKind, strings_of, IsStringItem}
use Rattle.pg_map.specs.Loose.{held, Stand, IsLoose}
use Rattle.pg_map.specs.laws.Holding.{KeepsLong}
use Rattle.pg_map.specs.laws.Loose.{SameAt, all_same}
use Rattle.pg_map.specs.laws.MapReading.{strings-cons}
use Rattle.pg_map.specs.laws.Standing.{Items}
use Rattle.pg_map.specs.laws.Whole.{whole}
use Rattle.pg_directory.specs.Trees.{StorePage, IsPage, kind_of, Plain}
use Rattle.pg_directory.specs.laws.Holding.{kinds_are}
use Rattle.pg_window.specs.Windows.{IsWindow, merged, IsBare, StayAway, ChangesShown, DifferInBare}
use Rattle.pg_window.specs.Loading.{ArePagesThere}
use Rattle.pg_window.specs.laws.Parts.{PageParts, all_placed, inside, outside, AreParts, placed_values, Reach, each_joined, each_inside, each_outside, times_joined, values_inside, values_outside, merged_same, merged_old, merged_new, length-merged, each_merged, length-parts, parts_joined, parts_merged, part_at, page_parts, inside_all, none_outside, no_bytes}
use Rattle.pg_window.specs.laws.PageKeys.{no_key_no_value}
use Rattle.pg_window.specs.laws.Windows.{IsSplit, shown_kind, stand_kept, split_window, reach_same, none_away, all_inside, all_outside, page_of_key}

-- ---- pages that have nothing

bare_strings : (k : Kind) → IsBare k → strings_of (k ∷ []) ≡ []
bare_strings Free bare = refl
bare_strings (Slotted []) bare = refl
bare_strings (Slotted (s ∷ ss)) bare = absurd bare
bare_strings (Long next bytes) bare = absurd bare

bare_long : (k : Kind) → IsBare k → one_if_long k ≡ 0
bare_long Free bare = refl
bare_long (Slotted []) bare = refl
bare_long (Slotted (s ∷ ss)) bare = absurd bare
bare_long (Long next bytes) bare = absurd bare

bare_is_not_long : (k : Kind) (next : ℕ) (bytes : List ℕ) → IsBare k → k ≡ Long next bytes → ⊥
bare_is_not_long k next bytes bare is = subst IsBare is bare

pub stay_away : (now : List Kind) (away : List Bool) → ((at : ℕ) → get_or away at false ≡ true → get_or now at Free ≡ Slotted []) → StayAway now away
stay_away now away still = record { bare = λ at gone. subst IsBare (sym (still at gone)) tt }

-- ---- the keys of changes

first_change : (w : Change) (ws : List Change) → Contains (w ∷ ws) w
first_change w ws = Contains-append_left (w ∷ []) ws w (Contains-push [] w)

later_change : (v w : Change) (ws : List Change) → Contains ws w → Contains (v ∷ ws) w
later_change v w ws has = Contains-append_right (v ∷ []) ws w has

-- the change of a key that is changed
pub changed : (key : List ℕ) (ws : List Change) (x : Option (List ℕ)) → last_change key ws ≡ Some x → (w : Change) × (w.0 ≡ key) × Contains ws w
changed key [] x is = absurd (cc is)
changed key (w ∷ ws) x is = of (λ y more. changed key ws y more) (last_change key ws) refl (same key w.0) refl is
  where
    of : ((y : Option (List ℕ)) → last_change key ws ≡ Some y → (v : Change) × (v.0 ≡ key) × Contains ws v) → (o : Option (Option (List ℕ))) → last_change key ws ≡ o → (b : Bool) → same key w.0 ≡ b → option_or o (if b then Some w.1 else None) ≡ Some x
        → (v : Change) × (v.0 ≡ key) × Contains (w ∷ ws) v
    of more (Some y) found b eq got = let r = more y found in (r.0, r.1, later_change w r.0 ws r.2)
    of more None found true eq got = (w, sym (same_keys key w.0 eq), first_change w ws)
    of more None found false eq got = absurd (cc got)

-- where the old entry of each change stands at the place that is given for it, and the pages at these places are there
pub shown_by_places : (pages : List StorePage) (away : List Bool) (ws : List Change) (places : List ℕ) → length ws ≤ length places
    → ((i a : ℕ) (w : Change) → i < length ws → HasKeyAt (map kind_of pages) a (get_or ws i w).0 → a ≡ get_or places i 0) → ArePagesThere pages away places → ChangesShown (map kind_of pages) away ws
shown_by_places pages away ws places many stand there = record {
  shown = λ w at has key.
      let i = at_from_Contains ws w has in
      let same_ : get_or ws i.0 w ≡ w = i.2 w in
      let place = stand i.0 at w i.1 (subst (λ (v : Change). HasKeyAt (map kind_of pages) at v.0) (sym same_) key) in
      let page : get_or pages (get_or places i.0 0) (Plain Free) ≡ Plain (Slotted key.strings) = ap (λ (n : ℕ). get_or pages n (Plain Free)) (sym place) ∙ page_of_key pages at w.0 key in
      ap (λ (n : ℕ). get_or away n false) place ∙ there.each i.0 key.strings (let l = i.1 in omega (arith, l, many)) page;
}

-- ---- the whole store, once what is in memory has changed

module _ (pages : List StorePage) (m : Content) (now : List Kind) (away : List Bool) (part : Content) (later : List Kind) (ws : List Change) where
  -- what is known of both, page by page
  record Changes : Type 0 where
    w : IsWindow pages now away
    split : IsSplit (map kind_of pages) m now away part
    more : length now ≤ length later
    loose : IsLoose later (after ws part) 0 [] []
    stay : StayAway later away
    parts : PageParts
    are : AreParts later parts
    is : loose.placed ≡ all_placed parts

  few_flags : (c : Changes) → length away ≤ length (map kind_of pages)
  few_flags c = let e = c.w.shows.flags in let l = length-map pages kind_of in omega (arith, e, l)

  reach_changes : (c : Changes) → Reach away c.split.parts c.parts
  reach_changes c =
      let p = length-parts (map kind_of pages) c.split.parts c.split.are in
      let q = length-parts later c.parts c.are in
      let l = length-map pages kind_of in
      let n = c.w.shows.count in
      let f = few_flags c in
      let m_ = c.more in
      record { flags = omega (arith, p, f); old = omega (arith, p, q, l, n, m_) }

  -- all that is in memory stands on pages in memory
  all_there : (c : Changes) → inside away c.parts ≡ all_placed c.parts
  all_there c = inside_all away c.parts (let r = reach_changes c in let f = r.flags in let o = r.old in omega (arith, f, o))
      (λ at gone. no_bytes (get_or c.parts at []) (sym (part_at later c.parts at c.are) ∙ bare_strings (get_or later at Free) (c.stay.bare at gone)))

  times_there : (c : Changes) (i : ℕ) → 3 ≤ i → times i (chains_of (inside away c.parts)) ≡ one_if_long (kind_of_page later i)
  times_there c i low =
      let e = c.loose.long i low in
      ap (λ (x : List Placed). times i (chains_of x)) (all_there c ∙ sym c.is) ∙ (let z : times i (chains_of c.loose.placed) ≡ times i (chains_of c.loose.placed) + 0 = omega arith in z) ∙ e

  -- long pages of entries in memory and of those that are away
  times_both : (c : Changes) (i : ℕ) → 3 ≤ i → times i (chains_of (outside away c.split.parts)) + one_if_long (kind_of_page now i) ≡ one_if_long (kind_of_page (map kind_of pages) i)
  times_both c i low =
      let r = reach_same away c.split.parts (let p = length-parts (map kind_of pages) c.split.parts c.split.are in let f = few_flags c in omega (arith, p, f)) in
      let both = times_joined i away c.split.parts c.split.parts r in
      let all = ap (λ (x : PageParts). times i (chains_of (all_placed x))) (merged_same away c.split.parts) ∙ c.split.long i low in
      let own = c.split.long_inside i low in
      omega (arith, both, all, own)

  times_away : (c : Changes) (i : ℕ) → 3 ≤ i → get_or away (i - 3) false ≡ true → times i (chains_of (outside away c.split.parts)) ≡ one_if_long (kind_of_page (map kind_of pages) i)
  times_away c i low gone = let e = times_both c i low in let z = ap one_if_long (c.w.shows.hidden (i - 3) gone) in omega (arith, e, z)

  none_gone : (c : Changes) (i : ℕ) → 3 ≤ i → get_or away (i - 3) false ≡ false → times i (chains_of (outside away c.split.parts)) ≡ 0
  none_gone c i low there = ⊎_elim
      (λ less. let e = times_both c i low in let z = ap one_if_long (shown_kind pages now away (i - 3) c.w.shows less there) in omega (arith, e, z))
      (λ past. let e = times_both c i low in let z = ap one_if_long (get_or_past (map kind_of pages) (i - 3) Free (let l = length-map pages kind_of in omega (arith, l, past))) in omega (arith, e, z))
      (cases_lt (i - 3) (length pages))

  old_kind : (c : Changes) (i : ℕ) → get_or away (i - 3) false ≡ true → kind_of_page (merged away (map kind_of pages) later) i ≡ kind_of_page (map kind_of pages) i
  old_kind c i gone = merged_old away (map kind_of pages) later (i - 3) Free (few_flags c) (let l = length-map pages kind_of in let n = c.w.shows.count in let m_ = c.more in omega (arith, l, n, m_)) gone

  new_kind : (i : ℕ) → get_or away (i - 3) false ≡ false → kind_of_page (merged away (map kind_of pages) later) i ≡ kind_of_page later i
  new_kind i there = merged_new away (map kind_of pages) later (i - 3) Free there

  same_away : (c : Changes) → SameAt (chains_of (outside away c.split.parts)) (map kind_of pages) (merged away (map kind_of pages) later)
  same_away c = λ i low some. of i low some (get_or away (i - 3) false) refl
    where
      of : (i : ℕ) → 3 ≤ i → 1 ≤ times i (chains_of (outside away c.split.parts)) → (b : Bool) → get_or away (i - 3) false ≡ b → kind_of_page (map kind_of pages) i ≡ kind_of_page (merged away (map kind_of pages) later) i
      of i low some true gone = sym (old_kind c i gone)
      of i low some false there = absurd (let e = none_gone c i low there in omega (arith, e, some))

  long_there : (c : Changes) → KeepsLong later (merged away (map kind_of pages) later)
  long_there c = record { kept = λ i next bytes is. of i next bytes is (get_or away (i - 3) false) refl }
    where
      of : (i next : ℕ) (bytes : List ℕ) → kind_of_page later i ≡ Long next bytes → (b : Bool) → get_or away (i - 3) false ≡ b → kind_of_page (merged away (map kind_of pages) later) i ≡ Long next bytes
      of i next bytes is true gone = absurd (bare_is_not_long (kind_of_page later i) next bytes (c.stay.bare (i - 3) gone) is)
      of i next bytes is false there = new_kind i there ∙ is

  merged_long : (c : Changes) (i : ℕ) → 3 ≤ i → times i (chains_of (all_placed (merged away c.split.parts c.parts))) + times i [] ≡ one_if_long (kind_of_page (merged away (map kind_of pages) later) i)
  merged_long c i low = of (get_or away (i - 3) false) refl
    where
      both : times i (chains_of (all_placed (merged away c.split.parts c.parts))) ≡ times i (chains_of (outside away c.split.parts)) + times i (chains_of (inside away c.parts))
      both = times_joined i away c.split.parts c.parts (reach_changes c)

      of : (b : Bool) → get_or away (i - 3) false ≡ b → times i (chains_of (all_placed (merged away c.split.parts c.parts))) + times i [] ≡ one_if_long (kind_of_page (merged away (map kind_of pages) later) i)
      of true gone =
          let t = times_there c i low in
          let z = bare_long (kind_of_page later i) (c.stay.bare (i - 3) gone) in
          let a = times_away c i low gone in
          let k = ap one_if_long (old_kind c i gone) in
          omega (arith, both, t, z, a, k)
      of false there =
          let t = times_there c i low in
          let a = none_gone c i low there in
          let k = ap one_if_long (new_kind i there) in
          omega (arith, both, t, a, k)

  module _ (c : Changes) (shown : ChangesShown (map kind_of pages) away ws) where
    -- the values of a key in memory, after the changes
    values_there : (key : List ℕ) → placed_values key (inside away c.parts) ≡ held (get (after ws part) key)
    values_there key = ap (λ (x : List Placed). placed_values key x) (all_there c ∙ sym c.is) ∙ c.loose.values.are key

    -- no page that is away has a key that is changed
    none_changed : (key : List ℕ) (x : Option (List ℕ)) → last_change key ws ≡ Some x → placed_values key (outside away c.split.parts) ≡ []
    none_changed key x change = none_outside key away c.split.parts
        (λ at gone. no_key_no_value (map kind_of pages) (map kind_of pages) c.split.parts at key c.split.are c.split.items c.split.stand
        (λ has. let w = changed key ws x change in of at gone (shown.shown w.0 at w.2 (subst (HasKeyAt (map kind_of pages) at) (sym w.1) has))))
      where
        of : (at : ℕ) → get_or away at false ≡ true → get_or away at false ≡ false → ⊥
        of at gone there = cc (sym gone ∙ there)

    after_change : (n : Content) (key : List ℕ) (o : Option (Option (List ℕ))) → last_change key ws ≡ o → get (after ws n) key ≡ unwrap_or o (get n key)
    after_change n key o change = get-after ws n key ∙ ap (λ (x : Option (Option (List ℕ))). unwrap_or x (get n key)) change

    merged_values : (key : List ℕ) → placed_values key (all_placed (merged away c.split.parts c.parts)) ≡ held (get (after ws m) key)
    merged_values key = of (last_change key ws) refl
      where
        of : (o : Option (Option (List ℕ))) → last_change key ws ≡ o → placed_values key (all_placed (merged away c.split.parts c.parts)) ≡ held (get (after ws m) key)
        of (Some x) change =
            values_inside key away c.split.parts c.parts (reach_changes c) (none_changed key x change) ∙ values_there key ∙ ap held (after_change part key (Some x) change ∙ sym (after_change m key (Some x) change))
        of None change = last (placed_values key (inside away c.split.parts)) refl
          where
            still : placed_values key (inside away c.parts) ≡ placed_values key (inside away c.split.parts)
            still = values_there key ∙ ap held (after_change part key None change) ∙ sym (c.split.values_inside.are key)

            last : (vs : List (List ℕ)) → placed_values key (inside away c.split.parts) ≡ vs → placed_values key (all_placed (merged away c.split.parts c.parts)) ≡ held (get (after ws m) key)
            last [] none =
                values_outside key away c.split.parts c.parts (reach_changes c) (still ∙ none) ∙ all_outside (map kind_of pages) m now away part c.split (few_flags c) key none ∙ ap held (sym (after_change m key None change))
            last (v ∷ vs) some =
                let gone = none_away (map kind_of pages) m now away part c.split (few_flags c) key (λ none. cc (sym some ∙ none)) in
                values_inside key away c.split.parts c.parts (reach_changes c) gone ∙ still ∙ all_inside (map kind_of pages) m now away part c.split (few_flags c) key gone ∙ ap held (sym (after_change m key None change))

    merged_loose : IsLoose (merged away (map kind_of pages) later) (after ws m) 0 [] []
    merged_loose = record {
      placed = all_placed (merged away c.split.parts c.parts);
      strings = parts_joined (merged away (map kind_of pages) later) (merged away c.split.parts c.parts) (parts_merged away (map kind_of pages) later c.split.parts c.parts c.split.are c.are);
      items = each_joined (λ (p : Placed). IsStringItem p.item) away c.split.parts c.parts (reach_changes c) (each_outside (λ (p : Placed). IsStringItem p.item) away c.split.parts c.split.items)
          (each_inside (λ (p : Placed). IsStringItem p.item) away c.parts (subst Items c.is c.loose.items));
      stand = each_joined (λ (p : Placed). StandsFor (merged away (map kind_of pages) later) p.item p.entry p.chain) away c.split.parts c.parts (reach_changes c)
          (all_same (map kind_of pages) (merged away (map kind_of pages) later) (outside away c.split.parts) (same_away c) (each_outside (λ (p : Placed). StandsFor (map kind_of pages) p.item p.entry p.chain) away c.split.parts c.split.stand))
          (stand_kept later (merged away (map kind_of pages) later) (inside away c.parts) (long_there c) (each_inside (λ (p : Placed). StandsFor later p.item p.entry p.chain) away c.parts (subst (Stand later) c.is c.loose.stand)));
      chain = (refl, refl);
      long = merged_long c;
      values = record { are = merged_values };
    }

  -- The pages in memory hold a part of the map. Where they have changed, and hold that part after changes on keys of which no string was
  -- away, the whole store holds the map after these changes: its pages that are away are what they were.
  pub frame : Each IsPage pages → IsLayout (map kind_of pages) m → IsWindow pages now away → IsDone now part → length now ≤ length later → IsDone later (after ws part) → StayAway later away
      → ChangesShown (map kind_of pages) away ws → IsDone (merged away (map kind_of pages) later) (after ws m)
  frame are layout w old more new stay shown =
      let h = page_parts later new.is.placed new.is.strings in
      let c : Changes = record {
        w = w;
        split = split_window pages m now away part layout w (whole now part old.is);
        more = more;
        loose = new.is;
        stay = stay;
        parts = h.parts;
        are = h.are;
        is = h.is;
      } in
      record {
        are = each_merged IsKind away (map kind_of pages) later (kinds_are pages are) new.are;
        count = let l = length-merged away (map kind_of pages) later in let k = new.count in omega (arith, l, k);
        is = merged_loose c shown;
      }

-- ---- pages that differ in pages that have nothing

alike_strings : (ks ls : List Kind) → DifferInBare ks ls → strings_of ls ≡ strings_of ks
alike_strings [] [] alike = refl
alike_strings [] (l ∷ ls) alike = absurd alike
alike_strings (k ∷ ks) [] alike = absurd alike
alike_strings (k ∷ ks) (l ∷ ls) alike =
    strings-cons l ls ∙ ap (λ (x : List (List ℕ)). x ++ strings_of ls) (⊎_elim (λ is. ap (λ (x : Kind). strings_of (x ∷ [])) (sym is)) (λ bare. bare_strings l bare.1 ∙ sym (bare_strings k bare.0)) alike.0)
    ∙ ap (λ (x : List (List ℕ)). strings_of (k ∷ []) ++ x) (alike_strings ks ls alike.1) ∙ sym (strings-cons k ks)

alike_at : (ks ls : List Kind) (at : ℕ) → DifferInBare ks ls → (get_or ks at Free ≡ get_or ls at Free) ⊎ (IsBare (get_or ks at Free) × IsBare (get_or ls at Free))
alike_at [] [] at alike = inl refl
alike_at [] (l ∷ ls) at alike = absurd alike
alike_at (k ∷ ks) [] at alike = absurd alike
alike_at (k ∷ ks) (l ∷ ls) zero alike = alike.0
alike_at (k ∷ ks) (l ∷ ls) (suc at) alike = alike_at ks ls at alike.1

-- Pages that differ only in pages that have nothing hold the same map.
pub layout_alike : (ks ls : List Kind) (m : Content) → DifferInBare ks ls → IsLayout ks m → IsLayout ls m
layout_alike ks ls m alike l = record {
  placed = l.placed;
  strings = alike_strings ks ls alike ∙ l.strings;
  items = l.items;
  stand = stand_kept ks ls l.placed keeps l.stand;
  long = λ i low. l.long i low ∙ ⊎_elim (λ is. ap one_if_long is) (λ bare. bare_long (kind_of_page ks i) bare.0 ∙ sym (bare_long (kind_of_page ls i) bare.1)) (alike_at ks ls (i - 3) alike);
  entries = l.entries;
}
  where
    keeps : KeepsLong ks ls
    keeps = record {
      kept = λ i next bytes is. ⊎_elim (λ same_. sym same_ ∙ is) (λ bare. absurd (bare_is_not_long (kind_of_page ks i) next bytes bare.0 is)) (alike_at ks ls (i - 3) alike);
    }
