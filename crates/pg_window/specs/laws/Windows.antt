-- Laws of windows: what is in memory holds a part of the map.
use Rattle.std.specs.Prelude.{Bool, true, false, map}
use Rattle.std.proofs.Common.{◌≡◌, ⊎_elim, ℕ, zero, suc, ◌+◌, ◌-◌, ◌<◌, ◌≤◌, ◌^◌, List, [], ◌∷◌, ◌++◌, length, get_or, None, refl, sym, ap, subst, ◌∙◌, arith, append-nil}
use Rattle.std.specs.FinMap.{get}
use Rattle.std.proofs.lemmas.Bool.{cases_lt}
use Rattle.std.proofs.lemmas.List.{length-map, get_or_past, get_or-map}
use Rattle.ct_keep.specs.Content.{Content, after}
use Rattle.pg_map.specs.Done.{HasKeyAt}
use Rattle.pg_map.specs.Holding.{kind_of_page, Placed, StandsFor, times, one_if_long, IsLayout, chains_of, bytes_of, entries_of}
use Rattle.pg_map.specs.Kinds.{Each, Kind, Free, Slotted, Long, IsKind, strings_of, IsStringItem}
use Rattle.pg_map.specs.Loose.{values_under, held, AreValues, Stand}
use Rattle.pg_map.specs.MapReading.{puts, nothing}
use Rattle.pg_map.specs.laws.Holding.{KeepsLong, stands_kept}
use Rattle.pg_map.specs.laws.Loose.{SameAt, all_same}
use Rattle.pg_map.specs.laws.Standing.{Items, begins}
use Rattle.pg_map.specs.laws.Whole.{entries_by_values, loosened}
use Rattle.pg_directory.specs.Trees.{StorePage, Plain, Directory, IsPage, kind_of}
use Rattle.pg_window.specs.Windows.{ShowsPages, IsWindow, HoldPart}
use Rattle.pg_window.specs.laws.Parts.{PageParts, all_placed, inside, outside, AreParts, placed_values, Reach, each_inside, count_joined, values_inside, values_outside, merged_same, length-parts, page_parts, inside_strings, none_inside, none_inside_at, no_bytes}
use Rattle.pg_window.specs.laws.PageKeys.{no_key_no_value, key_has_value, map_of, held_few, held_one}

-- ---- a window, beside what stands on all pages

-- What stands on the pages of a store, page by page, and what of it stands on those in memory.
pub record IsSplit (ks : List Kind) (m : Content) (now : List Kind) (away : List Bool) (part : Content) : Type 0 where
  pub parts : PageParts
  pub are : AreParts ks parts
  pub items : Items (all_placed parts)
  pub stand : Stand ks (all_placed parts)
  pub long : (i : ℕ) → 3 ≤ i → times i (chains_of (all_placed parts)) ≡ one_if_long (kind_of_page ks i)
  pub values : AreValues (entries_of (all_placed parts)) m
  pub long_inside : (i : ℕ) → 3 ≤ i → times i (chains_of (inside away parts)) ≡ one_if_long (kind_of_page now i)
  pub values_inside : AreValues (entries_of (inside away parts)) part

long_is_no_other : (ss : List (List ℕ)) (next : ℕ) (bytes : List ℕ) → Slotted ss ≡ Long next bytes → ⊥
long_is_no_other ss next bytes is = cc is

pub shown_kind : (pages : List StorePage) (now : List Kind) (away : List Bool) (at : ℕ) → ShowsPages pages now away → at < length pages → get_or away at false ≡ false → get_or now at Free ≡ get_or (map kind_of pages) at Free
shown_kind pages now away at w less there = sym (get_or-map kind_of pages at (Plain Free) Free less ∙ ap kind_of (w.shown at less there))

keeps_long : (pages : List StorePage) (now : List Kind) (away : List Bool) → IsWindow pages now away → KeepsLong now (map kind_of pages)
keeps_long pages now away w = record { kept = λ i next bytes is. of i next bytes is (get_or away (i - 3) false) refl }
  where
    of : (i next : ℕ) (bytes : List ℕ) → kind_of_page now i ≡ Long next bytes → (b : Bool) → get_or away (i - 3) false ≡ b → kind_of_page (map kind_of pages) i ≡ Long next bytes
    of i next bytes is true gone = absurd (long_is_no_other [] next bytes (sym (w.shows.hidden (i - 3) gone) ∙ is))
    of i next bytes is false there = ⊎_elim
        (λ less. sym (shown_kind pages now away (i - 3) w.shows less there) ∙ is)
        (λ past. absurd (no_page (sym (get_or_past now (i - 3) Free (let e = w.shows.count in omega (arith, e, past))) ∙ is)))
        (cases_lt (i - 3) (length pages))
      where
        no_page : Free ≡ Long next bytes → ⊥
        no_page x = cc x

pub stand_kept : (ks ls : List Kind) (ps : List Placed) → KeepsLong ks ls → Stand ks ps → Stand ls ps
stand_kept ks ls [] keeps stand = tt
stand_kept ks ls (p ∷ ps) keeps stand = (stands_kept ks ls p.item p.entry p.chain keeps stand.0, stand_kept ks ls ps keeps stand.1)

pub split_window : (pages : List StorePage) (m : Content) (now : List Kind) (away : List Bool) (part : Content) → IsLayout (map kind_of pages) m → IsWindow pages now away → IsLayout now part → IsSplit (map kind_of pages) m now away part
split_window pages m now away part layout w own =
    let ks = map kind_of pages in
    let l = loosened ks m layout in
    let o = loosened now part own in
    let h = page_parts ks l.placed l.strings in
    let count : length ks ≡ length pages = length-map pages kind_of in
    let items : Items (all_placed h.parts) = subst Items h.is l.items in
    let stand : Stand ks (all_placed h.parts) = subst (Stand ks) h.is l.stand in
    let strings : strings_of now ≡ bytes_of (inside away h.parts) = inside_strings away now ks h.parts h.are (w.shows.count ∙ sym count) (let e = w.shows.flags in omega (arith, e, count))
    (λ at gone. ap (λ (k : Kind). strings_of (k ∷ [])) (w.shows.hidden at gone)) (λ at less there. shown_kind pages now away at w.shows (omega (arith, less, count)) there) in
    let b = begins ks o.placed (inside away h.parts) [] o.items (stand_kept now ks o.placed (keeps_long pages now away w) o.stand) (each_inside (λ (p : Placed). IsStringItem p.item) away h.parts items)
    (each_inside (λ (p : Placed). StandsFor ks p.item p.entry p.chain) away h.parts stand) (sym strings ∙ o.strings ∙ sym (append-nil (bytes_of o.placed))) in
    let own_is : inside away h.parts ≡ o.placed = b.is ∙ ap (λ (x : List Placed). o.placed ++ x) (no_bytes b.more b.bytes) ∙ append-nil o.placed in
    record {
      parts = h.parts;
      are = h.are;
      items = items;
      stand = stand;
      long = λ i low. let e = l.long i low in ap (λ (x : List Placed). times i (chains_of x)) (sym h.is) ∙ (let z : times i (chains_of l.placed) ≡ times i (chains_of l.placed) + 0 = omega arith in z) ∙ e;
      values = subst (λ (x : List Placed). AreValues (entries_of x) m) h.is l.values;
      long_inside = λ i low. let e = o.long i low in ap (λ (x : List Placed). times i (chains_of x)) own_is ∙ (let z : times i (chains_of o.placed) ≡ times i (chains_of o.placed) + 0 = omega arith in z) ∙ e;
      values_inside = subst (λ (x : List Placed). AreValues (entries_of x) part) (sym own_is) o.values;
    }

-- ---- what a window holds

pub reach_same : (bs : List Bool) (ps : PageParts) → length bs ≤ length ps → Reach bs ps ps
reach_same bs ps few = record { flags = few; old = omega arith }

-- a key that stands in memory stands nowhere else
module _ (ks : List Kind) (m : Content) (now : List Kind) (away : List Bool) (part : Content) where
  pub none_away : (s : IsSplit ks m now away part) → length away ≤ length ks → (key : List ℕ) → (placed_values key (inside away s.parts) ≡ [] → ⊥) → placed_values key (outside away s.parts) ≡ []
  none_away s few key some =
      let r = reach_same away s.parts (let e = length-parts ks s.parts s.are in omega (arith, e, few)) in
      let all : length (placed_values key (all_placed s.parts)) ≡ length (held (get m key)) = ap (λ (l : List (List ℕ)). length l) (s.values.are key) in
      let joined_ = ap (λ (x : PageParts). length (placed_values key (all_placed x))) (merged_same away s.parts) in
      of (placed_values key (outside away s.parts)) (placed_values key (inside away s.parts)) refl refl (let c = count_joined key away s.parts s.parts r in let h = held_few (get m key) in omega (arith, all, joined_, c, h))
    where
      of : (out in_ : List (List ℕ)) → placed_values key (outside away s.parts) ≡ out → placed_values key (inside away s.parts) ≡ in_ → length (placed_values key (outside away s.parts)) + length (placed_values key (inside away s.parts)) ≤ 1 → placed_values key (outside away s.parts) ≡ []
      of [] in_ o i few_ = o
      of (x ∷ out) [] o i few_ = absurd (some i)
      of (x ∷ out) (y ∷ in_) o i few_ = absurd (let a = ap (λ (l : List (List ℕ)). length l) o in let b = ap (λ (l : List (List ℕ)). length l) i in omega (arith, a, b, few_))

  -- its values are those of the whole map
  pub all_inside : (s : IsSplit ks m now away part) → length away ≤ length ks → (key : List ℕ) → placed_values key (outside away s.parts) ≡ [] → placed_values key (inside away s.parts) ≡ held (get m key)
  all_inside s few key none =
      let r = reach_same away s.parts (let e = length-parts ks s.parts s.are in omega (arith, e, few)) in
      sym (values_inside key away s.parts s.parts r none) ∙ ap (λ (x : PageParts). placed_values key (all_placed x)) (merged_same away s.parts) ∙ s.values.are key

  pub all_outside : (s : IsSplit ks m now away part) → length away ≤ length ks → (key : List ℕ) → placed_values key (inside away s.parts) ≡ [] → placed_values key (outside away s.parts) ≡ held (get m key)
  all_outside s few key none =
      let r = reach_same away s.parts (let e = length-parts ks s.parts s.are in omega (arith, e, few)) in
      sym (values_outside key away s.parts s.parts r none) ∙ ap (λ (x : PageParts). placed_values key (all_placed x)) (merged_same away s.parts) ∙ s.values.are key

-- a key of a string in memory is one of the store's, and the other way round where the page is in memory
key_shown : (pages : List StorePage) (now : List Kind) (away : List Bool) (at : ℕ) (key : List ℕ) → IsWindow pages now away → HasKeyAt now at key → (get_or away at false ≡ false) × HasKeyAt (map kind_of pages) at key
key_shown pages now away at key w has = of (get_or away at false) refl
  where
    of : (b : Bool) → get_or away at false ≡ b → (get_or away at false ≡ false) × HasKeyAt (map kind_of pages) at key
    of true gone = absurd (none has.strings (sym has.kind ∙ w.shows.hidden at gone) has.is.within)
      where
        none : (ss : List (List ℕ)) → Slotted ss ≡ Slotted [] → has.number < length ss → ⊥
        none [] e less = omega (arith, less)
        none (s ∷ ss) e less = cc e
    of false there =
        let less : at < length pages = let e = w.shows.count in let l = has.within in omega (arith, e, l) in (
          there,
          record {
            within = let e = length-map pages kind_of in omega (arith, e, less);
            strings = has.strings;
            number = has.number;
            kind = sym (shown_kind pages now away at w.shows less there) ∙ has.kind;
            is = has.is;
          },
        )

pub key_there : (pages : List StorePage) (now : List Kind) (away : List Bool) (at : ℕ) (key : List ℕ) → IsWindow pages now away → get_or away at false ≡ false → HasKeyAt (map kind_of pages) at key → HasKeyAt now at key
key_there pages now away at key w there has =
    let less : at < length pages = let e = length-map pages kind_of in let l = has.within in omega (arith, e, l) in
    record {
      within = let e = w.shows.count in omega (arith, e, less);
      strings = has.strings;
      number = has.number;
      kind = shown_kind pages now away at w.shows less there ∙ has.kind;
      is = has.is;
    }

-- the page of a key's string
pub page_of_key : (pages : List StorePage) (at : ℕ) (key : List ℕ) → (has : HasKeyAt (map kind_of pages) at key) → get_or pages at (Plain Free) ≡ Plain (Slotted has.strings)
page_of_key pages at key has = of (get_or pages at (Plain Free)) (sym (get_or-map kind_of pages at (Plain Free) Free (let e = length-map pages kind_of in let l = has.within in omega (arith, e, l))) ∙ has.kind)
  where
    of : (p : StorePage) → kind_of p ≡ Slotted has.strings → p ≡ Plain (Slotted has.strings)
    of (Plain k) is = ap Plain is
    of (Directory d) is = absurd (cc is)

kinds_shown : (pages : List StorePage) (now : List Kind) (away : List Bool) → Each IsPage pages → length now ≡ length pages → ((at : ℕ) → at < length pages → IsKind (get_or now at Free)) → Each IsKind now
kinds_shown pages [] away are count is = tt
kinds_shown [] (n ∷ now) away are count is = absurd (omega (arith, count))
kinds_shown (p ∷ pages) (n ∷ now) away are count is = (is 0 (omega arith), kinds_shown pages now away are.1 (omega (arith, count)) (λ at less. is (suc at) (omega (arith, less))))

kind_in : (pages : List StorePage) (at : ℕ) → Each IsPage pages → at < length pages → IsKind (kind_of (get_or pages at (Plain Free)))
kind_in [] at are less = absurd (omega (arith, less))
kind_in (p ∷ pages) zero are less = of p are.0
  where
    of : (p : StorePage) → IsPage p → IsKind (kind_of p)
    of (Plain k) is = is
    of (Directory d) is = tt
kind_in (p ∷ pages) (suc at) are less = kind_in pages at are.1 (omega (arith, less))

no_strings_fit : IsKind (Slotted [])
no_strings_fit = omega arith

pub window_kinds : (pages : List StorePage) (now : List Kind) (away : List Bool) → Each IsPage pages → IsWindow pages now away → Each IsKind now
window_kinds pages now away are w = kinds_shown pages now away are w.shows.count (λ at less. of at less (get_or away at false) refl)
  where
    of : (at : ℕ) → at < length pages → (b : Bool) → get_or away at false ≡ b → IsKind (get_or now at Free)
    of at less true gone = subst IsKind (sym (w.shows.hidden at gone)) no_strings_fit
    of at less false there = subst IsKind (ap kind_of (w.shows.shown at less there)) (kind_in pages at are less)

-- A window holds a part of the map by itself.
pub window_done : (pages : List StorePage) (m : Content) (now : List Kind) (away : List Bool) → Each IsPage pages → 3 + length pages ≤ 2 ^ 31 → IsLayout (map kind_of pages) m → IsWindow pages now away → (part : Content) × HoldPart now m part
window_done pages m now away are small layout w =
    let part = w.closed.0 in
    let own = w.closed.1 in
    let s = split_window pages m now away part layout w own in
    let ks = map kind_of pages in
    let few : length away ≤ length ks = let e = w.shows.flags in let c = length-map pages kind_of in omega (arith, e, c) in (
      part,
      record {
        done = record { are = window_kinds pages now away are w; count = let e = w.shows.count in omega (arith, e, small); is = loosened now part own };
        part = λ at key has.
            let t = key_shown pages now away at key w has in
            let some : placed_values key (inside away s.parts) ≡ [] → ⊥ = λ none. key_has_value ks ks s.parts at key s.are s.items s.stand t.1 (none_inside_at key away s.parts at none t.0) in
            held_one (get part key) (get m key) (sym (s.values_inside.are key) ∙ all_inside ks m now away part s few key (none_away ks m now away part s few key some));
        others = λ key none.
            held_one (get part key) None (sym (s.values_inside.are key) ∙ none_inside key away s.parts
            (λ at there. no_key_no_value ks ks s.parts at key s.are s.items s.stand (λ has. none at (key_there pages now away at key w there has))));
      },
    )

-- ---- windows that are made

pub long_has_none : (k : Kind) → one_if_long k ≡ 1 → strings_of (k ∷ []) ≡ []
long_has_none Free is = refl
long_has_none (Slotted ss) is = absurd (omega (arith, is))
long_has_none (Long next bytes) is = refl

-- a long page in memory is one of the store, and there
pub long_shown : (pages : List StorePage) (now : List Kind) (away : List Bool) (at : ℕ) → ShowsPages pages now away → one_if_long (get_or now at Free) ≡ 1 → (get_or away at false ≡ false) × (get_or now at Free ≡ get_or (map kind_of pages) at Free)
long_shown pages now away at shows is = of (get_or away at false) refl
  where
    of : (b : Bool) → get_or away at false ≡ b → (get_or away at false ≡ false) × (get_or now at Free ≡ get_or (map kind_of pages) at Free)
    of true gone = absurd (let z = ap one_if_long (shows.hidden at gone) in omega (arith, z, is))
    of false there = ⊎_elim
        (λ less. (there, shown_kind pages now away at shows less there))
        (λ past. absurd (let z = ap one_if_long (get_or_past now at Free (let e = shows.count in omega (arith, e, past))) in omega (arith, z, is)))
        (cases_lt at (length pages))

-- Pages in memory of which the long ones are those of the entries in memory are a window.
pub window_from : (pages : List StorePage) (m : Content) (now : List Kind) (away : List Bool) (parts : PageParts) → AreParts (map kind_of pages) parts → Items (all_placed parts) → Stand (map kind_of pages) (all_placed parts) → AreValues (entries_of (all_placed parts)) m → ShowsPages pages now away
    → ((i : ℕ) → 3 ≤ i → times i (chains_of (inside away parts)) ≡ one_if_long (kind_of_page now i)) → IsWindow pages now away
window_from pages m now away parts are items stand values shows long =
    let ks = map kind_of pages in
    let count : length ks ≡ length pages = length-map pages kind_of in
    let few : length away ≤ length parts = let e = shows.flags in let l = length-parts ks parts are in omega (arith, e, l, count) in
    let es = entries_of (inside away parts) in
    let same_at : SameAt (chains_of (inside away parts)) ks now = λ i low some.
    sym (long_shown pages now away (i - 3) shows (let l = long i low in let k = long_few (kind_of_page now i) in omega (arith, l, k, some))).1 in
    let few_values : (key : List ℕ) → length (values_under key es) ≤ 1 = λ key.
    let c = count_joined key away parts parts (reach_same away parts few) in
    let all = ap (λ (x : PageParts). length (placed_values key (all_placed x))) (merged_same away parts) in
    let v = ap (λ (l : List (List ℕ)). length l) (values.are key) in
    let h = held_few (get m key) in
    omega (arith, c, all, v, h) in
    record {
      shows = shows;
      closed = (
        after (puts es) nothing,
        record {
          placed = inside away parts;
          strings = inside_strings away now ks parts are (shows.count ∙ sym count) (let e = shows.flags in omega (arith, e, count)) (λ at gone. ap (λ (k : Kind). strings_of (k ∷ [])) (shows.hidden at gone))
              (λ at less there. shown_kind pages now away at shows (omega (arith, less, count)) there);
          items = each_inside (λ (p : Placed). IsStringItem p.item) away parts items;
          stand = all_same ks now (inside away parts) same_at (each_inside (λ (p : Placed). StandsFor ks p.item p.entry p.chain) away parts stand);
          long = long;
          entries = entries_by_values es (after (puts es) nothing) (map_of es few_values);
        },
      );
    }
  where
    long_few : (k : Kind) → one_if_long k ≤ 1
    long_few Free = omega arith
    long_few (Slotted ss) = omega arith
    long_few (Long next bytes) = omega arith
