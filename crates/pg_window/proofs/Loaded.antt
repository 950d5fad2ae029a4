-- Pages in memory, after one came.
use Rattle.std.specs.Prelude.{map}
use Rattle.std.proofs.Common.{◌≡◌, ◌≢◌, ◌⊎◌, inl, inr, ⊎_elim, ℕ, zero, suc, ◌+◌, ◌-◌, ◌<◌, ◌≤◌, Bool, true, false, List, [], ◌∷◌, ◌++◌, length, get_or, set, refl, sym, ap, subst, ◌∙◌, arith, length-set, append-nil}
use Rattle.std.specs.Bool.{if◌then◌else◌}
use Rattle.std.proofs.lemmas.Bool.{cases_lt}
use Rattle.std.proofs.lemmas.List.{get_or-set_same, get_or-set_other, get_or_past, get_or-map, length-map, map-set}
use Rattle.ct_keep.specs.Content.{Content}
use Rattle.pg_map.specs.Holding.{kind_of_page, Placed, times, one_if_long, chains_of, bytes_of}
use Rattle.pg_page.specs.Pages.{Fits, page_bytes}
use Rattle.pg_map.specs.Kinds.{Each, Kind, Free, Slotted, Long, bytes_of_kind, strings_of}
use Rattle.pg_map.specs.Loose.{Stand}
use Rattle.pg_map.specs.laws.Standing.{Items}
use Rattle.pg_map.specs.laws.Loose.{times-append, times_here, times_other}
use Rattle.pg_directory.specs.Trees.{StorePage, Plain, bytes_of_page, IsPage, kind_of, page_at}
use Rattle.pg_directory.specs.laws.Holding.{one_store_page}
use Rattle.pg_directory.specs.laws.Pages.{each_at}
use Rattle.pg_window.specs.declared.sheets.Sheet.{Sheet}
use Rattle.pg_window.specs.declared.sheets.Sheet.TheVariants.{Free as FreeSheet, Away as AwaySheet, Slotted as SlottedSheet, Long as LongSheet}
use Rattle.pg_window.specs.Sheets.{sheet_kind, sheet_kinds, is_away}
use Rattle.pg_window.specs.Windows.{away_of, ShowsPages, SheetsAreWindow}
use Rattle.pg_window.specs.Loading.{AddsLongs, PutsKind, SheetsShow}
use Rattle.pg_window.specs.laws.Loads.{place_case}
use Rattle.pg_window.specs.laws.Parts.{PageParts, inside, length-parts, part_at, no_bytes, times_chains}
use Rattle.pg_window.specs.laws.PageKeys.{on_page}
use Rattle.pg_window.specs.laws.Windows.{IsSplit, long_has_none, long_shown, window_from}

-- ---- one page

pub away_sheet : (s : Sheet) → is_away s ≡ true → s ≡ AwaySheet
away_sheet FreeSheet is = absurd (cc is)
away_sheet AwaySheet is = refl
away_sheet (SlottedSheet page) is = absurd (cc is)
away_sheet (LongSheet next bytes) is = absurd (cc is)

pub puts_kind : (old new : List Sheet) (at : ℕ) (sheet : Sheet) → at < length old → get_or old at FreeSheet ≡ AwaySheet → new ≡ set old at sheet → is_away sheet ≡ false → PutsKind old new at (sheet_kind sheet)
puts_kind old new at sheet within was is there = record {
  within = within;
  was = was;
  kinds = ap sheet_kinds is ∙ map-set sheet_kind old at sheet;
  away = ap away_of is ∙ map-set is_away old at sheet ∙ ap (set (away_of old) at) there;
}

shows_set : (pages : List StorePage) (now : List Kind) (away : List Bool) (at : ℕ) (kind : Kind) → at < length pages → get_or pages at (Plain Free) ≡ Plain kind → ShowsPages pages now away → ShowsPages pages (set now at kind) (set away at false)
shows_set pages now away at kind within is shows = record {
  count = length-set now at kind ∙ shows.count;
  flags = length-set away at false ∙ shows.flags;
  shown = λ j less there. ⊎_elim
      (λ e. ap (λ (n : ℕ). get_or pages n (Plain Free)) e ∙ is ∙ ap Plain (sym (ap (λ (n : ℕ). get_or (set now at kind) n Free) e ∙ get_or-set_same now at kind Free (let c = shows.count in omega (arith, c, within)))))
      (λ apart. shows.shown j less (sym (get_or-set_other away at j false false apart) ∙ there) ∙ ap Plain (sym (get_or-set_other now at j kind Free apart)))
      (place_case j at);
  hidden = λ j gone. ⊎_elim
      (λ e. absurd (cc (sym (there_now j e) ∙ gone)))
      (λ apart. get_or-set_other now at j kind Free apart ∙ shows.hidden j (sym (get_or-set_other away at j false false apart) ∙ gone))
      (place_case j at);
  free = λ j less free. ⊎_elim
      (λ e. there_now j e)
      (λ apart. get_or-set_other away at j false false apart ∙ shows.free j less free)
      (place_case j at);
}
  where
    there_now : (j : ℕ) → j ≡ at → get_or (set away at false) j false ≡ false
    there_now j e = ap (λ (n : ℕ). get_or (set away at false) n false) e ∙ get_or-set_same away at false false (let c = shows.flags in omega (arith, c, within))

-- a page of the store came where none was in memory
module _ (pages : List StorePage) (old new : List Sheet) (at : ℕ) (kind : Kind) (puts : PutsKind old new at kind) (shows : SheetsShow pages old) where
  within_pages : at < length pages
  within_pages = let p = puts.within in let c = shows.count in let l = length-map old sheet_kind in omega (arith, p, c, l)

  pub put_shows : get_or pages at (Plain Free) ≡ Plain kind → SheetsShow pages new
  put_shows is = subst (λ (ks : List Kind). ShowsPages pages ks (away_of new)) (sym puts.kinds)
      (subst (λ (bs : List Bool). ShowsPages pages (set (sheet_kinds old) at kind) bs) (sym puts.away) (shows_set pages (sheet_kinds old) (away_of old) at kind within_pages is shows))

  pub put_there : get_or (away_of new) at false ≡ false
  put_there = ap (λ (bs : List Bool). get_or bs at false) puts.away ∙ get_or-set_same (away_of old) at false false (let c = shows.flags in let w = within_pages in omega (arith, c, w))

  pub put_was : get_or (away_of old) at false ≡ true
  put_was = get_or-map is_away old at FreeSheet false puts.within ∙ ap is_away puts.was

  pub put_kind : get_or (sheet_kinds new) at Free ≡ kind
  put_kind = ap (λ (ks : List Kind). get_or ks at Free) puts.kinds ∙ get_or-set_same (sheet_kinds old) at kind Free (let c = shows.count in let w = within_pages in omega (arith, c, w))

  pub put_other : (j : ℕ) → j ≢ at → (get_or (sheet_kinds new) j Free ≡ get_or (sheet_kinds old) j Free) × (get_or (away_of new) j false ≡ get_or (away_of old) j false)
  put_other j apart = (
    ap (λ (ks : List Kind). get_or ks j Free) puts.kinds ∙ get_or-set_other (sheet_kinds old) at j kind Free apart,
    ap (λ (bs : List Bool). get_or bs j false) puts.away ∙ get_or-set_other (away_of old) at j false false apart,
  )

-- ---- long pages

pub adds_none : (pages : List StorePage) (sheets : List Sheet) → SheetsShow pages sheets → AddsLongs pages sheets sheets []
adds_none pages sheets shows = record { shows = shows; long = λ i low. omega arith; others = λ at. inl refl }

long_few : (k : Kind) → one_if_long k ≤ 1
long_few Free = omega arith
long_few (Slotted ss) = omega arith
long_few (Long next bytes) = omega arith

pub adds_then : (pages : List StorePage) (a b c : List Sheet) (u v : List ℕ) → AddsLongs pages a b u → AddsLongs pages b c v → AddsLongs pages a c (u ++ v)
adds_then pages a b c u v x y = record {
  shows = y.shows;
  long = λ i low. let d = x.long i low in let e = y.long i low in omega (arith, d, e, times-append i u v);
  others = λ at. ⊎_elim
      (λ same_. ⊎_elim (λ was. inl (same_ ∙ was)) (λ long. inr (still at long)) (x.others at))
      (λ long. inr long)
      (y.others at);
}
  where
    still : (at : ℕ) → one_if_long (get_or (sheet_kinds b) at Free) ≡ 1 → one_if_long (get_or (sheet_kinds c) at Free) ≡ 1
    still at was =
        let place : at + 3 - 3 ≡ at = omega arith in
        let e = y.long (at + 3) (omega arith) in
        let f = ap (λ (n : ℕ). one_if_long (get_or (sheet_kinds b) n Free)) place in
        let g = ap (λ (n : ℕ). one_if_long (get_or (sheet_kinds c) n Free)) place in
        let few = long_few (get_or (sheet_kinds c) at Free) in
        omega (arith, was, e, f, g, few)

pub adds_put : (pages : List StorePage) (old new : List Sheet) (number next : ℕ) (used : List ℕ) → 3 ≤ number → SheetsShow pages old → PutsKind old new (number - 3) (Long next used) → get_or pages (number - 3) (Plain Free) ≡ Plain (Long next used) → AddsLongs pages old new (number ∷ [])
adds_put pages old new number next used low shows puts is = record {
  shows = put_shows pages old new (number - 3) (Long next used) puts shows is;
  long = λ i least. ⊎_elim
      (λ e.
      let was = ap (λ (n : ℕ). one_if_long (get_or (sheet_kinds old) (n - 3) Free)) e in
      let now = ap (λ (n : ℕ). one_if_long (get_or (sheet_kinds new) (n - 3) Free)) e in
      let a = ap one_if_long (shows.hidden (number - 3) (put_was pages old new (number - 3) (Long next used) puts shows)) in
      let b = ap one_if_long (put_kind pages old new (number - 3) (Long next used) puts shows) in
      let t = ap (λ (n : ℕ). times n (number ∷ [])) e ∙ times_here number [] in
      omega (arith, was, now, a, b, t))
      (λ apart.
      let o = ap one_if_long (put_other pages old new (number - 3) (Long next used) puts shows (i - 3) (λ e. apart (omega (arith, e, low, least)))).0 in
      let t = times_other i number [] (λ e. apart (sym e)) in
      omega (arith, o, t))
      (place_case i number);
  others = λ at. ⊎_elim
      (λ e. inr (ap (λ (n : ℕ). one_if_long (get_or (sheet_kinds new) n Free)) e ∙ ap one_if_long (put_kind pages old new (number - 3) (Long next used) puts shows)))
      (λ apart. inl (put_other pages old new (number - 3) (Long next used) puts shows at apart).1)
      (place_case at (number - 3));
}

-- ---- what stands on pages in memory, after more came

same_inside : (as_ bs : List Bool) (ps : PageParts) → length as_ ≡ length ps → length bs ≡ length ps → ((j : ℕ) → (get_or bs j false ≡ get_or as_ j false) ⊎ (get_or ps j [] ≡ [])) → inside bs ps ≡ inside as_ ps
same_inside [] [] [] a b same_ = refl
same_inside [] [] (p ∷ ps) a b same_ = absurd (omega (arith, a))
same_inside [] (y ∷ bs) [] a b same_ = absurd (omega (arith, b))
same_inside [] (y ∷ bs) (p ∷ ps) a b same_ = absurd (omega (arith, a))
same_inside (x ∷ as_) [] [] a b same_ = absurd (omega (arith, a))
same_inside (x ∷ as_) [] (p ∷ ps) a b same_ = absurd (omega (arith, b))
same_inside (x ∷ as_) (y ∷ bs) [] a b same_ = absurd (omega (arith, a))
same_inside (x ∷ as_) (y ∷ bs) (p ∷ ps) a b same_ =
    ap (λ (l : List Placed). (if y then [] else p) ++ l) (same_inside as_ bs ps (omega (arith, a)) (omega (arith, b)) (λ j. same_ (suc j)))
    ∙ ap (λ (l : List Placed). l ++ inside as_ ps) (⊎_elim (λ e. ap (λ (c : Bool). if c then [] else p) e) (λ none. empty y x p none) (same_ 0))
  where
    empty : (y x : Bool) (p : List Placed) → p ≡ [] → (if y then [] else p) ≡ (if x then [] else p)
    empty true true p none = refl
    empty true false p none = sym none
    empty false true p none = none
    empty false false p none = refl

-- The page at one place came, and else only pages without strings.
pub record ComesAt (as_ bs : List Bool) (ps : PageParts) (at : ℕ) : Type 0 where
  pub count_old : length as_ ≡ length ps
  pub count_new : length bs ≡ length ps
  pub within : at < length ps
  pub was : get_or as_ at false ≡ true
  pub is : get_or bs at false ≡ false
  pub others : (j : ℕ) → j ≢ at → (get_or bs j false ≡ get_or as_ j false) ⊎ (get_or ps j [] ≡ [])

pub times_come : (i : ℕ) (as_ bs : List Bool) (ps : PageParts) (at : ℕ) → ComesAt as_ bs ps at → times i (chains_of (inside bs ps)) ≡ times i (chains_of (inside as_ ps)) + times i (chains_of (get_or ps at []))
times_come i [] bs ps at c = absurd (cc c.was)
times_come i (x ∷ as_) bs [] at c = absurd (let w = c.within in omega (arith, w))
times_come i (x ∷ as_) [] (p ∷ ps) at c = absurd (let w = c.count_new in omega (arith, w))
times_come i (x ∷ as_) (y ∷ bs) (p ∷ ps) zero c =
    let rest = same_inside as_ bs ps (let a = c.count_old in omega (arith, a)) (let b = c.count_new in omega (arith, b)) (λ j. c.others (suc j) (λ e. absurd (omega (arith, e)))) in
    let new : inside (y ∷ bs) (p ∷ ps) ≡ p ++ inside bs ps = ap (λ (b : Bool). (if b then [] else p) ++ inside bs ps) c.is in
    let old : inside (x ∷ as_) (p ∷ ps) ≡ inside as_ ps = ap (λ (b : Bool). (if b then [] else p) ++ inside as_ ps) c.was in
    let n = ap (λ (l : List Placed). times i (chains_of l)) new in
    let o = ap (λ (l : List Placed). times i (chains_of l)) old in
    let r = ap (λ (l : List Placed). times i (chains_of l)) rest in
    omega (arith, n, o, r, times_chains i p (inside bs ps))
times_come i (x ∷ as_) (y ∷ bs) (p ∷ ps) (suc at) c =
    let more = times_come i as_ bs ps at (record {
      count_old = let a = c.count_old in omega (arith, a);
      count_new = let b = c.count_new in omega (arith, b);
      within = let w = c.within in omega (arith, w);
      was = c.was;
      is = c.is;
      others = λ j apart. c.others (suc j) (λ e. apart (omega (arith, e)));
    }) in
    let head : times i (chains_of (if y then [] else p)) ≡ times i (chains_of (if x then [] else p)) = ⊎_elim
    (λ e. ap (λ (b : Bool). times i (chains_of (if b then [] else p))) e)
    (λ none. empty y x p none)
    (c.others 0 (λ e. absurd (omega (arith, e)))) in
    omega (arith, more, head, times_chains i (if y then [] else p) (inside bs ps), times_chains i (if x then [] else p) (inside as_ ps))
  where
    empty : (y x : Bool) (p : List Placed) → p ≡ [] → times i (chains_of (if y then [] else p)) ≡ times i (chains_of (if x then [] else p))
    empty true true p none = refl
    empty true false p none = ap (λ (l : List Placed). times i (chains_of l)) (sym none)
    empty false true p none = ap (λ (l : List Placed). times i (chains_of l)) none
    empty false false p none = refl

-- ---- a page of entries, once the long pages of its values are there

module _ (pages : List StorePage) (m : Content) (old mid new : List Sheet) (part : Content) (at : ℕ) (ss : List (List ℕ)) where
  pub page_loaded : (s : IsSplit (map kind_of pages) m (sheet_kinds old) (away_of old) part) → SheetsShow pages old → AddsLongs pages old mid (chains_of (get_or s.parts at [])) → PutsKind mid new at (Slotted ss)
      → get_or pages at (Plain Free) ≡ Plain (Slotted ss) → SheetsAreWindow pages new
  page_loaded s shows adds puts is = window_from pages m (sheet_kinds new) (away_of new) s.parts s.are s.items s.stand s.values shows_new long
    where
      shows_new : SheetsShow pages new
      shows_new = put_shows pages mid new at (Slotted ss) puts adds.shows is

      count : length s.parts ≡ length pages
      count = length-parts (map kind_of pages) s.parts s.are ∙ length-map pages kind_of

      within : at < length pages
      within = within_pages pages mid new at (Slotted ss) puts adds.shows

      -- a long page has no strings
      none_long : (j : ℕ) → one_if_long (get_or (sheet_kinds mid) j Free) ≡ 1 → get_or s.parts j [] ≡ []
      none_long j long = no_bytes (get_or s.parts j [])
          (sym (part_at (map kind_of pages) s.parts j s.are) ∙ ap (λ (k : Kind). strings_of (k ∷ [])) (sym (long_shown pages (sheet_kinds mid) (away_of mid) j adds.shows long).1) ∙ long_has_none (get_or (sheet_kinds mid) j Free) long)

      was : get_or (away_of old) at false ≡ true
      was = ⊎_elim
          (λ same_. sym same_ ∙ put_was pages mid new at (Slotted ss) puts adds.shows)
          (λ long. absurd (cc (sym (long_shown pages (sheet_kinds mid) (away_of mid) at adds.shows long).0 ∙ put_was pages mid new at (Slotted ss) puts adds.shows)))
          (adds.others at)

      comes : ComesAt (away_of old) (away_of new) s.parts at
      comes = record {
        count_old = shows.flags ∙ sym count;
        count_new = shows_new.flags ∙ sym count;
        within = let c = count in let w = within in omega (arith, c, w);
        was = was;
        is = put_there pages mid new at (Slotted ss) puts adds.shows;
        others = λ j apart.
            let o = (put_other pages mid new at (Slotted ss) puts adds.shows j apart).1 in
            ⊎_elim (λ same_. inl (o ∙ same_)) (λ long. inr (none_long j long)) (adds.others j);
      }

      long : (i : ℕ) → 3 ≤ i → times i (chains_of (inside (away_of new) s.parts)) ≡ one_if_long (kind_of_page (sheet_kinds new) i)
      long i low =
          let t = times_come i (away_of old) (away_of new) s.parts at comes in
          let a = adds.long i low in
          let b = s.long_inside i low in
          let last : one_if_long (kind_of_page (sheet_kinds new) i) ≡ one_if_long (kind_of_page (sheet_kinds mid) i) = ⊎_elim
          (λ e. ap (λ (n : ℕ). one_if_long (get_or (sheet_kinds new) n Free)) e ∙ ap one_if_long (put_kind pages mid new at (Slotted ss) puts adds.shows)
          ∙ sym (ap (λ (n : ℕ). one_if_long (get_or (sheet_kinds mid) n Free)) e ∙ ap one_if_long (adds.shows.hidden at (put_was pages mid new at (Slotted ss) puts adds.shows))))
          (λ apart. ap one_if_long (put_other pages mid new at (Slotted ss) puts adds.shows (i - 3) apart).0)
          (place_case (i - 3) at) in
          omega (arith, t, a, b, last)

-- ---- pages of entries by their bytes

pub slotted_within : (pages : List StorePage) (at : ℕ) (ss : List (List ℕ)) → get_or pages at (Plain Free) ≡ Plain (Slotted ss) → at < length pages
slotted_within pages at ss is = ⊎_elim (λ less. less) (λ past. absurd (no_page (sym (get_or_past pages at (Plain Free) past) ∙ is))) (cases_lt at (length pages))
  where
    no_page : Plain Free ≡ Plain (Slotted ss) → ⊥
    no_page x = no_kind (ap kind_of x)
      where
        no_kind : Free ≡ Slotted ss → ⊥
        no_kind y = cc y

module _ (pages : List StorePage) (at number : ℕ) (are : Each IsPage pages) (place : number ≡ at + 3) (bytes : List ℕ) (there : bytes ≡ bytes_of_page (page_at pages number)) where
  at_place : page_at pages number ≡ get_or pages at (Plain Free)
  at_place = ap (λ (n : ℕ). get_or pages n (Plain Free)) (let e : number - 3 ≡ at = omega (arith, place) in e)

  pub slotted_bytes : (strings : List (List ℕ)) → get_or pages at (Plain Free) ≡ Plain (Slotted strings) → Fits strings × (bytes ≡ page_bytes strings)
  unfolding bytes_of_kind
  slotted_bytes strings is = (
    subst IsPage is (each_at IsPage pages at (Plain Free) are (slotted_within pages at strings is)),
    there ∙ ap bytes_of_page (at_place ∙ is),
  )

  pub slotted_there : (strings : List (List ℕ)) → at < length pages → Fits strings → bytes ≡ page_bytes strings → get_or pages at (Plain Free) ≡ Plain (Slotted strings)
  unfolding bytes_of_kind
  slotted_there strings within fits is =
      one_store_page (get_or pages at (Plain Free)) (Plain (Slotted strings)) (each_at IsPage pages at (Plain Free) are within) fits (sym (there ∙ ap bytes_of_page at_place) ∙ is)

-- the placed strings of a page of entries
pub record HasStrings (ks : List Kind) (ps : List Placed) (ss : List (List ℕ)) : Type 0 where
  pub items : Items ps
  pub stand : Stand ks ps
  pub is : ss ≡ bytes_of ps

pub page_strings : (pages : List StorePage) (m : Content) (old : List Sheet) (part : Content) (at : ℕ) (ss : List (List ℕ)) → (s : IsSplit (map kind_of pages) m (sheet_kinds old) (away_of old) part) → get_or pages at (Plain Free) ≡ Plain (Slotted ss)
    → HasStrings (map kind_of pages) (get_or s.parts at []) ss
page_strings pages m old part at ss s is =
    let o = on_page (map kind_of pages) s.parts at s.items s.stand in
    let kind : get_or (map kind_of pages) at Free ≡ Slotted ss = get_or-map kind_of pages at (Plain Free) Free (slotted_within pages at ss is) ∙ ap kind_of is in
    record {
      items = o.items;
      stand = o.stand;
      is = sym (append-nil ss) ∙ ap (λ (k : Kind). strings_of (k ∷ [])) (sym kind) ∙ part_at (map kind_of pages) s.parts at s.are;
    }
