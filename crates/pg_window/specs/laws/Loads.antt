-- Laws of pages that are brought into memory, and go again.
use Rattle.std.specs.Prelude.{map}
use Rattle.std.proofs.Common.{◌≡◌, ◌≢◌, ◌⊎◌, ◌↔◌, inl, inr, ⊎_elim, ℕ, zero, suc, ◌-◌, ◌<◌, ◌≤◌, Bool, true, false, List, [], ◌∷◌, ◌++◌, length, get_or, set, take, drop, refl, sym, ap, ◌∙◌, arith, append_assoc, append-nil, length-set}
use Rattle.std.proofs.lemmas.Bool.{cases_lt}
use Rattle.std.proofs.lemmas.Bool.Decides.{eqb_tells}
use Rattle.std.proofs.lemmas.List.{take_at, drop_at, get_or-set_same, get_or-set_other, get_or_past, get_or-map, length-map, set_past}
use Rattle.std.proofs.lemmas.List.Elements.{at_from_Contains}
use Rattle.pg_map.specs.Holding.{one_if_long}
use Rattle.pg_map.specs.Kinds.{Kind, Free, Slotted, Long, strings_of, Each, IsKind}
use Rattle.pg_map.specs.MapReading.{nothing}
use Rattle.pg_map.specs.laws.MapReading.{strings-cons}
use Rattle.pg_map.specs.laws.Whole.{entries_by_values}
use Rattle.ct_site.specs.Disks.{DiskView, IsSame}
use Rattle.pg_cache.specs.laws.Caches.{stands_same}
use Rattle.ct_keep.specs.Content.{Content}
use Rattle.pg_directory.specs.Looking.{DiskHolds, store_pages}
use Rattle.pg_directory.specs.Trees.{StorePage, Plain, Directory, kind_of}
use Rattle.pg_window.specs.declared.sheets.Sheet.{Sheet}
use Rattle.pg_window.specs.declared.sheets.Sheet.TheVariants.{Free as FreeSheet, Away as AwaySheet, Slotted as SlottedSheet, Long as LongSheet}
use Rattle.pg_window.specs.Sheets.{sheet_kind, sheet_kinds, is_away}
use Rattle.pg_window.specs.Windows.{away_of, ShowsPages, SheetsAreWindow}
use Rattle.pg_window.specs.Loading.{unloaded, Loads, rested, rested_sheet, ListsLoaded, IsResting, IsStoreWindow}
use Rattle.pg_window.specs.laws.PageKeys.{map_of}

-- ---- where the disk tells what it told

pub holds_on : (old new : DiskView) (homes top : ℕ) (pages : List StorePage) → IsSame old new → DiskHolds old homes top pages → DiskHolds new homes top pages
holds_on old new homes top pages same h = record { stands = stands_same old new homes (store_pages top pages) same h.stands; are = h.are; count = h.count }

pub window_on : (old new : DiskView) (homes top : ℕ) (pages : List StorePage) (m : Content) (sheets : List Sheet) → IsSame old new → IsStoreWindow old homes top pages m sheets → IsStoreWindow new homes top pages m sheets
window_on old new homes top pages m sheets same w = record { holds = holds_on old new homes top pages same w.holds; layout = w.layout; window = w.window }

-- ---- lists of pages that were loaded

pub place_case : (i j : ℕ) → (i ≡ j) ⊎ (i ≢ j)
place_case i j = ⊎_elim (λ t. inl t.1) (λ f. inr f.1) (eqb_tells i j)

pub unloaded-append : (a b : List ℕ) (sheets : List Sheet) → unloaded (a ++ b) sheets ≡ unloaded a (unloaded b sheets)
unloaded-append [] b sheets = refl
unloaded-append (at ∷ a) b sheets = ap (λ (s : List Sheet). set s at AwaySheet) (unloaded-append a b sheets)

pub loads_none : (sheets : List Sheet) (listed : List ℕ) → Loads sheets sheets listed listed
loads_none sheets listed = record { more = []; list = sym (append-nil listed); back = refl; free = refl; kinds = λ are. are }

pub loads_then : (a b c : List Sheet) (l m n : List ℕ) → Loads a b l m → Loads b c m n → Loads a c l n
loads_then a b c l m n x y = record {
  more = x.more ++ y.more;
  list = y.list ∙ ap (λ (u : List ℕ). u ++ y.more) x.list ∙ append_assoc l x.more y.more;
  back = unloaded-append x.more y.more c ∙ ap (unloaded x.more) y.back ∙ x.back;
  free = y.free ∙ x.free;
  kinds = λ are. y.kinds (x.kinds are);
}

-- what was loaded goes
pub loads_back : (old new : List Sheet) (listed now_listed : List ℕ) (count : ℕ) → Loads old new listed now_listed → count ≡ length listed → (unloaded (drop count now_listed) new ≡ old) × (take count now_listed ≡ listed)
loads_back old new listed now_listed count l is = (
  ap (λ (n : List ℕ). unloaded (drop count n) new) l.list ∙ ap (λ (n : List ℕ). unloaded n new) (drop_at listed l.more count (sym is)) ∙ l.back,
  ap (take count) l.list ∙ take_at listed l.more count (sym is),
)

-- where nothing was loaded before, the pages are what they were once all that is listed has gone
pub loads_all_back : (old new : List Sheet) (listed : List ℕ) → Loads old new [] listed → unloaded listed new ≡ old
loads_all_back old new listed l = ap (λ (n : List ℕ). unloaded n new) l.list ∙ l.back

unloaded_or : (places : List ℕ) (sheets : List Sheet) (at : ℕ) → (get_or (unloaded places sheets) at FreeSheet ≡ get_or sheets at FreeSheet) ⊎ (is_away (get_or (unloaded places sheets) at FreeSheet) ≡ true)
unloaded_or [] sheets at = inl refl
unloaded_or (p ∷ places) sheets at = of (unloaded_or places sheets at)
  where
    of : (get_or (unloaded places sheets) at FreeSheet ≡ get_or sheets at FreeSheet) ⊎ (is_away (get_or (unloaded places sheets) at FreeSheet) ≡ true)
        → (get_or (unloaded (p ∷ places) sheets) at FreeSheet ≡ get_or sheets at FreeSheet) ⊎ (is_away (get_or (unloaded (p ∷ places) sheets) at FreeSheet) ≡ true)
    of before = ⊎_elim
        (λ e. ⊎_elim
        (λ less. inr (ap (λ (n : ℕ). is_away (get_or (set (unloaded places sheets) p AwaySheet) n FreeSheet)) e ∙ ap is_away (get_or-set_same (unloaded places sheets) p AwaySheet FreeSheet less)))
        (λ past. ⊎_elim (λ is. inl (still past ∙ is)) (λ is. inr (ap is_away (still past) ∙ is)) before)
        (cases_lt p (length (unloaded places sheets))))
        (λ apart. ⊎_elim (λ is. inl (get_or-set_other (unloaded places sheets) p at AwaySheet FreeSheet apart ∙ is)) (λ is. inr (ap is_away (get_or-set_other (unloaded places sheets) p at AwaySheet FreeSheet apart) ∙ is)) before)
        (place_case at p)
      where
        still : length (unloaded places sheets) ≤ p → get_or (unloaded (p ∷ places) sheets) at FreeSheet ≡ get_or (unloaded places sheets) at FreeSheet
        still past = ap (λ (l : List Sheet). get_or l at FreeSheet) (set_past (unloaded places sheets) p AwaySheet past)

length-unloaded : (places : List ℕ) (sheets : List Sheet) → length (unloaded places sheets) ≡ length sheets
length-unloaded [] sheets = refl
length-unloaded (p ∷ places) sheets = length-set (unloaded places sheets) p AwaySheet ∙ length-unloaded places sheets

pub length-loads : (old new : List Sheet) (listed now_listed : List ℕ) → Loads old new listed now_listed → length new ≡ length old
length-loads old new listed now_listed l = sym (length-unloaded l.more new) ∙ ap (λ (s : List Sheet). length s) l.back

-- what was in memory is as it was
pub loads_keep : (old new : List Sheet) (listed now_listed : List ℕ) (at : ℕ) → Loads old new listed now_listed → is_away (get_or old at FreeSheet) ≡ false → get_or new at FreeSheet ≡ get_or old at FreeSheet
loads_keep old new listed now_listed at l there = ⊎_elim
    (λ is. sym is ∙ ap (λ (s : List Sheet). get_or s at FreeSheet) l.back)
    (λ gone. absurd (cc (sym there ∙ ap (λ (s : List Sheet). is_away (get_or s at FreeSheet)) (sym l.back) ∙ gone)))
    (unloaded_or l.more new at)

-- ---- pages at rest

rested_twice : (s : Sheet) → rested_sheet (rested_sheet s) ≡ rested_sheet s
rested_twice FreeSheet = refl
rested_twice AwaySheet = refl
rested_twice (SlottedSheet page) = refl
rested_twice (LongSheet next bytes) = refl

length-rested : (places : List ℕ) (sheets : List Sheet) → length (rested places sheets) ≡ length sheets
length-rested [] sheets = refl
length-rested (p ∷ places) sheets = length-set (rested places sheets) p (rested_sheet (get_or (rested places sheets) p FreeSheet)) ∙ length-rested places sheets

-- the page at a place as it was, or at rest
rested_or : (places : List ℕ) (sheets : List Sheet) (at : ℕ) → at < length sheets → (get_or (rested places sheets) at FreeSheet ≡ get_or sheets at FreeSheet) ⊎ (get_or (rested places sheets) at FreeSheet ≡ rested_sheet (get_or sheets at FreeSheet))
rested_or [] sheets at within = inl refl
rested_or (p ∷ places) sheets at within = of (rested_or places sheets at within)
  where
    of : (get_or (rested places sheets) at FreeSheet ≡ get_or sheets at FreeSheet) ⊎ (get_or (rested places sheets) at FreeSheet ≡ rested_sheet (get_or sheets at FreeSheet))
        → (get_or (rested (p ∷ places) sheets) at FreeSheet ≡ get_or sheets at FreeSheet) ⊎ (get_or (rested (p ∷ places) sheets) at FreeSheet ≡ rested_sheet (get_or sheets at FreeSheet))
    of before = let x = rested_sheet (get_or (rested places sheets) p FreeSheet) in ⊎_elim
        (λ e. inr (ap (λ (n : ℕ). get_or (set (rested places sheets) p x) n FreeSheet) e ∙ get_or-set_same (rested places sheets) p x FreeSheet (let l = length-rested places sheets in omega (arith, l, within, e))
        ∙ ap (λ (n : ℕ). rested_sheet (get_or (rested places sheets) n FreeSheet)) (sym e) ∙ ⊎_elim (λ is. ap rested_sheet is) (λ is. ap rested_sheet is ∙ rested_twice (get_or sheets at FreeSheet)) before))
        (λ apart. ⊎_elim (λ is. inl (get_or-set_other (rested places sheets) p at x FreeSheet apart ∙ is)) (λ is. inr (get_or-set_other (rested places sheets) p at x FreeSheet apart ∙ is)) before)
        (place_case at p)

rested_listed : (places : List ℕ) (sheets : List Sheet) (at i : ℕ) → at < length sheets → i < length places → get_or places i 0 ≡ at → get_or (rested places sheets) at FreeSheet ≡ rested_sheet (get_or sheets at FreeSheet)
rested_listed [] sheets at i within less is = absurd (omega (arith, less))
rested_listed (p ∷ places) sheets at zero within less is =
    let x = rested_sheet (get_or (rested places sheets) p FreeSheet) in
    ap (λ (n : ℕ). get_or (set (rested places sheets) p x) n FreeSheet) (sym is) ∙ get_or-set_same (rested places sheets) p x FreeSheet (let l = length-rested places sheets in omega (arith, l, within, is))
    ∙ ap (λ (n : ℕ). rested_sheet (get_or (rested places sheets) n FreeSheet)) is ∙ ⊎_elim (λ was. ap rested_sheet was) (λ was. ap rested_sheet was ∙ rested_twice (get_or sheets at FreeSheet)) (rested_or places sheets at within)
rested_listed (p ∷ places) sheets at (suc i) within less is = of (rested_listed places sheets at i within (omega (arith, less)) is)
  where
    of : get_or (rested places sheets) at FreeSheet ≡ rested_sheet (get_or sheets at FreeSheet) → get_or (rested (p ∷ places) sheets) at FreeSheet ≡ rested_sheet (get_or sheets at FreeSheet)
    of more = ⊎_elim
        (λ e. ap (λ (n : ℕ). get_or (set (rested places sheets) p (rested_sheet (get_or (rested places sheets) p FreeSheet))) n FreeSheet) e
        ∙ get_or-set_same (rested places sheets) p (rested_sheet (get_or (rested places sheets) p FreeSheet)) FreeSheet (let l = length-rested places sheets in omega (arith, l, within, e))
        ∙ ap (λ (n : ℕ). rested_sheet (get_or (rested places sheets) n FreeSheet)) (sym e) ∙ ap rested_sheet more ∙ rested_twice (get_or sheets at FreeSheet))
        (λ apart. get_or-set_other (rested places sheets) p at (rested_sheet (get_or (rested places sheets) p FreeSheet)) FreeSheet apart ∙ more)
        (place_case at p)

lists_same : (xs ys : List Sheet) → length xs ≡ length ys → ((at : ℕ) → at < length ys → get_or xs at FreeSheet ≡ get_or ys at FreeSheet) → xs ≡ ys
lists_same [] [] count same_ = refl
lists_same [] (y ∷ ys) count same_ = absurd (omega (arith, count))
lists_same (x ∷ xs) [] count same_ = absurd (omega (arith, count))
lists_same (x ∷ xs) (y ∷ ys) count same_ = ap (λ (s : Sheet). s ∷ xs) (same_ 0 (omega arith)) ∙ ap (λ (l : List Sheet). y ∷ l) (lists_same xs ys (omega (arith, count)) (λ at less. same_ (suc at) (omega (arith, less))))

pub rested-append : (a b : List ℕ) (sheets : List Sheet) → rested (a ++ b) sheets ≡ rested a (rested b sheets)
rested-append [] b sheets = refl
rested-append (at ∷ a) b sheets = ap (λ (s : List Sheet). set s at (rested_sheet (get_or s at FreeSheet))) (rested-append a b sheets)

-- where all pages in memory that aren't free are listed, each page is at rest then
pub all_rest : (places : List ℕ) (sheets : List Sheet) → ListsLoaded sheets places → rested places sheets ≡ map rested_sheet sheets
all_rest places sheets lists = lists_same (rested places sheets) (map rested_sheet sheets) (length-rested places sheets ∙ sym (length-map sheets rested_sheet))
    (λ at less. let within : at < length sheets = let l = length-map sheets rested_sheet in omega (arith, l, less) in
    ⊎_elim
    (λ rests. ⊎_elim (λ is. is ∙ sym rests) (λ is. is) (rested_or places sheets at within))
    (λ has. let i = at_from_Contains places at has in rested_listed places sheets at i.0 within i.1 (i.2 0))
    (lists.all at within)
    ∙ sym (get_or-map rested_sheet sheets at FreeSheet FreeSheet within))

-- pages at rest may be written
pub rested_kinds : (sheets : List Sheet) → Each IsKind (sheet_kinds (map rested_sheet sheets))
rested_kinds [] = tt
rested_kinds (FreeSheet ∷ sheets) = (tt, rested_kinds sheets)
rested_kinds (AwaySheet ∷ sheets) = (omega arith, rested_kinds sheets)
rested_kinds (SlottedSheet page ∷ sheets) = (omega arith, rested_kinds sheets)
rested_kinds (LongSheet next bytes ∷ sheets) = (omega arith, rested_kinds sheets)

-- the same by two lists of places, one after the other
pub rest_by_both : (first second : List ℕ) (sheets : List Sheet) → ListsLoaded sheets (second ++ first) → rested second (rested first sheets) ≡ map rested_sheet sheets
rest_by_both first second sheets lists = sym (rested-append second first sheets) ∙ all_rest (second ++ first) sheets lists

-- ---- a store of which nothing is in memory

pub flag_at : (sheets : List Sheet) (at : ℕ) → get_or (away_of sheets) at false ≡ is_away (get_or sheets at FreeSheet)
flag_at [] at = refl
flag_at (s ∷ sheets) zero = refl
flag_at (s ∷ sheets) (suc at) = flag_at sheets at

pub kind_at : (sheets : List Sheet) (at : ℕ) → get_or (sheet_kinds sheets) at Free ≡ sheet_kind (get_or sheets at FreeSheet)
kind_at [] at = refl
kind_at (s ∷ sheets) zero = refl
kind_at (s ∷ sheets) (suc at) = kind_at sheets at

-- what was in memory is there
pub loads_there : (old new : List Sheet) (listed now_listed : List ℕ) (at : ℕ) → Loads old new listed now_listed → get_or (away_of old) at false ≡ false → get_or (away_of new) at false ≡ false
loads_there old new listed now_listed at l there =
    flag_at new at ∙ ap is_away (loads_keep old new listed now_listed at l (sym (flag_at old at) ∙ there)) ∙ sym (flag_at old at) ∙ there

away_kind : (s : Sheet) → is_away s ≡ true → sheet_kind s ≡ Slotted []
away_kind FreeSheet is = absurd (cc is)
away_kind AwaySheet is = refl
away_kind (SlottedSheet page) is = absurd (cc is)
away_kind (LongSheet next bytes) is = absurd (cc is)

Rests : Sheet → Type 0
Rests s = (s ≡ FreeSheet) ⊎ (s ≡ AwaySheet)

rests_strings : (s : Sheet) → Rests s → strings_of (sheet_kind s ∷ []) ≡ []
unfolding Rests
rests_strings s rests = ⊎_elim (λ is. ap (λ (x : Sheet). strings_of (sheet_kind x ∷ [])) is) (λ is. ap (λ (x : Sheet). strings_of (sheet_kind x ∷ [])) is) rests

rests_long : (s : Sheet) → Rests s → one_if_long (sheet_kind s) ≡ 0
unfolding Rests
rests_long s rests = ⊎_elim (λ is. ap (λ (x : Sheet). one_if_long (sheet_kind x)) is) (λ is. ap (λ (x : Sheet). one_if_long (sheet_kind x)) is) rests

no_strings : (sheets : List Sheet) → ((at : ℕ) → Rests (get_or sheets at FreeSheet)) → strings_of (sheet_kinds sheets) ≡ []
no_strings [] each = refl
no_strings (s ∷ sheets) each = strings-cons (sheet_kind s) (sheet_kinds sheets) ∙ ap (λ (l : List (List ℕ)). l ++ strings_of (sheet_kinds sheets)) (rests_strings s (each 0)) ∙ no_strings sheets (λ at. each (suc at))

free_case : (p : StorePage) → (p ≡ Plain Free) ⊎ (p ≢ Plain Free)
free_case (Plain Free) = inl refl
free_case (Plain (Slotted ss)) = inr (λ is. cc (ap kind_of is))
free_case (Plain (Long next bytes)) = inr (λ is. cc (ap kind_of is))
free_case (Directory d) = inr (λ is. cc is)

resting_each : (pages : List StorePage) (sheets : List Sheet) → IsResting pages sheets → (at : ℕ) → Rests (get_or sheets at FreeSheet)
unfolding Rests
resting_each pages sheets r at = ⊎_elim
    (λ less. let within : at < length pages = let c = r.count in omega (arith, c, less) in
    ⊎_elim (λ is. inl (r.free at within is)) (λ other. inr (r.others at within other)) (free_case (get_or pages at (Plain Free))))
    (λ past. inl (get_or_past sheets at FreeSheet past))
    (cases_lt at (length sheets))

-- Where each free page is in memory and all others are away, it is a window, which holds nothing.
pub resting_window : (pages : List StorePage) (sheets : List Sheet) → IsResting pages sheets → SheetsAreWindow pages sheets
resting_window pages sheets r = record {
  shows = record {
    count = length-map sheets sheet_kind ∙ r.count;
    flags = length-map sheets is_away ∙ r.count;
    shown = λ at less there. ⊎_elim
        (λ is. is ∙ ap Plain (sym (kind_at sheets at ∙ ap sheet_kind (r.free at less is))))
        (λ other. absurd (cc (sym there ∙ flag_at sheets at ∙ ap is_away (r.others at less other))))
        (free_case (get_or pages at (Plain Free)));
    hidden = λ at gone. kind_at sheets at ∙ away_kind (get_or sheets at FreeSheet) (sym (flag_at sheets at) ∙ gone);
    free = λ at less free. flag_at sheets at ∙ ap is_away (r.free at less free);
  };
  closed = (
    nothing,
    record {
      placed = [];
      strings = no_strings sheets (resting_each pages sheets r);
      items = tt;
      stand = tt;
      long = λ i low. sym (ap one_if_long (kind_at sheets (i - 3)) ∙ rests_long (get_or sheets (i - 3) FreeSheet) (resting_each pages sheets r (i - 3)));
      entries = entries_by_values [] nothing (map_of [] (λ key. omega arith));
    },
  );
}

-- ---- free pages

-- In a window a page is free exactly where that of the store is.
pub window_free : (pages : List StorePage) (now : List Kind) (away : List Bool) (at : ℕ) → ShowsPages pages now away → at < length pages → (get_or now at Free ≡ Free) ↔ (get_or pages at (Plain Free) ≡ Plain Free)
window_free pages now away at shows less = (λ is. of is (get_or away at false) refl, λ is. ap kind_of (sym (shows.shown at less (shows.free at less is)) ∙ is))
  where
    of : get_or now at Free ≡ Free → (b : Bool) → get_or away at false ≡ b → get_or pages at (Plain Free) ≡ Plain Free
    of is true gone = absurd (cc (sym (shows.hidden at gone) ∙ is))
    of is false there = shows.shown at less there ∙ ap Plain is
