-- Laws of a heap at rest: what it shows of its store, and that it rests again after a batch.
use Rattle.std.specs.Prelude.{Bool, true, false, cond, map, ◌==◌}
use Rattle.std.proofs.Common.{◌≡◌, ◌≢◌, ◌⊎◌, inl, inr, ⊎_elim, ℕ, zero, suc, ◌+◌, ◌-◌, ◌<◌, ◌≤◌, List, [], ◌∷◌, ◌++◌, length, get_or, set, refl, sym, ap, subst, ◌∙◌, arith, length-set}
use Rattle.std.specs.List.{Contains}
use Rattle.std.proofs.lemmas.Bool.{cases_eq, eq-eqb, ne_eqb}
use Rattle.std.proofs.lemmas.List.{length-map, get_or-map, get_or-set_same, get_or-set_other}
use Rattle.std.proofs.lemmas.List.Elements.{at_from_Contains, Contains-append_left, Contains-append_right}
use Rattle.pg_map.specs.Holding.{times}
use Rattle.pg_map.specs.Kinds.{Each, Kind, Free, Slotted, Long}
use Rattle.pg_directory.specs.Levels.{pages_of, HasLevels}
use Rattle.pg_directory.specs.Trees.{StorePage, Plain, Directory, kind_of, page_at, key_at, one_if_directory, HasNoDirectory}
use Rattle.pg_directory.specs.declared.entries.Child.{Child}
use Rattle.pg_directory.specs.declared.entries.EntryAt.{EntryAt}
use Rattle.pg_directory.specs.laws.Counting.{rising_differ}
use Rattle.pg_directory.specs.laws.Listing.{first_in, later_in}
use Rattle.pg_directory.specs.laws.Visiting.{are_met}
use Rattle.pg_window.specs.declared.sheets.Sheet.{Sheet}
use Rattle.pg_window.specs.declared.sheets.Sheet.TheVariants.{Free as FreeSheet, Away as AwaySheet, Slotted as SlottedSheet, Long as LongSheet}
use Rattle.pg_window.specs.Sheets.{sheet_kind, sheet_kinds, is_away}
use Rattle.pg_window.specs.Windows.{away_of, SheetsAreWindow}
use Rattle.pg_window.specs.Loading.{IsResting as RestsOver, ListsLoaded, Loads, page_place, rested, rested_sheet, unloaded}
use Rattle.pg_window.specs.laws.Loads.{all_rest, flag_at, kind_at, length-loads, place_case, resting_window as window_at_rest}
use Rattle.pg_plan.specs.Drafts.{Drafted, shown, Shown}
use Rattle.pg_plan.specs.FreePlaces.{times_listed, one_if_free, free_at, ListsFree}
use Rattle.pg_plan.specs.Touched.{AreTouched, IsAsBefore}
use Rattle.pg_plan.specs.laws.Freeing.{times-append}
use Rattle.pg_change.specs.Resting.{AtRest, IsResting, ListsDirectory}

-- ---- sheets one by one

at_rest : (sheets : List Sheet) (at : ℕ) → Each AtRest sheets → AtRest (get_or sheets at FreeSheet)
at_rest [] at each = inl refl
at_rest (s ∷ sheets) zero each = each.0
at_rest (s ∷ sheets) (suc at) each = at_rest sheets at each.1

each_at_rest : (sheets : List Sheet) → ((at : ℕ) → at < length sheets → AtRest (get_or sheets at FreeSheet)) → Each AtRest sheets
each_at_rest [] at = tt
each_at_rest (s ∷ sheets) at = (at 0 (omega arith), each_at_rest sheets (λ i less. at (suc i) (omega (arith, less))))

same_sheets : (xs ys : List Sheet) → length xs ≡ length ys → ((at : ℕ) → at < length ys → get_or xs at FreeSheet ≡ get_or ys at FreeSheet) → xs ≡ ys
same_sheets [] [] count each = refl
same_sheets [] (y ∷ ys) count each = absurd (omega (arith, count))
same_sheets (x ∷ xs) [] count each = absurd (omega (arith, count))
same_sheets (x ∷ xs) (y ∷ ys) count each = ap (λ (s : Sheet). s ∷ xs) (each 0 (omega arith)) ∙ ap (λ (l : List Sheet). y ∷ l) (same_sheets xs ys (omega (arith, count)) (λ at less. each (suc at) (omega (arith, less))))

-- a page that is free or away is told by its kind and its mark
free_sheet : (s : Sheet) → sheet_kind s ≡ Free → s ≡ FreeSheet
free_sheet FreeSheet is = refl
free_sheet AwaySheet is = absurd (cc is)
free_sheet (SlottedSheet page) is = absurd (cc is)
free_sheet (LongSheet next bytes) is = absurd (cc is)

away_sheet : (s : Sheet) → is_away s ≡ true → s ≡ AwaySheet
away_sheet FreeSheet is = absurd (cc is)
away_sheet AwaySheet is = refl
away_sheet (SlottedSheet page) is = absurd (cc is)
away_sheet (LongSheet next bytes) is = absurd (cc is)

-- one that is seen as one at rest is that one
seen_at_rest : (s t : Sheet) → AtRest t → sheet_kind s ≡ sheet_kind t → is_away s ≡ is_away t → s ≡ t
seen_at_rest s t rests kind mark = ⊎_elim
    (λ is. free_sheet s (kind ∙ ap sheet_kind is) ∙ sym is)
    (λ is. away_sheet s (mark ∙ ap is_away is) ∙ sym is) rests

rests_still : (s : Sheet) → AtRest s → rested_sheet s ≡ s
rests_still s rests = ⊎_elim (λ is. ap rested_sheet is ∙ sym is) (λ is. ap rested_sheet is ∙ sym is) rests

rested_rests : (s : Sheet) → AtRest (rested_sheet s)
rested_rests FreeSheet = inl refl
rested_rests AwaySheet = inr refl
rested_rests (SlottedSheet page) = inr refl
rested_rests (LongSheet next bytes) = inr refl

all_rested : (sheets : List Sheet) → Each AtRest (map rested_sheet sheets)
all_rested [] = tt
all_rested (s ∷ sheets) = (rested_rests s, all_rested sheets)

free_rested : (s : Sheet) → one_if_free (sheet_kind (rested_sheet s)) ≡ one_if_free (sheet_kind s)
free_rested FreeSheet = refl
free_rested AwaySheet = refl
free_rested (SlottedSheet page) = refl
free_rested (LongSheet next bytes) = refl

free_as_before : (sheets : List Sheet) (at : ℕ) → free_at (sheet_kinds (map rested_sheet sheets)) at ≡ free_at (sheet_kinds sheets) at
free_as_before [] at = refl
free_as_before (s ∷ sheets) zero = free_rested s
free_as_before (s ∷ sheets) (suc at) = free_as_before sheets at

-- ---- pages that are away again

unloaded_or : (places : List ℕ) (sheets : List Sheet) (at : ℕ) → Contains places at ⊎ (get_or (unloaded places sheets) at FreeSheet ≡ get_or sheets at FreeSheet)
unloaded_or [] sheets at = inr refl
unloaded_or (p ∷ places) sheets at = of (unloaded_or places sheets at)
  where
    of : Contains places at ⊎ (get_or (unloaded places sheets) at FreeSheet ≡ get_or sheets at FreeSheet) → Contains (p ∷ places) at ⊎ (get_or (unloaded (p ∷ places) sheets) at FreeSheet ≡ get_or sheets at FreeSheet)
    of before = ⊎_elim
        (λ e. inl (subst (λ (n : ℕ). Contains (p ∷ places) n) (sym e) (first_in p places)))
        (λ apart. ⊎_elim (λ has. inl (later_in p at places has)) (λ is. inr (get_or-set_other (unloaded places sheets) p at AwaySheet FreeSheet apart ∙ is)) before)
        (place_case at p)

length-unloaded : (places : List ℕ) (sheets : List Sheet) → length (unloaded places sheets) ≡ length sheets
length-unloaded [] sheets = refl
length-unloaded (p ∷ places) sheets = length-set (unloaded places sheets) p AwaySheet ∙ length-unloaded places sheets

unloaded_there : (places : List ℕ) (sheets : List Sheet) (at i : ℕ) → at < length sheets → i < length places → get_or places i 0 ≡ at → get_or (unloaded places sheets) at FreeSheet ≡ AwaySheet
unloaded_there [] sheets at i within less is = absurd (omega (arith, less))
unloaded_there (p ∷ places) sheets at zero within less is =
    ap (λ (n : ℕ). get_or (set (unloaded places sheets) p AwaySheet) n FreeSheet) (sym is) ∙ get_or-set_same (unloaded places sheets) p AwaySheet FreeSheet (let l = length-unloaded places sheets in omega (arith, l, within, is))
unloaded_there (p ∷ places) sheets at (suc i) within less is = ⊎_elim
    (λ e. ap (λ (n : ℕ). get_or (set (unloaded places sheets) p AwaySheet) n FreeSheet) e ∙ get_or-set_same (unloaded places sheets) p AwaySheet FreeSheet (let l = length-unloaded places sheets in omega (arith, l, within, e)))
    (λ apart. get_or-set_other (unloaded places sheets) p at AwaySheet FreeSheet apart ∙ unloaded_there places sheets at i within (omega (arith, less)) is)
    (place_case at p)

-- ---- the pages of the directory

-- the places of numbers, as often as the numbers
listed_numbers : (ns : List ℕ) (at : ℕ) → Each (λ (n : ℕ). 3 ≤ n) ns → times_listed (map (λ (n : ℕ). n - 3) ns) at ≡ times (3 + at) ns
listed_numbers [] at low = refl
listed_numbers (n ∷ ns) at low = of (listed_numbers ns at low.1)
  where
    of : times_listed (map (λ (k : ℕ). k - 3) ns) at ≡ times (3 + at) ns → times_listed (map (λ (k : ℕ). k - 3) (n ∷ ns)) at ≡ times (3 + at) (n ∷ ns)
    of more = ⊎_elim
        (λ same. let number : n ≡ 3 + at = let l = low.0 in omega (arith, same, l) in with_first true (eq-eqb (n - 3) at same) (eq-eqb n (3 + at) number))
        (λ apart. with_first false (ne_eqb (n - 3) at apart) (ne_eqb n (3 + at) (λ number. apart (omega (arith, number)))))
        (cases_eq (n - 3) at)
      where
        counted : (x : Bool) → cond x 1 0 + times_listed (map (λ (k : ℕ). k - 3) ns) at ≡ cond x (1 + times (3 + at) ns) (times (3 + at) ns)
        counted true = omega (arith, more)
        counted false = omega (arith, more)

        with_first : (b : Bool) → (n - 3 == at) ≡ b → (n == 3 + at) ≡ b → times_listed (map (λ (k : ℕ). k - 3) (n ∷ ns)) at ≡ times (3 + at) (n ∷ ns)
        with_first b place number =
            ap (λ (x : Bool). cond x 1 0 + times_listed (map (λ (k : ℕ). k - 3) ns) at) place ∙ counted b ∙ sym (ap (λ (x : Bool). cond x (1 + times (3 + at) ns) (times (3 + at) ns)) number)

lists_numbers : (pages : List StorePage) (numbers : List ℕ) → Each (λ (n : ℕ). 3 ≤ n) numbers → ((i : ℕ) → 3 ≤ i → times i numbers ≡ one_if_directory (page_at pages i)) → ListsDirectory pages (map (λ (n : ℕ). n - 3) numbers)
lists_numbers pages numbers low once = record {
  each = λ at. let back : (3 + at) - 3 ≡ at = omega arith in
      listed_numbers numbers at low ∙ once (3 + at) (omega arith) ∙ ap (λ (k : ℕ). one_if_directory (get_or pages k (Plain Free))) back;
}

-- those of its levels
pub levels_listed : (pages : List StorePage) (top : ℕ) (inner : List ℕ) (leaves : List Child) (es : List EntryAt) → HasLevels pages top inner leaves es → ListsDirectory pages (map (λ (n : ℕ). n - 3) (inner ++ pages_of leaves))
levels_listed pages top inner leaves es h =
    let met = are_met pages h.level (record { page = top; least = h.least } ∷ []) inner leaves es h.leads h.are (rising_differ (key_at pages) es h.order) in
    lists_numbers pages (inner ++ pages_of leaves) (each (inner ++ pages_of leaves) (λ k has. (met.levels k has).low)) h.once
  where
    each : (ns : List ℕ) → ((k : ℕ) → Contains ns k → 3 ≤ k) → Each (λ (n : ℕ). 3 ≤ n) ns
    each [] low = tt
    each (n ∷ ns) low = (low n (first_in n ns), each ns (λ k has. low k (later_in n k ns has)))

-- where there is no directory there are none
pub none_listed : (pages : List StorePage) (top : ℕ) (inner : List ℕ) (leaves : List Child) → HasNoDirectory pages top → inner ≡ [] → leaves ≡ [] → ListsDirectory pages (map (λ (n : ℕ). n - 3) (inner ++ pages_of leaves))
none_listed pages top inner leaves none no_inner no_leaves =
    subst (λ (l : List ℕ). ListsDirectory pages (map (λ (n : ℕ). n - 3) (l ++ pages_of leaves))) (sym no_inner)
    (subst (λ (l : List Child). ListsDirectory pages (map (λ (n : ℕ). n - 3) (pages_of l))) (sym no_leaves) (lists_numbers pages [] tt (λ i low. sym (none.no i low))))

-- ---- what a heap at rest shows

free_within : (pages : List StorePage) (at : ℕ) → at < length pages → free_at (map kind_of pages) at ≡ one_if_free (kind_of (get_or pages at (Plain Free)))
free_within [] at less = absurd (omega (arith, less))
free_within (p ∷ pages) zero less = refl
free_within (p ∷ pages) (suc at) less = free_within pages at (omega (arith, less))

kind_free : (sheets : List Sheet) (at : ℕ) → at < length sheets → free_at (sheet_kinds sheets) at ≡ one_if_free (sheet_kind (get_or sheets at FreeSheet))
kind_free [] at less = absurd (omega (arith, less))
kind_free (s ∷ sheets) zero less = refl
kind_free (s ∷ sheets) (suc at) less = kind_free sheets at (omega (arith, less))

free_by_count : (s : Sheet) → AtRest s → one_if_free (sheet_kind s) ≡ 1 → s ≡ FreeSheet
free_by_count s rests one = ⊎_elim (λ is. is) (λ is. absurd (let z = ap (λ (x : Sheet). one_if_free (sheet_kind x)) is in omega (arith, z, one))) rests

away_by_count : (s : Sheet) → AtRest s → one_if_free (sheet_kind s) ≡ 0 → s ≡ AwaySheet
away_by_count s rests none = ⊎_elim (λ is. absurd (let z = ap (λ (x : Sheet). one_if_free (sheet_kind x)) is in omega (arith, z, none))) (λ is. is) rests

-- a page of a store is free, or away where nothing is in memory
used_page : (p : StorePage) (a : ℕ) → p ≢ Plain Free → a + one_if_directory p ≡ one_if_free (kind_of p) → a ≡ 0
used_page (Plain Free) a used count = absurd (used refl)
used_page (Plain (Slotted ss)) a used count = omega (arith, count)
used_page (Plain (Long next bytes)) a used count = omega (arith, count)
used_page (Directory d) a used count = omega (arith, count)

module _ (pages : List StorePage) (sheets : List Sheet) (homes : ℕ) (free directory : List ℕ) where
  rests_over : homes ≡ 3 + length pages → ListsFree (map kind_of pages) (free ++ directory) → ListsDirectory pages directory → IsResting sheets homes free → RestsOver pages sheets
  rests_over all listed own r =
      let count : length sheets ≡ length pages = let c = r.count in omega (arith, all, c) in
      let seen : (at : ℕ) → at < length pages → one_if_free (sheet_kind (get_or sheets at FreeSheet)) + one_if_directory (get_or pages at (Plain Free)) ≡ one_if_free (kind_of (get_or pages at (Plain Free))) = λ at less.
      let a = times-append free directory at in
      let b = listed.each at in
      let c = own.each at in
      let d = r.listed.each at in
      let e = kind_free sheets at (omega (arith, less, count)) in
      let f = free_within pages at less in
      omega (arith, a, b, c, d, e, f) in
      record {
        count = count;
        free = λ at less is. free_by_count (get_or sheets at FreeSheet) (at_rest sheets at r.rests)
            (let s = seen at less in let a = ap one_if_directory is in let b = ap (λ (p : StorePage). one_if_free (kind_of p)) is in omega (arith, s, a, b));
        others = λ at less used. away_by_count (get_or sheets at FreeSheet) (at_rest sheets at r.rests) (used_page (get_or pages at (Plain Free)) (one_if_free (sheet_kind (get_or sheets at FreeSheet))) used (seen at less));
      }

  -- Where nothing but free pages is in memory, it is a window on the store, in which there is no entry.
  pub resting_window : homes ≡ 3 + length pages → ListsFree (map kind_of pages) (free ++ directory) → ListsDirectory pages directory → IsResting sheets homes free → SheetsAreWindow pages sheets
  resting_window all listed own r = window_at_rest pages sheets (rests_over all listed own r)

-- ---- after a batch

-- the place of a number that is listed
place_listed : (numbers : List ℕ) (at : ℕ) → Contains numbers (at + 3) → Contains (map (λ (n : ℕ). n - 3) numbers) at
place_listed numbers at has =
    let i = at_from_Contains numbers (at + 3) has in
    let back : (at + 3) - 3 ≡ at = omega arith in (
      i.0,
      let l = length-map numbers (λ (n : ℕ). n - 3) in let less = i.1 in omega (arith, l, less),
      get_or-map (λ (n : ℕ). n - 3) numbers i.0 0 at i.1 ∙ ap (λ (n : ℕ). n - 3) (i.2 0) ∙ back,
    )

-- the pages of a draft, as lists of which each is at rest, or at a place where one was loaded or changed
module _ (before loaded_sheets : List Sheet) (homes : ℕ) (free loaded : List ℕ) where
  all_back : IsResting before homes free → Loads before loaded_sheets [] loaded → unloaded loaded loaded_sheets ≡ before
  all_back r l = ap (λ (n : List ℕ). unloaded n loaded_sheets) l.list ∙ l.back

  -- a page that wasn't loaded is at rest
  unloaded_rests : IsResting before homes free → Loads before loaded_sheets [] loaded → (at : ℕ) → Contains loaded at ⊎ AtRest (get_or loaded_sheets at FreeSheet)
  unloaded_rests r l at = ⊎_elim (λ has. inl has)
      (λ is. inr (subst AtRest (ap (λ (s : List Sheet). get_or s at FreeSheet) (sym (all_back r l)) ∙ is) (at_rest before at r.rests)))
      (unloaded_or loaded loaded_sheets at)

  -- After a batch that was committed, its pages rest again once those are put to rest that were loaded or changed.
  pub rests_again : (d : Drafted) (now_free numbers places : List ℕ) (sheets : List Sheet) → IsResting before homes free → Loads before loaded_sheets [] loaded → d.before ≡ shown loaded_sheets → sheet_kinds sheets ≡ d.now → away_of sheets ≡ d.away
      → AreTouched d numbers → ListsFree d.now now_free → ((at : ℕ) → Contains loaded at → Contains places at) → ((at : ℕ) → Contains numbers (at + 3) → Contains places at) → IsResting (rested places sheets) (3 + length d.now) now_free
  rests_again d now_free numbers places sheets r l begun kinds marks touched listed has_loaded has_touched =
      subst (λ (s : List Sheet). IsResting s (3 + length d.now) now_free) (sym (all_rest places sheets lists)) (record {
        count = let a = length-map sheets rested_sheet in let b = count_is in omega (arith, a, b);
        rests = all_rested sheets;
        listed = record { each = λ at. listed.each at ∙ ap (λ (k : List Kind). free_at k at) (sym kinds) ∙ sym (free_as_before sheets at) };
      })
    where
      count_is : length sheets ≡ length d.now
      count_is = sym (length-map sheets sheet_kind) ∙ ap (λ (k : List Kind). length k) kinds

      as_before : (at : ℕ) → IsAsBefore d at → AtRest (get_or loaded_sheets at FreeSheet) → rested_sheet (get_or sheets at FreeSheet) ≡ get_or sheets at FreeSheet
      as_before at same_ rests =
          let kind : sheet_kind (get_or sheets at FreeSheet) ≡ sheet_kind (get_or loaded_sheets at FreeSheet) =
          sym (kind_at sheets at) ∙ ap (λ (k : List Kind). get_or k at Free) kinds ∙ sym same_.kind ∙ ap (λ (s : Shown). get_or s.kinds at Free) begun ∙ kind_at loaded_sheets at in
          let mark : is_away (get_or sheets at FreeSheet) ≡ is_away (get_or loaded_sheets at FreeSheet) =
          sym (flag_at sheets at) ∙ ap (λ (b : List Bool). get_or b at false) marks ∙ sym same_.away ∙ ap (λ (s : Shown). get_or s.away at false) begun ∙ flag_at loaded_sheets at in
          let is = seen_at_rest (get_or sheets at FreeSheet) (get_or loaded_sheets at FreeSheet) rests kind mark in
          rests_still (get_or sheets at FreeSheet) (subst AtRest (sym is) rests)

      lists : ListsLoaded sheets places
      lists = record {
        all = λ at less. ⊎_elim (λ has. inr (has_touched at has))
            (λ same_. ⊎_elim (λ has. inr (has_loaded at has)) (λ rests. inl (as_before at same_ rests)) (unloaded_rests r l at))
            (touched.all at (let c = count_is in omega (arith, c, less)));
      }

  -- The same where they are listed one behind the other, those that were changed by their numbers.
  pub all_rest_again : (d : Drafted) (now_free numbers : List ℕ) (sheets : List Sheet) → IsResting before homes free → Loads before loaded_sheets [] loaded → d.before ≡ shown loaded_sheets → sheet_kinds sheets ≡ d.now → away_of sheets ≡ d.away
      → AreTouched d numbers → ListsFree d.now now_free → IsResting (rested (map page_place numbers ++ loaded) sheets) (3 + length d.now) now_free
  all_rest_again d now_free numbers sheets r l begun kinds marks touched listed =
      rests_again d now_free numbers (map page_place numbers ++ loaded) sheets r l begun kinds marks touched listed
      (λ at has. Contains-append_right (map page_place numbers) loaded at has)
      (λ at has. Contains-append_left (map page_place numbers) loaded at (place_listed numbers at has))

  -- After a batch that is given up, the pages are what they were once those that were loaded are away again.
  pub rests_as_before : (sheets : List Sheet) → IsResting before homes free → Loads before loaded_sheets [] loaded → shown sheets ≡ shown loaded_sheets → unloaded loaded sheets ≡ before
  rests_as_before sheets r l seen = same_sheets (unloaded loaded sheets) before (length-unloaded loaded sheets ∙ count_is ∙ length-loads before loaded_sheets [] loaded l) same_at
    where
      kinds : sheet_kinds sheets ≡ sheet_kinds loaded_sheets
      kinds = ap (λ (s : Shown). s.kinds) seen

      count_is : length sheets ≡ length loaded_sheets
      count_is = sym (length-map sheets sheet_kind) ∙ ap (λ (k : List Kind). length k) kinds ∙ length-map loaded_sheets sheet_kind

      was : (at : ℕ) → get_or (unloaded loaded loaded_sheets) at FreeSheet ≡ get_or before at FreeSheet
      was at = ap (λ (s : List Sheet). get_or s at FreeSheet) (all_back r l)

      gone : (at : ℕ) → at < length before → Contains loaded at → get_or (unloaded loaded sheets) at FreeSheet ≡ get_or before at FreeSheet
      gone at less has =
          let i = at_from_Contains loaded at has in
          let n = length-loads before loaded_sheets [] loaded l in
          let c = count_is in
          unloaded_there loaded sheets at i.0 (omega (arith, n, c, less)) i.1 (i.2 0) ∙ sym (unloaded_there loaded loaded_sheets at i.0 (omega (arith, n, less)) i.1 (i.2 0)) ∙ was at

      seen_at : (at : ℕ) → AtRest (get_or loaded_sheets at FreeSheet) → get_or sheets at FreeSheet ≡ get_or loaded_sheets at FreeSheet
      seen_at at rests = seen_at_rest (get_or sheets at FreeSheet) (get_or loaded_sheets at FreeSheet) rests
          (sym (kind_at sheets at) ∙ ap (λ (k : List Kind). get_or k at Free) kinds ∙ kind_at loaded_sheets at)
          (sym (flag_at sheets at) ∙ ap (λ (s : Shown). get_or s.away at false) seen ∙ flag_at loaded_sheets at)

      same_at : (at : ℕ) → at < length before → get_or (unloaded loaded sheets) at FreeSheet ≡ get_or before at FreeSheet
      same_at at less = ⊎_elim (λ has. gone at less has)
          (λ is. ⊎_elim (λ has. gone at less has)
          (λ still. still ∙ seen_at at (subst AtRest (sym (was at) ∙ is) (at_rest before at r.rests)) ∙ sym is ∙ was at)
          (unloaded_or loaded sheets at))
          (unloaded_or loaded loaded_sheets at)
