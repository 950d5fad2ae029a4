-- The directory of a store that is opened: what is read of it is its own, and there are as many pages and entries as there should be.
use Rattle.std.specs.Prelude.{Bool, true, false, cond, map, Vec}
use Rattle.std.specs.Option.{option_map}
use Rattle.std.specs.declared.alloc.Global.{Global}
use Rattle.std.proofs.Common.{◌≡◌, ◌≢◌, ⊎_elim, ℕ, zero, suc, ◌+◌, ◌-◌, ◌==◌, ◌≤◌, ◌<◌, List, [], ◌∷◌, ◌++◌, length, length-append, take, get_or, append-nil, Option, Some, None, refl, sym, ap, subst, ◌∙◌, arith}
use Rattle.std.specs.List.{Contains}
use Rattle.std.proofs.lemmas.Bool.{eqb-true}
use Rattle.std.proofs.lemmas.List.{length-map, take_all}
use Rattle.pg_map.specs.Kinds.{Each, Free, Slotted, Long, strings_of}
use Rattle.pg_map.specs.Holding.{times}
use Rattle.pg_map.specs.laws.MapReading.{strings-cons}
use Rattle.pg_directory.specs.declared.directories.Directory.{Directory as OpenDirectory}
use Rattle.pg_directory.specs.declared.noting.PageNote.{PageNote}
use Rattle.pg_directory.specs.declared.noting.PageNote.TheVariants.{Free as FreeNote, Slotted as SlottedNote, Long as LongNote, Directory as DirectoryNote}
use Rattle.pg_directory.specs.declared.entries.EntryAt.{EntryAt}
use Rattle.pg_directory.specs.declared.entries.Child.{Child}
use Rattle.pg_directory.specs.Pages.{Leaf, Inner, named}
use Rattle.pg_directory.specs.Trees.{StorePage, Plain, Directory, IsPage, kind_of, page_at, key_at, one_if_directory, AreTrees, IsTree, IsDirectory, first_of}
use Rattle.pg_directory.specs.Counting.{directory_numbers}
use Rattle.pg_directory.specs.Levels.{pages_of, AreLeaves, LeadsTo, HasLevels}
use Rattle.pg_directory.specs.Noting.{note_of}
use Rattle.pg_directory.specs.OpenDirectory.{IsOpenOr}
use Rattle.pg_directory.specs.ReadLevels.{LevelsOr}
use Rattle.pg_directory.specs.Walking.{AreInOrder, AreWalkedOr}
use Rattle.pg_directory.specs.laws.Counting.{Differ, few, rising_differ, all_named}
use Rattle.pg_directory.specs.laws.Levels.{HasSomeLevels, levels_of_directory}
use Rattle.pg_directory.specs.laws.Listing.{none_in, in_more, first_in, later_in}
use Rattle.pg_directory.specs.laws.Places.{as_many_entries}
use Rattle.pg_directory.specs.laws.Visiting.{AreMet, are_met, each_met, numbered}
use Rattle.pg_directory.proofs.LevelReads.{first_at}
use Rattle.pg_directory.proofs.LevelsRead.{top_is, one_level}
use Rattle.pg_directory.proofs.Strings.{directory_good}
use Rattle.pg_directory.proofs.ValuesTaken.{note_at}

-- ---- what a level leads to is one

pub one_leaves : (pages : List StorePage) (cs : List Child) (es fs : List EntryAt) → AreLeaves pages cs es → AreLeaves pages cs fs → es ≡ fs
one_leaves pages [] es fs a b = a ∙ sym b
one_leaves pages (c ∷ cs) es fs (own, later, low, at, first, more, is) (own2, later2, low2, at2, first2, more2, is2) =
    is ∙ ap (λ (l : List EntryAt). l ++ later) (ap items (sym at ∙ at2)) ∙ ap (λ (l : List EntryAt). own2 ++ l) (one_leaves pages cs later later2 more more2) ∙ sym is2
  where
    items : StorePage → List EntryAt
    items (Plain k) = []
    items (Directory (Leaf xs)) = xs
    items (Directory (Inner l xs)) = []

one_leads : (pages : List StorePage) (level : ℕ) (cs : List Child) (a b : List ℕ) (xs ys : List Child) → LeadsTo pages level cs a xs → LeadsTo pages level cs b ys → (a ≡ b) × (xs ≡ ys)
one_leads pages zero cs a b xs ys (none, same) (none2, same2) = (none ∙ sym none2, same ∙ sym same2)
one_leads pages (suc level) cs a b xs ys (ds, below, is_level, leads, numbers) (ds2, below2, is_level2, leads2, numbers2) =
    let same : ds2 ≡ ds = one_level pages (suc level) cs ds2 ds is_level2 is_level in
    let r = one_leads pages level ds below below2 xs ys leads (subst (λ (l : List Child). LeadsTo pages level l below2 ys) same leads2) in
    (numbers ∙ ap (λ (l : List ℕ). pages_of cs ++ l) r.0 ∙ sym numbers2, r.1)

-- ---- the numbers of the pages of a directory

pub number_low : (first : ℕ) (pages : List StorePage) (i : ℕ) → Contains (directory_numbers first pages) i → first ≤ i
number_low first [] i has = absurd (none_in i has)
number_low first (Plain k ∷ pages) i has = let l = number_low (suc first) pages i has in omega (arith, l)
number_low first (Directory d ∷ pages) i has = ⊎_elim (λ same. omega (arith, same)) (λ more. let l = number_low (suc first) pages i more in omega (arith, l)) (in_more first i (directory_numbers (suc first) pages) has)

numbers_differ : (first : ℕ) (pages : List StorePage) → Differ (directory_numbers first pages)
numbers_differ first [] = tt
numbers_differ first (Plain k ∷ pages) = numbers_differ (suc first) pages
numbers_differ first (Directory d ∷ pages) = (each (directory_numbers (suc first) pages) (λ i has. number_low (suc first) pages i has), numbers_differ (suc first) pages)
  where
    each : (ns : List ℕ) → ((i : ℕ) → Contains ns i → suc first ≤ i) → Each (λ (i : ℕ). first ≢ i) ns
    each [] low = tt
    each (n ∷ ns) low = (λ same. let l = low n (first_in n ns) in omega (arith, same, l), each ns (λ i has. low i (later_in n i ns has)))

-- each of them is the number of such a page
pub number_is : (first : ℕ) (pages : List StorePage) (i : ℕ) → Contains (directory_numbers first pages) i → one_if_directory (get_or pages (i - first) (Plain Free)) ≡ 1
number_is first [] i has = absurd (none_in i has)
number_is first (Plain k ∷ pages) i has =
    let l = number_low (suc first) pages i has in
    let e : i - first ≡ suc (i - suc first) = omega (arith, l) in
    ap (λ (n : ℕ). one_if_directory (get_or (Plain k ∷ pages) n (Plain Free))) e ∙ number_is (suc first) pages i has
number_is first (Directory d ∷ pages) i has = ⊎_elim
    (λ same. let e : i - first ≡ 0 = omega (arith, same) in ap (λ (n : ℕ). one_if_directory (get_or (Directory d ∷ pages) n (Plain Free))) e)
    (λ more.
    let l = number_low (suc first) pages i more in
    let e : i - first ≡ suc (i - suc first) = omega (arith, l) in
    ap (λ (n : ℕ). one_if_directory (get_or (Directory d ∷ pages) n (Plain Free))) e ∙ number_is (suc first) pages i more)
    (in_more first i (directory_numbers (suc first) pages) has)

counted_in : (i : ℕ) (ns : List ℕ) → 1 ≤ times i ns → Contains ns i
counted_in i [] some = absurd (omega (arith, some))
counted_in i (n ∷ ns) some = of (n == i) refl (λ more. counted_in i ns more)
  where
    of : (b : Bool) → (n == i) ≡ b → (1 ≤ times i ns → Contains ns i) → Contains (n ∷ ns) i
    of true is again = subst (λ (k : ℕ). Contains (n ∷ ns) k) (eqb-true n i is) (first_in n ns)
    of false is again = later_in n i ns (again (subst (λ (b : Bool). 1 ≤ cond b (1 + times i ns) (times i ns)) is some))

-- ---- a directory names an entry

pub record IsSome (es : List EntryAt) : Type 0 where
  pub first : EntryAt
  pub rest : List EntryAt
  pub is : es ≡ first ∷ rest

some_entries : (pages : List StorePage) (are : Each IsPage pages) (level n : ℕ) (numbers : List ℕ) (es : List EntryAt) → IsTree pages level n numbers es → IsSome es
some_entries pages are zero n numbers es (low, at, ns) = of es (directory_good pages n (Leaf es) are at).0
  where
    of : (es : List EntryAt) → 1 ≤ length es → IsSome es
    of [] some = absurd (omega (arith, some))
    of (e ∷ es) some = record { first = e; rest = es; is = refl }
some_entries pages are (suc level) n numbers es (low, cs, below, at, ns, trees) = of cs (directory_good pages n (Inner (suc level) cs) are at).0 trees
  where
    of : (cs : List Child) → 1 ≤ length cs → AreTrees (IsTree pages level) cs below es → IsSome es
    of [] some trees = absurd (omega (arith, some))
    of (c ∷ cs) some (own, mine, later, behind, t, first, more, ns2, is) = with_first mine first is
      where
        with_first : (mine : List EntryAt) → first_of mine ≡ Some c.least → es ≡ mine ++ behind → IsSome es
        with_first [] first is = absurd (cc first)
        with_first (e ∷ mine) first is = record { first = e; rest = mine ++ behind; is = is }

pub levels_there : (pages : List StorePage) (are : Each IsPage pages) (top : ℕ) (es : List EntryAt) → IsDirectory pages top es → HasSomeLevels pages top es
levels_there pages are top es dir =
    let s = some_entries pages are dir.level top dir.numbers es dir.tree in
    subst (HasSomeLevels pages top) (sym s.is) (levels_of_directory pages top s.first s.rest (subst (IsDirectory pages top) s.is dir))

-- ---- as many as there are

module _ (pages : List StorePage) (top : ℕ) (inner : List ℕ) (leaves : List Child) (es : List EntryAt) (h : HasLevels pages top inner leaves es) where
  met : AreMet pages h.level (record { page = top; least = h.least } ∷ []) (inner ++ pages_of leaves)
  met = are_met pages h.level (record { page = top; least = h.least } ∷ []) inner leaves es h.leads h.are (rising_differ (key_at pages) es h.order)

  pub as_many_pages : length (inner ++ pages_of leaves) ≡ length (directory_numbers 3 pages)
  as_many_pages =
      let most = few (inner ++ pages_of leaves) (directory_numbers 3 pages) met.differ (λ k has.
      let l = met.levels k has in
      let m : 3 + (k - 3) ≡ k = let o = l.low in omega (arith, o) in
      subst (λ (x : ℕ). Contains (directory_numbers 3 pages) x) m (numbered 3 pages (k - 3) l.directory l.at)) in
      let least = few (directory_numbers 3 pages) (inner ++ pages_of leaves) (numbers_differ 3 pages) (λ k has.
      let low = number_low 3 pages k has in
      let one = h.once k low ∙ number_is 3 pages k has in
      counted_in k (inner ++ pages_of leaves) (omega (arith, one))) in
      omega (arith, most, least)

  pub parts_few : (limit : ℕ) → limit ≡ length (directory_numbers 3 pages) → (length inner ≤ limit) × (length leaves ≤ limit)
  parts_few limit is =
      let a = as_many_pages in
      let b = length-append inner (pages_of leaves) in
      let c = length-map leaves (λ (x : Child). x.page) in
      (omega (arith, a, b, c, is), omega (arith, a, b, c, is))

  pub in_order : (limit : ℕ) → limit ≡ length (strings_of (map kind_of pages)) → AreInOrder pages es limit
  in_order limit is = record { strings = h.strings; order = h.order; few = let e = as_many_entries pages top inner leaves es h in omega (arith, e, is) }

  -- what was read from the top is this
  pub same_parts : (read : List ℕ) (there : List Child) (limit : ℕ) → LevelsOr (Some (read, there)) pages top limit → (read ≡ inner) × (there ≡ leaves)
  same_parts read there limit (level, least, leads, says) =
      let t = top_is pages top h.level h.least inner leaves es h.leads h.are in
      let s = says t.directory t.at in
      let l : level ≡ h.level = s.0 ∙ t.level_is in
      let f : least ≡ h.least = s.1 ∙ first_at (named t.directory) h.least t.first in
      one_leads pages h.level (record { page = top; least = h.least } ∷ []) read inner there leaves
      (subst (λ (n : ℕ). LeadsTo pages n (record { page = top; least = h.least } ∷ []) read there) l
      (subst (λ (e : EntryAt). LeadsTo pages level (record { page = top; least = e } ∷ []) read there) f leads)) h.leads

-- ---- the ways out

module _ (pages : List StorePage) (are : Each IsPage pages) (top : ℕ) where
  pub no_levels : (limit : ℕ) → limit ≡ length (directory_numbers 3 pages) → LevelsOr None pages top limit → IsOpenOr None pages top
  no_levels limit is no_ es dir =
      let s = levels_there pages are top es dir in
      let f = parts_few pages top s.inner s.leaves es s.is limit is in
      no_ s.is.level s.is.least s.inner s.leaves es s.is.leads s.is.are f.0 f.1

  pub other_count : (limit : ℕ) (read : List ℕ) (there : List Child) → limit ≡ length (directory_numbers 3 pages) → LevelsOr (Some (read, there)) pages top limit → (length read + length there ≡ limit → ⊥) → IsOpenOr None pages top
  other_count limit read there is levels other es dir =
      let s = levels_there pages are top es dir in
      let p = same_parts pages top s.inner s.leaves es s.is read there limit levels in
      let a = as_many_pages pages top s.inner s.leaves es s.is in
      let b = length-append s.inner (pages_of s.leaves) in
      let c = length-map s.leaves (λ (x : Child). x.page) in
      let d = ap (λ (l : List ℕ). length l) p.0 in
      let e = ap (λ (l : List Child). length l) p.1 in
      other (omega (arith, a, b, c, d, e, is))

  pub not_walked : (limit strings : ℕ) (read : List ℕ) (there : List Child) → strings ≡ length (strings_of (map kind_of pages)) → LevelsOr (Some (read, there)) pages top limit → AreWalkedOr None pages there strings → IsOpenOr None pages top
  not_walked limit strings read there is levels no_ es dir =
      let s = levels_there pages are top es dir in
      let p = same_parts pages top s.inner s.leaves es s.is read there limit levels in
      no_ es (subst (λ (l : List Child). AreLeaves pages l es) (sym p.1) s.is.are) (in_order pages top s.inner s.leaves es s.is strings is)

  pub other_entries : (limit strings count : ℕ) (read : List ℕ) (there : List Child) → strings ≡ length (strings_of (map kind_of pages)) → LevelsOr (Some (read, there)) pages top limit → AreWalkedOr (Some count) pages there strings → (count ≡ strings → ⊥) → IsOpenOr None pages top
  other_entries limit strings count read there is levels (fs, leaves_are, order, long) other es dir =
      let s = levels_there pages are top es dir in
      let p = same_parts pages top s.inner s.leaves es s.is read there limit levels in
      let same : fs ≡ es = one_leaves pages s.leaves fs es (subst (λ (l : List Child). AreLeaves pages l fs) p.1 leaves_are) s.is.are in
      let a = as_many_entries pages top s.inner s.leaves es s.is in
      let b = ap (λ (l : List EntryAt). length l) same in
      other (omega (arith, a, b, long, is))

  pub all_read : (limit strings count : ℕ) (d : OpenDirectory) → limit ≡ length (directory_numbers 3 pages) → strings ≡ length (strings_of (map kind_of pages)) → LevelsOr (Some (d.inner.items, d.leaves.items)) pages top limit
      → length d.inner.items + length d.leaves.items ≡ limit → AreWalkedOr (Some count) pages d.leaves.items strings → count ≡ strings → IsOpenOr (Some d) pages top
  all_read limit strings count d is strings_are (level, least, leads, says) many (es, leaves_are, order, long) all = (
    es,
    record {
      level = level;
      least = least;
      leads = leads;
      are = leaves_are;
      once =
          let met = are_met pages level (record { page = top; least = least } ∷ []) d.inner.items d.leaves.items es leads leaves_are (rising_differ (key_at pages) es order.order) in
          each_met pages level (record { page = top; least = least } ∷ []) (d.inner.items ++ pages_of d.leaves.items) met
          (let b = length-append d.inner.items (pages_of d.leaves.items) in let c = length-map d.leaves.items (λ (x : Child). x.page) in omega (arith, many, b, c, is));
      strings = order.strings;
      all = all_named pages es order.strings order.order (omega (arith, all, long, strings_are));
      order = order.order;
    },
  )

-- ---- counts of notes

-- how many strings a page has, and whether it is one of a directory, by its note
abbrev pub noted_strings : PageNote → ℕ
noted_strings FreeNote = 0
noted_strings (SlottedNote strings) = strings
noted_strings (LongNote next used) = 0
noted_strings DirectoryNote = 0

abbrev pub noted_ones : PageNote → ℕ
noted_ones FreeNote = 0
noted_ones (SlottedNote strings) = 0
noted_ones (LongNote next used) = 0
noted_ones DirectoryNote = 1

strings_more : (pages : List StorePage) (i : ℕ) → i < length pages → length (strings_of (map kind_of (take (suc i) pages))) ≡ length (strings_of (map kind_of (take i pages))) + length (strings_of (kind_of (get_or pages i (Plain Free)) ∷ []))
strings_more [] i less = absurd (omega (arith, less))
strings_more (p ∷ pages) zero less = let e = ap (λ (l : List (List ℕ)). length l) (strings-cons (kind_of p) []) ∙ length-append (strings_of (kind_of p ∷ [])) [] in omega (arith, e)
strings_more (p ∷ pages) (suc i) less =
    let a = strings_more pages i (omega (arith, less)) in
    let own = strings_of (kind_of p ∷ []) in
    let b = ap (λ (l : List (List ℕ)). length l) (strings-cons (kind_of p) (map kind_of (take (suc i) pages))) ∙ length-append own (strings_of (map kind_of (take (suc i) pages))) in
    let c = ap (λ (l : List (List ℕ)). length l) (strings-cons (kind_of p) (map kind_of (take i pages))) ∙ length-append own (strings_of (map kind_of (take i pages))) in
    omega (arith, a, b, c)

numbers_more : (first : ℕ) (pages : List StorePage) (i : ℕ) → i < length pages → length (directory_numbers first (take (suc i) pages)) ≡ length (directory_numbers first (take i pages)) + one_if_directory (get_or pages i (Plain Free))
numbers_more first [] i less = absurd (omega (arith, less))
numbers_more first (Plain k ∷ pages) zero less = refl
numbers_more first (Directory d ∷ pages) zero less = refl
numbers_more first (Plain k ∷ pages) (suc i) less = numbers_more (suc first) pages i (omega (arith, less))
numbers_more first (Directory d ∷ pages) (suc i) less = let a = numbers_more (suc first) pages i (omega (arith, less)) in omega (arith, a)

-- the note of a page that is there
note_here : (pages : List StorePage) (notes : List PageNote) (i : ℕ) (d : PageNote) → notes ≡ map note_of pages → i < length notes → (i < length pages) × (get_or notes i d ≡ note_of (get_or pages i (Plain Free)))
note_here pages notes i d are less =
    let long = ap (λ (l : List PageNote). length l) are ∙ length-map pages note_of in
    let within : i < length pages = omega (arith, less, long) in
    (within, ap (λ (l : List PageNote). get_or l i d) are ∙ note_at pages i d within)

-- the same of a home page
pub note_behind : (pages : List StorePage) (notes : List PageNote) (i : ℕ) (d : PageNote) → notes ≡ map note_of pages → i < length notes → (i < length pages) × (get_or notes i d ≡ note_of (page_at pages (3 + i)))
note_behind pages notes i d are less =
    let h = note_here pages notes i d are less in
    let n : i ≡ (3 + i) - 3 = omega arith in
    (h.0, h.1 ∙ ap (λ (k : ℕ). note_of (get_or pages k (Plain Free))) n)

pub strings_counted : (pages : List StorePage) (notes : List PageNote) (i count n : ℕ) (d : PageNote) → notes ≡ map note_of pages → i < length notes → ((p : StorePage) → get_or notes i d ≡ note_of p → n ≡ length (strings_of (kind_of p ∷ [])))
    → count ≡ length (strings_of (map kind_of (take i pages))) → count + n ≡ length (strings_of (map kind_of (take (i + 1) pages)))
strings_counted pages notes i count n_ d are less has is =
    let h = note_here pages notes i d are less in
    let a = strings_more pages i h.0 in
    let b = has (get_or pages i (Plain Free)) h.1 in
    let n : suc i ≡ i + 1 = omega arith in
    let all : count + n_ ≡ length (strings_of (map kind_of (take (suc i) pages))) = omega (arith, a, b, is) in
    all ∙ ap (λ (k : ℕ). length (strings_of (map kind_of (take k pages)))) n

pub all_strings_counted : (pages : List StorePage) (notes : List PageNote) (i count : ℕ) → notes ≡ map note_of pages → length notes ≤ i → count ≡ length (strings_of (map kind_of (take i pages))) → count ≡ length (strings_of (map kind_of pages))
all_strings_counted pages notes i count are all is =
    is ∙ ap (λ (l : List StorePage). length (strings_of (map kind_of l))) (take_all i pages (let long = ap (λ (l : List PageNote). length l) are ∙ length-map pages note_of in omega (arith, all, long)))

pub pages_counted : (pages : List StorePage) (notes : List PageNote) (i count n : ℕ) (d : PageNote) → notes ≡ map note_of pages → i < length notes → ((p : StorePage) → get_or notes i d ≡ note_of p → n ≡ one_if_directory p)
    → count ≡ length (directory_numbers 3 (take i pages)) → count + n ≡ length (directory_numbers 3 (take (i + 1) pages))
pages_counted pages notes i count n_ d are less has is =
    let h = note_here pages notes i d are less in
    let a = numbers_more 3 pages i h.0 in
    let b = has (get_or pages i (Plain Free)) h.1 in
    let n : suc i ≡ i + 1 = omega arith in
    let all : count + n_ ≡ length (directory_numbers 3 (take (suc i) pages)) = omega (arith, a, b, is) in
    all ∙ ap (λ (k : ℕ). length (directory_numbers 3 (take k pages))) n

pub all_pages_counted : (pages : List StorePage) (notes : List PageNote) (i count : ℕ) → notes ≡ map note_of pages → length notes ≤ i → count ≡ length (directory_numbers 3 (take i pages)) → count ≡ length (directory_numbers 3 pages)
all_pages_counted pages notes i count are all is =
    is ∙ ap (λ (l : List StorePage). length (directory_numbers 3 l)) (take_all i pages (let long = ap (λ (l : List PageNote). length l) are ∙ length-map pages note_of in omega (arith, all, long)))

-- what a page has, by its note
pub strings_by_note : (note : PageNote) (p : StorePage) → note ≡ note_of p → noted_strings note ≡ length (strings_of (kind_of p ∷ []))
strings_by_note note (Plain Free) is = ap noted_strings is
strings_by_note note (Plain (Slotted ss)) is = ap noted_strings is ∙ ap (λ (l : List (List ℕ)). length l) (sym (append-nil ss))
strings_by_note note (Plain (Long next bytes)) is = ap noted_strings is
strings_by_note note (Directory d) is = ap noted_strings is

pub one_by_note : (note : PageNote) (p : StorePage) → note ≡ note_of p → noted_ones note ≡ one_if_directory p
one_by_note note (Plain Free) is = ap noted_ones is
one_by_note note (Plain (Slotted ss)) is = ap noted_ones is
one_by_note note (Plain (Long next bytes)) is = ap noted_ones is
one_by_note note (Directory d) is = ap noted_ones is

-- ---- what calls found

pub levels_none : (found : Option (Vec ℕ Global × Vec Child Global)) (pages : List StorePage) (top limit : ℕ) → LevelsOr (option_map (λ (l : Vec ℕ Global × Vec Child Global). (l.0.items, l.1.items)) found) pages top limit → found ≡ None → LevelsOr None pages top limit
levels_none found pages top limit is none = subst (λ (o : Option (Vec ℕ Global × Vec Child Global)). LevelsOr (option_map (λ (l : Vec ℕ Global × Vec Child Global). (l.0.items, l.1.items)) o) pages top limit) none is

pub levels_some : (found : Option (Vec ℕ Global × Vec Child Global)) (inner : Vec ℕ Global) (leaves : Vec Child Global) (pages : List StorePage) (top limit : ℕ) → LevelsOr (option_map (λ (l : Vec ℕ Global × Vec Child Global). (l.0.items, l.1.items)) found) pages top limit
    → found ≡ Some (inner, leaves) → LevelsOr (Some (inner.items, leaves.items)) pages top limit
levels_some found inner leaves pages top limit is some = subst (λ (o : Option (Vec ℕ Global × Vec Child Global)). LevelsOr (option_map (λ (l : Vec ℕ Global × Vec Child Global). (l.0.items, l.1.items)) o) pages top limit) some is

pub walked_given : (found other : Option ℕ) (pages : List StorePage) (given leaves : List Child) (limit : ℕ) → AreWalkedOr found pages given limit → found ≡ other → given ≡ leaves → AreWalkedOr other pages leaves limit
walked_given found other pages given leaves limit is same at = subst (λ (l : List Child). AreWalkedOr other pages l limit) at (subst (λ (o : Option ℕ). AreWalkedOr o pages given limit) same is)
