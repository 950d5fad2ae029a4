-- A store without a directory gets one.
use Rattle.std.specs.Prelude.{map}
use Rattle.std.proofs.Common.{◌≡◌, ◌⊎◌, inl, inr, ⊎_elim, ℕ, zero, suc, ◌+◌, ◌-◌, ◌^◌, ◌≤◌, ◌<◌, List, [], ◌∷◌, ◌++◌, length, get_or, refl, sym, ap, subst, ◌∙◌, append-nil, arith}
use Rattle.std.proofs.lemmas.Bool.{cases_lt}
use Rattle.ct_keep.specs.Content.{Content}
use Rattle.pg_map.specs.Kinds.{Each, Kind, Free, Slotted, Long, strings_of}
use Rattle.pg_map.specs.Holding.{IsLayout, times}
use Rattle.pg_map.specs.PageStrings.{string_key}
use Rattle.pg_map.specs.laws.Holding.{each-append, each-left, each-right}
use Rattle.pg_directory.specs.declared.entries.Child.{Child}
use Rattle.pg_directory.specs.declared.entries.EntryAt.{EntryAt}
use Rattle.pg_directory.specs.Building.{Above, child_of, named_by, numbers_of, AreOfLevel, LeadUp}
use Rattle.pg_directory.specs.Layering.{all_pages}
use Rattle.pg_directory.specs.Leaves.{LeafAt, leaf_child, leaf_numbers, entries_by, AreLeafPages}
use Rattle.pg_directory.specs.Levels.{HasLevels}
use Rattle.pg_directory.specs.Making.{leaf_writes, above_writes, directory_writes, IsMadeOn}
use Rattle.pg_directory.specs.Numbering.{numbers_from, homes_taken, AreRising}
use Rattle.pg_directory.specs.OpenStore.{ArePlaces}
use Rattle.pg_directory.specs.Pages.{Inner, no_entry, no_child, IsEntryAt, IsChild}
use Rattle.pg_directory.specs.Trees.{StorePage, Plain, Directory, kind_of, IsPage, page_at, key_at, HasString, one_if_directory, IsBelow, Rise}
use Rattle.pg_directory.specs.Written.{PageWrite, with_writes, with_free, write_numbers, AreWrites}
use Rattle.pg_directory.specs.laws.Counting.{all_named}
use Rattle.pg_directory.specs.laws.Making.{made_levels, numbers_written}
use Rattle.pg_directory.specs.laws.Numbering.{taken_rise, new_taken, each_taken, writes_rising}
use Rattle.pg_directory.specs.laws.Written.{AreAlike, over_alike, length-writes, length-free, page_written, page_past, page_kept, page_as_free, each_stands, each_good, each_free, one_at_most, kinds_alike, layout_free}

-- ---- entries on pages of the same kinds

-- To the map each page is as it was.
pub record AreSameKinds (ps qs : List StorePage) : Type 0 where
  pub same : (i : ℕ) → 3 ≤ i → kind_of (page_at qs i) ≡ kind_of (page_at ps i)

string_still : (ps qs : List StorePage) (e : EntryAt) → AreSameKinds ps qs → HasString ps e → HasString qs e
string_still ps qs e k has = record { low = has.low; less = subst (λ (n : Kind). e.slot < length (strings_of (n ∷ []))) (sym (k.same e.page has.low)) has.less }

string_before : (ps qs : List StorePage) (e : EntryAt) → AreSameKinds ps qs → HasString qs e → HasString ps e
string_before ps qs e k has = record { low = has.low; less = subst (λ (n : Kind). e.slot < length (strings_of (n ∷ []))) (k.same e.page has.low) has.less }

key_still : (ps qs : List StorePage) (e : EntryAt) → AreSameKinds ps qs → 3 ≤ e.page → key_at qs e ≡ key_at ps e
key_still ps qs e k low = ap (λ (n : Kind). key_in_string n) (k.same e.page low)
  where
    key_in_string : Kind → List ℕ
    key_in_string n = string_key (get_or (strings_of (n ∷ [])) e.slot [])

pub strings_still : (ps qs : List StorePage) (es : List EntryAt) → AreSameKinds ps qs → Each (HasString ps) es → Each (HasString qs) es
strings_still ps qs [] k each = tt
strings_still ps qs (e ∷ es) k each = (string_still ps qs e k each.0, strings_still ps qs es k each.1)

below_still : (ps qs : List StorePage) (e : EntryAt) (es : List EntryAt) → AreSameKinds ps qs → 3 ≤ e.page → Each (HasString ps) es → Each (λ (f : EntryAt). IsBelow (key_at ps e) (key_at ps f)) es → Each (λ (f : EntryAt). IsBelow (key_at qs e) (key_at qs f)) es
below_still ps qs e [] k low each below = tt
below_still ps qs e (f ∷ es) k low each below = (
  subst (λ (a : List ℕ). IsBelow a (key_at qs f)) (sym (key_still ps qs e k low)) (subst (IsBelow (key_at ps e)) (sym (key_still ps qs f k each.0.low)) below.0),
  below_still ps qs e es k low each.1 below.1,
)

pub order_still : (ps qs : List StorePage) (es : List EntryAt) → AreSameKinds ps qs → Each (HasString ps) es → Rise (key_at ps) es → Rise (key_at qs) es
order_still ps qs [] k each rise = tt
order_still ps qs (e ∷ es) k each rise = (below_still ps qs e es k each.0.low each.1 rise.0, order_still ps qs es k each.1 rise.1)

-- ---- the numbers of places are small

few_strings : (p : StorePage) → IsPage p → length (strings_of (kind_of p ∷ [])) ≤ 1022
few_strings (Plain Free) good = omega arith
few_strings (Plain (Slotted ss)) good = let e = ap (λ (l : List (List ℕ)). length l) (append-nil ss) in omega (arith, e, good)
few_strings (Plain (Long next bytes)) good = omega arith
few_strings (Directory d) good = omega arith

page_good : (ps : List StorePage) (n : ℕ) → Each IsPage ps → IsPage (get_or ps n (Plain Free))
page_good [] n good = tt
page_good (p ∷ ps) zero good = good.0
page_good (p ∷ ps) (suc n) good = page_good ps n good.1

pub entry_small : (ps : List StorePage) (e : EntryAt) → Each IsPage ps → 3 + length ps ≤ 2 ^ 31 → HasString ps e → IsEntryAt e
entry_small ps e good small has =
    let few = few_strings (page_at ps e.page) (page_good ps (e.page - 3) good) in
    (page_small (cases_lt e.page (3 + length ps)), omega (arith, has.less, few))
  where
    page_small : (e.page < 3 + length ps) ⊎ (3 + length ps ≤ e.page) → e.page < 2 ^ 32
    page_small (inl less) = omega (arith, less, small)
    page_small (inr high) = let none = ap (λ (p : StorePage). length (strings_of (kind_of p ∷ []))) (page_past ps e.page high) in absurd (omega (arith, has.less, none))

pub entries_small : (ps : List StorePage) (es : List EntryAt) → Each IsPage ps → 3 + length ps ≤ 2 ^ 31 → Each (HasString ps) es → Each IsEntryAt es
entries_small ps [] good small each = tt
entries_small ps (e ∷ es) good small each = (entry_small ps e good small each.0, entries_small ps es good small each.1)

-- ---- what is written are pages

abbrev AreGood : List PageWrite → Type 0
AreGood ws = Each (λ (w : PageWrite). IsPage w.1) ws

good_leaves : (ls : List LeafAt) → AreLeafPages ls → Each IsEntryAt (entries_by ls) → AreGood (leaf_writes ls)
good_leaves [] are small = tt
good_leaves (l ∷ ls) are small = (
  (are.0.0, are.0.1, each-left IsEntryAt l.entries (entries_by ls) small),
  good_leaves ls are.1 (each-right IsEntryAt l.entries (entries_by ls) small),
)

first_small : (es : List EntryAt) → 1 ≤ length es → Each IsEntryAt es → IsEntryAt (get_or es 0 no_entry)
first_small [] some small = absurd (omega (arith, some))
first_small (e ∷ es) some small = small.0

first_child : (cs : List Child) → 1 ≤ length cs → Each IsChild cs → IsEntryAt (get_or cs 0 no_child).least
first_child [] some small = absurd (omega (arith, some))
first_child (c ∷ cs) some small = small.0.1

abbrev AreSmall : List ℕ → Type 0
AreSmall ns = Each (λ (n : ℕ). n < 2 ^ 32) ns

leaf_children : (ls : List LeafAt) → AreLeafPages ls → Each IsEntryAt (entries_by ls) → AreSmall (leaf_numbers ls) → Each IsChild (map leaf_child ls)
leaf_children [] are small numbers = tt
leaf_children (l ∷ ls) are small numbers = (
  (numbers.0, first_small l.entries are.0.0 (each-left IsEntryAt l.entries (entries_by ls) small)),
  leaf_children ls are.1 (each-right IsEntryAt l.entries (entries_by ls) small) numbers.1,
)

good_level : (level : ℕ) (as_ : List Above) → 1 ≤ level → level < 256 → AreOfLevel level as_ → Each IsChild (named_by as_) → AreGood (above_writes as_)
good_level level [] low high are small = tt
good_level level (a ∷ as_) low high are small = (
  (are.0.1, are.0.2, each-left IsChild a.children (named_by as_) small, subst (λ (n : ℕ). 1 ≤ n) (sym are.0.0) low, subst (λ (n : ℕ). n < 256) (sym are.0.0) high),
  good_level level as_ low high are.1 (each-right IsChild a.children (named_by as_) small),
)

level_children : (level : ℕ) (as_ : List Above) → AreOfLevel level as_ → Each IsChild (named_by as_) → AreSmall (numbers_of as_) → Each IsChild (map child_of as_)
level_children level [] are small numbers = tt
level_children level (a ∷ as_) are small numbers = (
  (numbers.0, first_child a.children are.0.1 (each-left IsChild a.children (named_by as_) small)),
  level_children level as_ are.1 (each-right IsChild a.children (named_by as_) small) numbers.1,
)

good_levels : (level : ℕ) (cs : List Child) (levels : List (List Above)) (last : List Child) → level + length levels < 256 → LeadUp level cs levels last → Each IsChild cs → AreSmall (numbers_of (all_pages levels)) → AreGood (above_writes (all_pages levels))
good_levels level cs [] last few up small numbers = tt
good_levels level cs (as_ ∷ levels) last few (are, names, up) small numbers =
    let own = subst (Each IsChild) (sym names) small in
    let ns = subst AreSmall (map_both as_ (all_pages levels)) numbers in
    subst AreGood (sym (writes_both as_ (all_pages levels)))
    (each-append (λ (w : PageWrite). IsPage w.1) (above_writes as_) (above_writes (all_pages levels))
    (good_level (suc level) as_ (omega arith) (omega (arith, few)) are own)
    (good_levels (suc level) (map child_of as_) levels last (omega (arith, few)) up (level_children (suc level) as_ are own (each-left (λ (n : ℕ). n < 2 ^ 32) (numbers_of as_) (numbers_of (all_pages levels)) ns)) (each-right (λ (n : ℕ). n < 2 ^ 32) (numbers_of as_) (numbers_of (all_pages levels)) ns)))
  where
    map_both : (as_ bs : List Above) → numbers_of (as_ ++ bs) ≡ numbers_of as_ ++ numbers_of bs
    map_both [] bs = refl
    map_both (a ∷ as_) bs = ap (λ (l : List ℕ). a.number ∷ l) (map_both as_ bs)

    writes_both : (as_ bs : List Above) → above_writes (as_ ++ bs) ≡ above_writes as_ ++ above_writes bs
    writes_both [] bs = refl
    writes_both (a ∷ as_) bs = ap (λ (l : List PageWrite). (a.number, Directory (Inner a.level a.children)) ∷ l) (writes_both as_ bs)

each_small : (low end : ℕ) (ns : List ℕ) → end ≤ 2 ^ 31 → AreRising low end ns → AreSmall ns
each_small low end [] le rise = tt
each_small low end (n ∷ ns) le rise = (omega (arith, rise.1, le), each_small (suc n) end ns le rise.2)

-- ---- the store

-- What is known of a store without a directory: its pages, the places of all entries in order, and places of free pages, each below the next.
pub record IsPlain (ps : List StorePage) (places : List EntryAt) (free : List ℕ) : Type 0 where
  pub good : Each IsPage ps
  pub no : (i : ℕ) → 3 ≤ i → one_if_directory (page_at ps i) ≡ 0
  pub places_are : ArePlaces ps places
  pub rise : AreRising 0 (length ps) free
  pub free_are : (k : ℕ) → k < length free → kind_of (page_at ps (get_or free k 0 + 3)) ≡ Free

module _ (ps : List StorePage) (places : List EntryAt) (free : List ℕ) (ls : List LeafAt) (as_ : List Above) (inner : List ℕ) (top : Child) (count : ℕ) (plain : IsPlain ps places free) (on : IsMadeOn (3 + length ps) free places ls as_ inner top count) where
  abbrev pub the_writes : List PageWrite
  the_writes = directory_writes ls as_

  abbrev pub the_grown : List StorePage
  the_grown = with_free (count - length free) ps

  abbrev pub the_pages : List StorePage
  the_pages = with_writes the_writes 3 the_grown

  long : 3 + length the_grown ≡ homes_taken free (3 + length ps) count
  long = omega (arith, length-free (count - length free) ps)

  numbers_are : write_numbers the_writes ≡ numbers_from free (3 + length ps) count
  numbers_are = numbers_written ls as_ ∙ on.numbers

  rise : AreRising 3 (3 + length the_grown) (write_numbers the_writes)
  rise =
      let e : (3 + length ps) - 3 ≡ length ps = omega arith in
      subst (λ (n : ℕ). AreRising 3 n (write_numbers the_writes)) (sym long) (subst (AreRising 3 (homes_taken free (3 + length ps) count)) (sym numbers_are)
      (taken_rise free (3 + length ps) (subst (λ (n : ℕ). AreRising 0 n free) (sym e) plain.rise) (omega arith) count))

  small : AreSmall (leaf_numbers ls ++ numbers_of as_)
  small = subst AreSmall (numbers_written ls as_) (each_small 3 (3 + length the_grown) (write_numbers the_writes) (omega (arith, long, on.most)) rise)

  entries : Each IsEntryAt (entries_by ls)
  entries = subst (Each IsEntryAt) (sym on.made.named) (entries_small ps places plain.good (omega (arith, on.most)) plain.places_are.strings)

  good : AreGood the_writes
  good =
      let m = on.made in
      let above = subst (λ (l : List Above). AreSmall (numbers_of l)) m.pages_are (each-right (λ (n : ℕ). n < 2 ^ 32) (leaf_numbers ls) (numbers_of as_) small) in
      each-append (λ (w : PageWrite). IsPage w.1) (leaf_writes ls) (above_writes as_) (good_leaves ls m.leaves entries)
      (subst (λ (l : List Above). AreGood (above_writes l)) (sym m.pages_are)
      (good_levels 0 (map leaf_child ls) m.levels (top ∷ []) (omega (arith, on.few)) m.are (leaf_children ls m.leaves entries (each-left (λ (n : ℕ). n < 2 ^ 32) (leaf_numbers ls) (numbers_of as_) small)) above))

  pub may_write : AreWrites 3 (3 + length the_grown) the_writes
  may_write = writes_rising 3 (3 + length the_grown) the_writes rise good

  pub writes_new : (i : ℕ) → 3 + length ps ≤ i → i < 3 + length the_grown → 1 ≤ times i (write_numbers the_writes)
  writes_new i low high = subst (λ (ns : List ℕ). 1 ≤ times i ns) (sym numbers_are) (new_taken free (3 + length ps) count i low (omega (arith, high, long)))

  alike : AreAlike the_grown the_writes
  alike = of ls as_ (subst (Each IsFreeAt) (sym numbers_are) taken)
    where
      IsFreeAt : ℕ → Type 0
      IsFreeAt n = kind_of (page_at the_grown n) ≡ Free

      taken : Each IsFreeAt (numbers_from free (3 + length ps) count)
      taken = each_taken IsFreeAt free (3 + length ps) count
          (λ k less. ap kind_of (page_as_free (count - length free) ps (get_or free k 0 + 3)) ∙ plain.free_are k less)
          (λ i high. ap kind_of (page_as_free (count - length free) ps i ∙ page_past ps i high))

      of_above : (bs : List Above) → Each IsFreeAt (write_numbers (above_writes bs)) → AreAlike the_grown (above_writes bs)
      of_above [] each = tt
      of_above (b ∷ bs) each = (sym each.0, of_above bs each.1)

      of : (ks : List LeafAt) (bs : List Above) → Each IsFreeAt (write_numbers (directory_writes ks bs)) → AreAlike the_grown (directory_writes ks bs)
      of [] bs each = of_above bs each
      of (k ∷ ks) bs each = (sym each.0, of ks bs each.1)

  pub same_kinds : AreSameKinds ps the_pages
  same_kinds = record {
    same = λ i low. ⊎_elim
        (λ less. ap kind_of (page_written the_writes the_grown i low less) ∙ over_alike the_grown the_writes i alike)
        (λ high. ap kind_of (page_past the_pages i (omega (arith, high, length-writes the_writes 3 the_grown)) ∙ sym (page_past the_grown i high)))
        (cases_lt i (3 + length the_grown))
        ∙ ap kind_of (page_as_free (count - length free) ps i);
  }

  pub still_layout : (m : Content) → IsLayout (map kind_of ps) m → IsLayout (map kind_of the_pages) m
  still_layout m l = subst (λ (ks : List Kind). IsLayout ks m) (sym (kinds_alike the_writes the_grown alike)) (layout_free (count - length free) ps m l)

  pub still_good : Each IsPage the_pages
  still_good = each_good 3 (3 + length the_grown) the_writes 3 the_grown may_write (each_free (count - length free) ps plain.good)

  pub the_levels : HasLevels the_pages top.page inner (map leaf_child ls) places
  the_levels = made_levels the_pages places ls as_ inner top on.made (record {
    stand = each_stands the_writes the_grown may_write;
    once = λ i. one_at_most 3 (3 + length the_grown) the_writes i may_write;
    no_other = λ i low none. ap one_if_directory (page_kept the_writes the_grown i low none ∙ page_as_free (count - length free) ps i) ∙ plain.no i low;
    strings = strings_still ps the_pages places same_kinds plain.places_are.strings;
    all = λ e has. all_named ps places plain.places_are.strings plain.places_are.order plain.places_are.all e (string_before ps the_pages e same_kinds has);
    order = order_still ps the_pages places same_kinds plain.places_are.strings plain.places_are.order;
  })
