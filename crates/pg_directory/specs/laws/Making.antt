-- A directory that was made anew on pages that had none is one of all entries.
use Rattle.std.specs.Prelude.{Bool, true, false, map}
use Rattle.std.proofs.Common.{◌≡◌, ◌≢◌, ⊎_elim, ℕ, ◌+◌, ◌≤◌, ◌==◌, List, [], ◌∷◌, ◌++◌, length, get_or, Some, refl, sym, ap, subst, ◌∙◌, arith}
use Rattle.std.specs.List.{Contains}
use Rattle.std.proofs.lemmas.Bool.{eq-eqb, eqb-true, false≢true, cases_lt}
use Rattle.std.proofs.lemmas.List.{map-append}
use Rattle.pg_map.specs.Kinds.{Each}
use Rattle.pg_map.specs.Holding.{times}
use Rattle.pg_map.specs.laws.Holding.{each-left, each-right}
use Rattle.pg_map.specs.laws.Loose.{times-append, times_other}
use Rattle.pg_directory.specs.declared.entries.Child.{Child}
use Rattle.pg_directory.specs.declared.entries.EntryAt.{EntryAt}
use Rattle.pg_directory.specs.Building.{Above, numbers_of, StandThere}
use Rattle.pg_directory.specs.Layering.{all_pages}
use Rattle.pg_directory.specs.Leaves.{LeafAt, leaf_child, leaf_numbers, entries_by, AreLeafPages}
use Rattle.pg_directory.specs.Levels.{pages_of, AreLeaves, LeadsTo, HasLevels}
use Rattle.pg_directory.specs.Making.{leaf_writes, above_writes, directory_writes, IsMade}
use Rattle.pg_directory.specs.Pages.{Inner, no_entry}
use Rattle.pg_directory.specs.Trees.{StorePage, Directory, page_at, key_at, HasString, one_if_directory, Rise, first_of}
use Rattle.pg_directory.specs.Written.{PageWrite, write_numbers}
use Rattle.pg_directory.specs.laws.Building.{numbers_down, all_numbers, levels_lead, times-down}

-- Each page that is written stands under its number.
abbrev pub StandOn : List StorePage → List PageWrite → Type 0
StandOn pages ws = Each (λ (w : PageWrite). (3 ≤ w.0) × (page_at pages w.0 ≡ w.1)) ws

-- ---- leaves

first_there : (es : List EntryAt) → 1 ≤ length es → first_of es ≡ Some (get_or es 0 no_entry)
first_there [] some = absurd (omega (arith, some))
first_there (e ∷ es) some = refl

pub leaves_stand : (pages : List StorePage) (ls : List LeafAt) → AreLeafPages ls → StandOn pages (leaf_writes ls) → AreLeaves pages (map leaf_child ls) (entries_by ls)
leaves_stand pages [] are stand = refl
leaves_stand pages (l ∷ ls) are stand = (l.entries, entries_by ls, stand.0.0, stand.0.1, first_there l.entries are.0.0, leaves_stand pages ls are.1 stand.1, refl)

pub pages_of_leaves : (ls : List LeafAt) → pages_of (map leaf_child ls) ≡ leaf_numbers ls
pages_of_leaves [] = refl
pages_of_leaves (l ∷ ls) = ap (λ (ns : List ℕ). l.number ∷ ns) (pages_of_leaves ls)

-- ---- levels

one_level : (pages : List StorePage) (as_ : List Above) → StandOn pages (above_writes as_) → StandThere pages as_
one_level pages [] stand = tt
one_level pages (a ∷ as_) stand = (stand.0, one_level pages as_ stand.1)

pub writes-append : (as_ bs : List Above) → above_writes (as_ ++ bs) ≡ above_writes as_ ++ above_writes bs
writes-append as_ bs = map-append {B = PageWrite} (λ (a : Above). (a.number, Directory (Inner a.level a.children))) as_ bs

each_level : (pages : List StorePage) (levels : List (List Above)) → StandOn pages (above_writes (all_pages levels)) → Each (StandThere pages) levels
each_level pages [] stand = tt
each_level pages (as_ ∷ levels) stand =
    let s = subst (StandOn pages) (writes-append as_ (all_pages levels)) stand in
    (one_level pages as_ (each-left (λ (w : PageWrite). (3 ≤ w.0) × (page_at pages w.0 ≡ w.1)) (above_writes as_) (above_writes (all_pages levels)) s), each_level pages levels (each-right (λ (w : PageWrite). (3 ≤ w.0) × (page_at pages w.0 ≡ w.1)) (above_writes as_) (above_writes (all_pages levels)) s))

all_numbers_are : (levels : List (List Above)) → all_numbers levels ≡ numbers_of (all_pages levels)
all_numbers_are [] = refl
all_numbers_are (as_ ∷ levels) = ap (λ (l : List ℕ). numbers_of as_ ++ l) (all_numbers_are levels) ∙ sym (map-append (λ (a : Above). a.number) as_ (all_pages levels))

-- ---- the numbers that are written

pub numbers_written : (ls : List LeafAt) (as_ : List Above) → write_numbers (directory_writes ls as_) ≡ leaf_numbers ls ++ numbers_of as_
numbers_written [] as_ = of as_
  where
    of : (as_ : List Above) → write_numbers (above_writes as_) ≡ numbers_of as_
    of [] = refl
    of (a ∷ as_) = ap (λ (l : List ℕ). a.number ∷ l) (of as_)
numbers_written (l ∷ ls) as_ = ap (λ (ns : List ℕ). l.number ∷ ns) (numbers_written ls as_)

-- each page that is written is one of the directory
abbrev pub AreOfDirectory : List PageWrite → Type 0
AreOfDirectory ws = Each (λ (w : PageWrite). one_if_directory w.1 ≡ 1) ws

pub of_directory : (ls : List LeafAt) (as_ : List Above) → AreOfDirectory (directory_writes ls as_)
of_directory [] as_ = of as_
  where
    of : (as_ : List Above) → AreOfDirectory (above_writes as_)
    of [] = tt
    of (a ∷ as_) = (refl, of as_)
of_directory (l ∷ ls) as_ = (refl, of_directory ls as_)

one_there : (pages : List StorePage) (ws : List PageWrite) (i : ℕ) → StandOn pages ws → AreOfDirectory ws → 1 ≤ times i (write_numbers ws) → one_if_directory (page_at pages i) ≡ 1
one_there pages [] i stand are some = absurd (omega (arith, some))
one_there pages (w ∷ ws) i stand are some = of (w.0 == i) (eqb-true w.0 i) (λ e is. false≢true (sym e ∙ eq-eqb w.0 i is)) (one_there pages ws i stand.1 are.1)
  where
    of : (b : Bool) → (b ≡ true → w.0 ≡ i) → (b ≡ false → w.0 ≢ i) → (1 ≤ times i (write_numbers ws) → one_if_directory (page_at pages i) ≡ 1) → one_if_directory (page_at pages i) ≡ 1
    of true yes_ no_ rest = ap (λ (n : ℕ). one_if_directory (page_at pages n)) (sym (yes_ refl)) ∙ ap one_if_directory stand.0.1 ∙ are.0
    of false yes_ no_ rest = rest (omega (arith, some, times_other i w.0 (write_numbers ws) (no_ refl)))

-- ---- the directory

-- What stands on pages with such a directory: its pages, each number once, no other page of a directory, and all entries in order.
pub record StandsMade (pages : List StorePage) (places : List EntryAt) (ls : List LeafAt) (as_ : List Above) : Type 0 where
  pub stand : StandOn pages (directory_writes ls as_)
  pub once : (i : ℕ) → times i (write_numbers (directory_writes ls as_)) ≤ 1
  pub no_other : (i : ℕ) → 3 ≤ i → times i (write_numbers (directory_writes ls as_)) ≡ 0 → one_if_directory (page_at pages i) ≡ 0
  pub strings : Each (HasString pages) places
  pub all : (e : EntryAt) → HasString pages e → Contains places e
  pub order : Rise (key_at pages) places

-- each page of it is written
pub made_often : (places : List EntryAt) (ls : List LeafAt) (as_ : List Above) (inner : List ℕ) (top : Child) (m : IsMade places ls as_ inner top) (i : ℕ) → times i (inner ++ pages_of (map leaf_child ls)) ≡ times i (write_numbers (directory_writes ls as_))
made_often places ls as_ inner top m i =
    let f = ap (λ (l : List ℕ). times i (l ++ pages_of (map leaf_child ls))) m.inner_are in
    let a = times-append i (numbers_down m.levels []) (pages_of (map leaf_child ls)) in
    let b = times-down i m.levels [] in
    let c = ap (times i) (all_numbers_are m.levels ∙ ap numbers_of (sym m.pages_are)) in
    let d = ap (times i) (pages_of_leaves ls) in
    let e = ap (times i) (numbers_written ls as_) ∙ times-append i (leaf_numbers ls) (numbers_of as_) in
    omega (arith, a, b, c, d, e, f)

pub made_levels : (pages : List StorePage) (places : List EntryAt) (ls : List LeafAt) (as_ : List Above) (inner : List ℕ) (top : Child) (m : IsMade places ls as_ inner top) → StandsMade pages places ls as_
    → HasLevels pages top.page inner (map leaf_child ls) places
made_levels pages places ls as_ inner top m s =
    let ws : List PageWrite = directory_writes ls as_ in
    let level_stand = each-right (λ (w : PageWrite). (3 ≤ w.0) × (page_at pages w.0 ≡ w.1)) (leaf_writes ls) (above_writes as_) s.stand in
    record {
      level = 0 + length m.levels;
      least = top.least;
      leads = subst (λ (l : List ℕ). LeadsTo pages (0 + length m.levels) (top ∷ []) l (map leaf_child ls)) (sym m.inner_are) (levels_lead pages 0 (map leaf_child ls) m.levels top [] (map leaf_child ls) m.are (each_level pages m.levels (subst (λ (l : List Above). StandOn pages (above_writes l)) m.pages_are level_stand)) (refl, refl));
      are = subst (AreLeaves pages (map leaf_child ls)) m.named (leaves_stand pages ls m.leaves (each-left (λ (w : PageWrite). (3 ≤ w.0) × (page_at pages w.0 ≡ w.1)) (leaf_writes ls) (above_writes as_) s.stand));
      once = λ i low. made_often places ls as_ inner top m i ∙ counted i low;
      strings = s.strings;
      all = s.all;
      order = s.order;
    }
  where
    counted : (i : ℕ) → 3 ≤ i → times i (write_numbers (directory_writes ls as_)) ≡ one_if_directory (page_at pages i)
    counted i low = ⊎_elim
        (λ none. let z : times i (write_numbers (directory_writes ls as_)) ≡ 0 = omega (arith, none) in z ∙ sym (s.no_other i low z))
        (λ some. let o : times i (write_numbers (directory_writes ls as_)) ≡ 1 = omega (arith, some, s.once i) in o ∙ sym (one_there pages (directory_writes ls as_) i s.stand (of_directory ls as_) some))
        (cases_lt (times i (write_numbers (directory_writes ls as_))) 1)
