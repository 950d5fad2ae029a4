-- The levels of a directory whose leaves were made anew over edits.
use Rattle.std.specs.Prelude.{map}
use Rattle.std.proofs.Common.{◌≡◌, ℕ, zero, suc, ◌+◌, ◌-◌, ◌≤◌, List, [], ◌∷◌, ◌++◌, drop, get_or, Some, refl, sym, ap, subst, ◌∙◌, arith}
use Rattle.pg_map.specs.Holding.{times}
use Rattle.pg_map.specs.Kinds.{Each, Free}
use Rattle.pg_map.specs.laws.Holding.{each-append, each-left, each-right}
use Rattle.pg_map.specs.laws.Loose.{times-append}
use Rattle.pg_directory.specs.declared.entries.Child.{Child}
use Rattle.pg_directory.specs.declared.entries.EntryAt.{EntryAt}
use Rattle.pg_directory.specs.Building.{Above, AreLevels, numbers_of}
use Rattle.pg_directory.specs.Layering.{BuildsLevels}
use Rattle.pg_directory.specs.Leaves.{LeafAt, leaf_child, leaf_numbers, entries_by, AreLeafPages}
use Rattle.pg_directory.specs.Levels.{HasLevels}
use Rattle.pg_directory.specs.Making.{leaf_writes, above_writes, directory_writes}
use Rattle.pg_directory.specs.Pages.{Leaf, IsDirectoryPage}
use Rattle.pg_directory.specs.Trees.{StorePage, Plain, IsPage, page_at, one_if_directory, first_of}
use Rattle.pg_directory.specs.Written.{PageWrite, write_numbers}
use Rattle.pg_directory.specs.laws.Making.{StandOn, numbers_written, made_levels}
use Rattle.pg_leaves.specs.declared.parting.LeafNow.{LeafNow}
use Rattle.pg_leaves.specs.declared.parting.LeafNow.TheVariants.{Kept, Made}
use Rattle.pg_leaves.specs.Relisting.{kept_pages, NamePlaces, children_now, written_now, ListStrings}

-- ---- all leaves, those that stay too

-- All leaves with what they name, those that stay under their old numbers.
pub record AreAllLeaves (pages : List StorePage) (ls : List LeafNow) (ns : List ℕ) (es : List EntryAt) : Type 0 where
  pub all : List LeafAt
  pub are : AreLeafPages all
  pub named : entries_by all ≡ es
  pub children : map leaf_child all ≡ children_now ls ns
  pub often : (i : ℕ) → times i (leaf_numbers all) ≡ times i (kept_pages ls) + times i (leaf_numbers (written_now ls ns))
  pub stand : (next : List StorePage) → Each (λ (n : ℕ). page_at next n ≡ page_at pages n) (kept_pages ls) → StandOn next (leaf_writes (written_now ls ns)) → StandOn next (leaf_writes all)

good_at : (pages : List StorePage) (n : ℕ) → Each IsPage pages → IsPage (get_or pages n (Plain Free))
good_at [] n are = tt
good_at (p ∷ ps) zero are = are.0
good_at (p ∷ ps) (suc n) are = good_at ps n are.1

its_child : (c : Child) (own : List EntryAt) → first_of own ≡ Some c.least → leaf_child (record { number = c.page; entries = own }) ≡ c
its_child c [] first = absurd (cc first)
its_child c (e ∷ own) first = let same : e ≡ c.least = cc in ap {A = EntryAt} {B = Child} (λ f. record { page = c.page; least = f }) same

pub all_leaves : (pages : List StorePage) (ls : List LeafNow) (ns : List ℕ) (es : List EntryAt) → Each IsPage pages → NamePlaces pages ls es → AreAllLeaves pages ls ns es
all_leaves pages [] ns es good name = record { all = []; are = tt; named = sym name; children = refl; often = λ i. refl; stand = λ next same stand. tt }
all_leaves pages (Kept c ∷ ls) ns es good (own, later, low, at, first, more, is) =
    let r = all_leaves pages ls ns later good more in
    let page : IsDirectoryPage (Leaf own) = subst IsPage at (good_at pages (c.page - 3) good) in
    record {
      all = record { number = c.page; entries = own } ∷ r.all;
      are = ((page.0, page.1), r.are);
      named = ap (λ (l : List EntryAt). own ++ l) r.named ∙ sym is;
      children = ap (λ (l : List Child). leaf_child (record { number = c.page; entries = own }) ∷ l) r.children ∙ ap (λ (d : Child). d ∷ children_now ls ns) (its_child c own first);
      often = λ i.
          let a = times-append i (c.page ∷ []) (leaf_numbers r.all) in
          let b = times-append i (c.page ∷ []) (kept_pages ls) in
          let o = r.often i in
          omega (arith, a, b, o);
      stand = λ next same stand. ((low, same.0 ∙ at), r.stand next same.1 stand);
    }
all_leaves pages (Made v ∷ ls) ns es good (later, some, most, more, is) =
    let r = all_leaves pages ls (drop 1 ns) later good more in
    let n = get_or ns 0 0 in
    record {
      all = record { number = n; entries = v.items } ∷ r.all;
      are = ((some, most), r.are);
      named = ap (λ (l : List EntryAt). v.items ++ l) r.named ∙ sym is;
      children = ap (λ (l : List Child). leaf_child (record { number = n; entries = v.items }) ∷ l) r.children;
      often = λ i.
          let a = times-append i (n ∷ []) (leaf_numbers r.all) in
          let b = times-append i (n ∷ []) (leaf_numbers (written_now ls (drop 1 ns))) in
          let o = r.often i in
          omega (arith, a, b, o);
      stand = λ next same stand. (stand.0, r.stand next same stand.1);
    }

-- ---- the directory

-- The leaves that are made anew and the pages above stand under their numbers, the pages of the other leaves are as they were, each number is one
-- of a single page, and no other page is one of a directory.
pub record StandRelisted (pages next : List StorePage) (ls : List LeafNow) (ns : List ℕ) (as_ : List Above) : Type 0 where
  pub same : Each (λ (n : ℕ). page_at next n ≡ page_at pages n) (kept_pages ls)
  pub stand : StandOn next (directory_writes (written_now ls ns) as_)
  pub once : (i : ℕ) → times i (kept_pages ls) + times i (write_numbers (directory_writes (written_now ls ns) as_)) ≤ 1
  pub no_other : (i : ℕ) → 3 ≤ i → times i (kept_pages ls) ≡ 0 → times i (write_numbers (directory_writes (written_now ls ns) as_)) ≡ 0 → one_if_directory (page_at next i) ≡ 0

-- Then the pages above the leaves lead to them, and they name all strings, in order of their keys.
pub relisted_levels : (pages next : List StorePage) (ls : List LeafNow) (ns ms : List ℕ) (es : List EntryAt) (as_ : List Above) (inner : List ℕ) (top : Child) → Each IsPage pages
    → NamePlaces pages ls es → BuildsLevels (children_now ls ns) ms as_ inner top
    → StandRelisted pages next ls ns as_ → ListStrings next es → HasLevels next top.page inner (children_now ls ns) es
relisted_levels pages next ls ns ms es as_ inner top good name built s list = of (all_leaves pages ls ns es good name)
  where
    of : AreAllLeaves pages ls ns es → HasLevels next top.page inner (children_now ls ns) es
    of r =
        let P : PageWrite → Type 0 = λ w. (3 ≤ w.0) × (page_at next w.0 ≡ w.1) in
        let count : (i : ℕ) → times i (write_numbers (directory_writes r.all as_)) ≡ times i (kept_pages ls) + times i (write_numbers (directory_writes (written_now ls ns) as_)) = λ i.
        let a = ap (times i) (numbers_written r.all as_) ∙ times-append i (leaf_numbers r.all) (numbers_of as_) in
        let b = ap (times i) (numbers_written (written_now ls ns) as_) ∙ times-append i (leaf_numbers (written_now ls ns)) (numbers_of as_) in
        let o = r.often i in
        omega (arith, a, b, o) in
        subst (λ (l : List Child). HasLevels next top.page inner l es) r.children
        (made_levels next es r.all as_ inner top
        (record {
          leaves = r.are;
          named = r.named;
          levels = built.levels;
          are = subst (λ (l : List Child). AreLevels 0 l built.levels top) (sym r.children) built.are;
          pages_are = built.pages_are;
          inner_are = built.inner_are;
        })
        (record {
          stand =
              let below = each-left P (leaf_writes (written_now ls ns)) (above_writes as_) s.stand in
              let above = each-right P (leaf_writes (written_now ls ns)) (above_writes as_) s.stand in
              each-append P (leaf_writes r.all) (above_writes as_) (r.stand next s.same below) above;
          once = λ i. let c = count i in let o = s.once i in omega (arith, c, o);
          no_other = λ i low none. let c = count i in s.no_other i low (omega (arith, c, none)) (omega (arith, c, none));
          strings = list.strings;
          all = list.all;
          order = list.order;
        }))
