-- The leaves of a directory after edits, once they stand under their numbers.
use Rattle.std.proofs.Common.{◌≡◌, ℕ, suc, ◌+◌, ◌≤◌, List, [], ◌∷◌, length, take, drop, get_or, Some, refl, ap, ◌∙◌, arith}
use Rattle.pg_map.specs.Holding.{times}
use Rattle.pg_map.specs.Kinds.{Each}
use Rattle.pg_map.specs.laws.Loose.{times-append}
use Rattle.pg_directory.specs.declared.entries.EntryAt.{EntryAt}
use Rattle.pg_directory.specs.Leaves.{leaf_numbers, AreLeafPages, LeavesStand}
use Rattle.pg_directory.specs.Levels.{pages_of, AreLeaves}
use Rattle.pg_directory.specs.Pages.{no_entry}
use Rattle.pg_directory.specs.Trees.{StorePage, page_at, first_of}
use Rattle.pg_leaves.specs.declared.parting.LeafNow.{LeafNow}
use Rattle.pg_leaves.specs.declared.parting.LeafNow.TheVariants.{Kept, Made}
use Rattle.pg_leaves.specs.Relisting.{kept_pages, made_count, NamePlaces, children_now, written_now}

first_is : (es : List EntryAt) → 1 ≤ length es → first_of es ≡ Some (get_or es 0 no_entry)
first_is [] some = absurd (omega (arith, some))
first_is (e ∷ es) some = refl

-- Where each leaf that is made anew stands under its number, and the pages of the others are as they were, they are leaves that name the places.
pub leaves_now : (pages next : List StorePage) (ls : List LeafNow) (ns : List ℕ) (es : List EntryAt) → NamePlaces pages ls es
    → Each (λ (n : ℕ). page_at next n ≡ page_at pages n) (kept_pages ls) → LeavesStand next (written_now ls ns)
    → AreLeaves next (children_now ls ns) es
leaves_now pages next [] ns es name same stand = name
leaves_now pages next (Kept c ∷ ls) ns es (own, later, low, at, first, more, is) same stand = (own, later, low, same.0 ∙ at, first, leaves_now pages next ls ns later more same.1 stand, is)
leaves_now pages next (Made v ∷ ls) ns es (later, some, most, more, is) same stand =
    (v.items, later, stand.0.0, stand.0.1, first_is v.items some, leaves_now pages next ls (drop 1 ns) later more same stand.1, is)

-- Each of those that are to be written names 1 to 681 places.
pub written_are : (pages : List StorePage) (ls : List LeafNow) (ns : List ℕ) (es : List EntryAt) → NamePlaces pages ls es → AreLeafPages (written_now ls ns)
written_are pages [] ns es name = tt
written_are pages (Kept c ∷ ls) ns es (own, later, low, at, first, more, is) = written_are pages ls ns later more
written_are pages (Made v ∷ ls) ns es (later, some, most, more, is) = ((some, most), written_are pages ls (drop 1 ns) later more)

-- Their numbers are the first ones of those that were given.
pub written_numbers : (ls : List LeafNow) (ns : List ℕ) → made_count ls ≤ length ns → leaf_numbers (written_now ls ns) ≡ take (made_count ls) ns
written_numbers [] ns few = refl
written_numbers (Kept c ∷ ls) ns few = written_numbers ls ns few
written_numbers (Made v ∷ ls) [] few = absurd (omega (arith, few))
written_numbers (Made v ∷ ls) (n ∷ ns) few =
    let next : suc (made_count ls) ≡ 1 + made_count ls = omega arith in
    ap (λ (l : List ℕ). n ∷ l) (written_numbers ls ns (omega (arith, few))) ∙ ap (λ (k : ℕ). take k (n ∷ ns)) next

-- The pages of the leaves are those of leaves that stay, and those that are written.
pub pages_now : (ls : List LeafNow) (ns : List ℕ) (i : ℕ) → times i (pages_of (children_now ls ns)) ≡ times i (kept_pages ls) + times i (leaf_numbers (written_now ls ns))
pages_now [] ns i = refl
pages_now (Kept c ∷ ls) ns i =
    let a = times-append i (c.page ∷ []) (pages_of (children_now ls ns)) in
    let b = times-append i (c.page ∷ []) (kept_pages ls) in
    let r = pages_now ls ns i in
    omega (arith, a, b, r)
pages_now (Made v ∷ ls) ns i =
    let a = times-append i (get_or ns 0 0 ∷ []) (pages_of (children_now ls (drop 1 ns))) in
    let b = times-append i (get_or ns 0 0 ∷ []) (leaf_numbers (written_now ls (drop 1 ns))) in
    let r = pages_now ls (drop 1 ns) i in
    omega (arith, a, b, r)

pub length-children : (ls : List LeafNow) (ns : List ℕ) → length (children_now ls ns) ≡ length ls
length-children [] ns = refl
length-children (Kept c ∷ ls) ns = ap suc (length-children ls ns)
length-children (Made v ∷ ls) ns = ap suc (length-children ls (drop 1 ns))

pub length-written : (ls : List LeafNow) (ns : List ℕ) → length (written_now ls ns) ≡ made_count ls
length-written [] ns = refl
length-written (Kept c ∷ ls) ns = length-written ls ns
length-written (Made v ∷ ls) ns = let r = length-written ls (drop 1 ns) in omega (arith, r)
