-- A directory, made of leaves and of the pages above them.
use Rattle.std.specs.Prelude.{map}
use Rattle.std.proofs.Common.{◌≡◌, ℕ, ◌+◌, ◌-◌, ◌*◌, ◌^◌, ◌≤◌, ◌<◌, All, List, [], ◌∷◌, ◌++◌, length, take, drop, get_or, zero, suc, sym, ap, subst, ◌∙◌, arith}
use Rattle.std.proofs.lemmas.List.{length-map, length-take}
use Rattle.pg_directory.specs.declared.entries.Child.{Child}
use Rattle.pg_directory.specs.declared.entries.EntryAt.{EntryAt}
use Rattle.pg_directory.specs.declared.leaves.LeafPage.{LeafPage}
use Rattle.pg_directory.specs.Building.{Above, numbers_of, AreLevels}
use Rattle.pg_directory.specs.Layering.{BuildsLevels}
use Rattle.pg_directory.specs.Leaves.{LeafAt, leaf_at, leaf_child, leaf_numbers, leaves_for, AreLeafPages, BuildsLeaves}
use Rattle.pg_directory.specs.Making.{IsMadeOn}
use Rattle.pg_directory.specs.Numbering.{numbers_from}
use Rattle.pg_directory.specs.laws.Numbering.{length-taken, take_taken}
use Rattle.pg_directory.proofs.Builds.{take_further}

-- each leaf names an entry
pub some_entry : (ps : List LeafPage) → AreLeafPages (map leaf_at ps) → All (λ (p : LeafPage). 1 ≤ length p.entries.items) ps
some_entry ps are = λ k d less. at ps k d are less
  where
    at : (ps : List LeafPage) (k : ℕ) (d : LeafPage) → AreLeafPages (map leaf_at ps) → k < length ps → 1 ≤ length (get_or ps k d).entries.items
    at [] k d are less = absurd (omega (arith, less))
    at (p ∷ ps) zero d are less = are.0.0
    at (p ∷ ps) (suc k) d are less = at ps k d are.1 (omega (arith, less))

-- as many leaves as are needed
pub leaf_count : (places : List EntryAt) (numbers : List ℕ) (ls : List LeafAt) → leaves_for (length places) ≤ length numbers → BuildsLeaves places numbers ls → length ls ≡ leaves_for (length places)
leaf_count places numbers ls enough b =
    let e = ap (λ (l : List ℕ). length l) b.numbers_are in
    omega (arith, e, length-map ls (λ (l : LeafAt). l.number), length-take (leaves_for (length places)) numbers, enough)

pub made_on : (homes : ℕ) (free numbers rest : List ℕ) (places : List EntryAt) (ls : List LeafAt) (as_ : List Above) (children : List Child) (inner : List ℕ) (top : Child) (n : ℕ) → numbers ≡ numbers_from free homes (2 * leaves_for (length places)) → n ≡ leaves_for (length places)
    → BuildsLeaves places numbers ls → children ≡ map leaf_child ls → rest ≡ drop n numbers → BuildsLevels children rest as_ inner top → homes + ((n + length as_) - length free) ≤ 2 ^ 31
    → IsMadeOn homes free places ls as_ inner top (length ls + length as_)
made_on homes free numbers rest places ls as_ children inner top n numbers_are n_is leaves children_are rest_is upper most =
    let long = ap (λ (l : List ℕ). length l) numbers_are ∙ length-taken free homes (2 * leaves_for (length places)) in
    let count = leaf_count places numbers ls (omega (arith, long)) leaves in
    let of_children = ap (λ (l : List Child). length l) children_are ∙ length-map ls leaf_child in
    let first : leaf_numbers ls ≡ take (length ls) numbers = leaves.numbers_are ∙ ap (λ (k : ℕ). take k numbers) (sym count) in
    let second : numbers_of as_ ≡ take (length as_) (drop (length ls) numbers) = upper.numbers_are ∙ ap (λ (l : List ℕ). take (length as_) l) (rest_is ∙ ap (λ (k : ℕ). drop k numbers) (n_is ∙ sym count)) in
    record {
      made = record { leaves = leaves.are; named = leaves.named; levels = upper.levels; inner_are = upper.inner_are; are = subst (λ (cs : List Child). AreLevels 0 cs upper.levels top) children_are upper.are; pages_are = upper.pages_are };
      few = upper.few;
      numbers =
          ap (λ (l : List ℕ). l ++ numbers_of as_) first ∙ ap (λ (l : List ℕ). take (length ls) numbers ++ l) second ∙ take_further (length ls) (length as_) numbers
          ∙ ap (take (length ls + length as_)) numbers_are
          ∙ take_taken free homes (length ls + length as_) (2 * leaves_for (length places)) (omega (arith, upper.fewer, of_children, count));
      most = omega (arith, most, n_is, count);
    }

pub child_count : (places : List EntryAt) (numbers : List ℕ) (ls : List LeafAt) (kids : List Child) → leaves_for (length places) ≤ length numbers → BuildsLeaves places numbers ls → kids ≡ map leaf_child ls → length kids ≡ leaves_for (length places)
child_count places numbers ls kids enough b is = ap (λ (l : List Child). length l) is ∙ length-map ls leaf_child ∙ leaf_count places numbers ls enough b

-- fewer pages above than leaves
pub upper_count : (places : List EntryAt) (numbers rest : List ℕ) (ls : List LeafAt) (kids : List Child) (as_ : List Above) (inner : List ℕ) (top : Child) → leaves_for (length places) ≤ length numbers → BuildsLeaves places numbers ls → kids ≡ map leaf_child ls → BuildsLevels kids rest as_ inner top
    → length as_ + 1 ≤ leaves_for (length places)
upper_count places numbers rest ls kids as_ inner top enough b is upper = omega (arith, upper.fewer, child_count places numbers ls kids enough b is)
