-- Levels that stand on their pages lead from the top to the leaves.
use Rattle.std.specs.Prelude.{map, flat_map}
use Rattle.std.proofs.Common.{◌≡◌, ℕ, suc, ◌+◌, ◌≤◌, List, [], ◌∷◌, ◌++◌, length, get_or, Some, refl, sym, ap, subst, ◌∙◌, arith}
use Rattle.pg_map.specs.Kinds.{Each}
use Rattle.pg_map.specs.Holding.{times}
use Rattle.pg_map.specs.laws.Loose.{times-append}
use Rattle.pg_directory.specs.declared.entries.Child.{Child}
use Rattle.pg_directory.specs.Pages.{Inner, no_child}
use Rattle.pg_directory.specs.Trees.{StorePage, Directory, first_of}
use Rattle.pg_directory.specs.Levels.{pages_of, leasts_of, IsLevel, LeadsTo}
use Rattle.pg_directory.specs.Building.{Above, child_of, named_by, numbers_of, AreOfLevel, StandThere, AreLevels}

first_least : (cs : List Child) → 1 ≤ length cs → first_of (leasts_of cs) ≡ Some (get_or cs 0 no_child).least
first_least [] some = absurd (omega (arith, some))
first_least (c ∷ cs) some = refl

-- one level
pub stands_as_level : (pages : List StorePage) (level : ℕ) (as_ : List Above) → AreOfLevel level as_ → StandThere pages as_ → IsLevel pages level (map child_of as_) (named_by as_)
stands_as_level pages level [] are stand = refl
stands_as_level pages level (a ∷ as_) are stand = (
  a.children,
  named_by as_,
  stand.0.0,
  stand.0.1 ∙ ap (λ (l : ℕ). Directory (Inner l a.children)) are.0.0,
  first_least a.children are.0.1,
  stands_as_level pages level as_ are.1 stand.1,
  refl,
)

numbers_are : (as_ : List Above) → pages_of (map child_of as_) ≡ numbers_of as_
numbers_are [] = refl
numbers_are (a ∷ as_) = ap (λ (l : List ℕ). a.number ∷ l) (numbers_are as_)

-- the numbers of all pages of some levels, those of the uppermost first, and then others
abbrev pub numbers_down : List (List Above) → List ℕ → List ℕ
numbers_down [] others = others
numbers_down (as_ ∷ more) others = numbers_down more (numbers_of as_ ++ others)

-- all levels
pub levels_lead : (pages : List StorePage) (level : ℕ) (cs : List Child) (levels : List (List Above)) (top : Child) (inner : List ℕ) (leaves : List Child) → AreLevels level cs levels top → Each (StandThere pages) levels
    → LeadsTo pages level cs inner leaves → LeadsTo pages (level + length levels) (top ∷ []) (numbers_down levels inner) leaves
levels_lead pages level cs [] top inner leaves is stand leads =
    let e : level ≡ level + 0 = omega arith in
    subst (λ (n : ℕ). LeadsTo pages n (top ∷ []) inner leaves) e (subst (λ (l : List Child). LeadsTo pages level l inner leaves) is leads)
levels_lead pages level cs (as_ ∷ more) top inner leaves (of_level, named, above) stand leads =
    let e : suc level + length more ≡ level + suc (length more) = omega arith in
    subst (λ (n : ℕ). LeadsTo pages n (top ∷ []) (numbers_down more (numbers_of as_ ++ inner)) leaves) e
    (levels_lead pages (suc level) (map child_of as_) more top (numbers_of as_ ++ inner) leaves above stand.1
    (cs, inner, subst (IsLevel pages (suc level) (map child_of as_)) named (stands_as_level pages (suc level) as_ of_level stand.0), leads, ap (λ (l : List ℕ). l ++ inner) (sym (numbers_are as_))))

-- each number comes as often as on one of the levels, or among the others
abbrev pub all_numbers : List (List Above) → List ℕ
all_numbers levels = flat_map numbers_of levels

pub times-down : (i : ℕ) (levels : List (List Above)) (others : List ℕ) → times i (numbers_down levels others) ≡ times i (all_numbers levels) + times i others
times-down i [] others = omega arith
times-down i (as_ ∷ more) others =
    let a = times-down i more (numbers_of as_ ++ others) in
    let b = times-append i (numbers_of as_) others in
    let c = times-append i (numbers_of as_) (all_numbers more) in
    omega (arith, a, b, c)
