-- A directory as a tree, and level by level: each is the other.
use Rattle.std.proofs.Common.{◌≡◌, ℕ, zero, suc, ◌+◌, List, [], ◌∷◌, ◌++◌, Some, refl, sym, ap, subst, ◌∙◌, append_assoc, append-nil, arith}
use Rattle.pg_map.specs.Holding.{times}
use Rattle.pg_map.specs.laws.Loose.{times-append}
use Rattle.pg_directory.specs.declared.entries.EntryAt.{EntryAt}
use Rattle.pg_directory.specs.declared.entries.Child.{Child}
use Rattle.pg_directory.specs.Trees.{StorePage, AreTrees, IsTree, IsDirectory, first_of}
use Rattle.pg_directory.specs.Levels.{pages_of, leasts_of, AreLeaves, IsLevel, LeadsTo, HasLevels}

-- ---- the first entry

pub first_append : (e : EntryAt) (xs ys : List EntryAt) → first_of xs ≡ Some e → first_of (xs ++ ys) ≡ Some e
first_append e [] ys is = absurd (cc is)
first_append e (x ∷ xs) ys is = is

pub first_of_trees : (tree : ℕ → List ℕ → List EntryAt → Type 0) (cs : List Child) (numbers : List ℕ) (es : List EntryAt) → AreTrees tree cs numbers es → first_of es ≡ first_of (leasts_of cs)
first_of_trees tree [] numbers es are = ap first_of are.1
first_of_trees tree (c ∷ cs) numbers es (own, below, later, behind, t, first, more, ns, is) = ap first_of is ∙ first_append c.least below behind first

-- ---- trees side by side, in two parts

-- Trees, and further ones behind them.
pub record IsParted (tree : ℕ → List ℕ → List EntryAt → Type 0) (cs ds : List Child) (numbers : List ℕ) (es : List EntryAt) : Type 0 where
  pub own : List ℕ
  pub below : List EntryAt
  pub later : List ℕ
  pub behind : List EntryAt
  pub first : AreTrees tree cs own below
  pub second : AreTrees tree ds later behind
  pub numbers_are : numbers ≡ own ++ later
  pub es_are : es ≡ below ++ behind

pub parted : (tree : ℕ → List ℕ → List EntryAt → Type 0) (cs ds : List Child) (numbers : List ℕ) (es : List EntryAt) → AreTrees tree (cs ++ ds) numbers es → IsParted tree cs ds numbers es
parted tree [] ds numbers es are = record { own = []; below = []; later = numbers; behind = es; first = (refl, refl); second = are; numbers_are = refl; es_are = refl }
parted tree (c ∷ cs) ds numbers es (own, below, later, behind, t, first, more, ns, is) =
    let p = parted tree cs ds later behind more in
    record {
      own = own ++ p.own;
      below = below ++ p.below;
      later = p.later;
      behind = p.behind;
      first = (own, below, p.own, p.below, t, first, p.first, refl, refl);
      second = p.second;
      numbers_are = ns ∙ ap (λ (l : List ℕ). own ++ l) p.numbers_are ∙ sym (append_assoc own p.own p.later);
      es_are = is ∙ ap (λ (l : List EntryAt). below ++ l) p.es_are ∙ sym (append_assoc below p.below p.behind);
    }

pub joined : (tree : ℕ → List ℕ → List EntryAt → Type 0) (cs ds : List Child) (own later : List ℕ) (below behind : List EntryAt) → AreTrees tree cs own below → AreTrees tree ds later behind → AreTrees tree (cs ++ ds) (own ++ later) (below ++ behind)
joined tree [] ds own later below behind first second =
    subst (λ (l : List EntryAt). AreTrees tree ds (own ++ later) (l ++ behind)) (sym first.1) (subst (λ (l : List ℕ). AreTrees tree ds (l ++ later) behind) (sym first.0) second)
joined tree (c ∷ cs) ds own later below behind (o, b, l, h, t, first, more, ns, is) second = (
  o,
  b,
  l ++ later,
  h ++ behind,
  t,
  first,
  joined tree cs ds l later h behind more second,
  ap (λ (x : List ℕ). x ++ later) ns ∙ append_assoc o l later,
  ap (λ (x : List EntryAt). x ++ behind) is ∙ append_assoc b h behind,
)

-- ---- leaves

pub leaves_are : (pages : List StorePage) (cs : List Child) (es : List EntryAt) → AreLeaves pages cs es → AreTrees (IsTree pages zero) cs (pages_of cs) es
leaves_are pages [] es are = (refl, are)
leaves_are pages (c ∷ cs) es (own, later, low, at, first, more, is) = (c.page ∷ [], own, pages_of cs, later, (low, at, refl), first, leaves_are pages cs later more, refl, is)

-- The pages of the trees are these leaves.
pub record AreOfLeaves (pages : List StorePage) (cs : List Child) (numbers : List ℕ) (es : List EntryAt) : Type 0 where
  pub leaves : AreLeaves pages cs es
  pub numbers_are : numbers ≡ pages_of cs

pub of_leaves : (pages : List StorePage) (cs : List Child) (numbers : List ℕ) (es : List EntryAt) → AreTrees (IsTree pages zero) cs numbers es → AreOfLeaves pages cs numbers es
of_leaves pages [] numbers es are = record { leaves = are.1; numbers_are = are.0 }
of_leaves pages (c ∷ cs) numbers es (own, below, later, behind, (low, at, one), first, more, ns, is) =
    let r = of_leaves pages cs later behind more in
    record {
      leaves = (below, behind, low, at, first, r.leaves, is);
      numbers_are = ns ∙ ap (λ (l : List ℕ). l ++ later) one ∙ ap (λ (l : List ℕ). c.page ∷ l) r.numbers_are;
    }

-- ---- one level

-- The same numbers, each as often.
abbrev pub AsOften : List ℕ → List ℕ → Type 0
AsOften ms ns = (i : ℕ) → times i ms ≡ times i ns

pub often_front : (xs ys zs : List ℕ) → AsOften ys zs → AsOften (xs ++ ys) (xs ++ zs)
often_front xs ys zs same i = times-append i xs ys ∙ ap (λ (n : ℕ). times i xs + n) (same i) ∙ sym (times-append i xs zs)

-- Trees of one level more: so many numbers are theirs.
pub record AreAbove (pages : List StorePage) (level : ℕ) (cs : List Child) (below : List ℕ) (es : List EntryAt) : Type 0 where
  pub numbers : List ℕ
  pub trees : AreTrees (IsTree pages level) cs numbers es
  pub often : AsOften numbers (pages_of cs ++ below)

pub above : (pages : List StorePage) (level : ℕ) (cs ds : List Child) (below : List ℕ) (es : List EntryAt) → IsLevel pages (suc level) cs ds → AreTrees (IsTree pages level) ds below es → AreAbove pages (suc level) cs below es
above pages level [] ds below es is are =
    let none : AreTrees (IsTree pages level) [] below es = subst (λ (l : List Child). AreTrees (IsTree pages level) l below es) is are in
    record { numbers = []; trees = (refl, none.1); often = λ i. ap (times i) (sym none.0) }
above pages level (c ∷ cs) ds below es (own, later, low, at, first, more, is) are =
    let p = parted (IsTree pages level) own later below es (subst (λ (l : List Child). AreTrees (IsTree pages level) l below es) is are) in
    let r = above pages level cs later p.later p.behind more p.second in
    record {
      numbers = (c.page ∷ p.own) ++ r.numbers;
      trees = (c.page ∷ p.own, p.below, r.numbers, p.behind, (low, own, p.own, at, refl, p.first), first_of_trees (IsTree pages level) own p.own p.below p.first ∙ first, r.trees, refl, p.es_are);
      often = λ i.
          let a = times-append i (c.page ∷ p.own) r.numbers in
          let b = r.often i in
          let d = times-append i (pages_of cs) p.later in
          let e = ap (times i) p.numbers_are ∙ times-append i p.own p.later in
          let f = times-append i (c.page ∷ pages_of cs) below in
          let g = times-append i (c.page ∷ []) p.own in
          let h = times-append i (c.page ∷ []) (pages_of cs) in
          omega (arith, a, b, d, e, f, g, h);
    }

-- One level below some trees.
pub record IsBelowThem (pages : List StorePage) (level : ℕ) (cs : List Child) (numbers : List ℕ) (es : List EntryAt) : Type 0 where
  pub ds : List Child
  pub below : List ℕ
  pub is_level : IsLevel pages (suc level) cs ds
  pub trees : AreTrees (IsTree pages level) ds below es
  pub often : AsOften numbers (pages_of cs ++ below)

pub below_them : (pages : List StorePage) (level : ℕ) (cs : List Child) (numbers : List ℕ) (es : List EntryAt) → AreTrees (IsTree pages (suc level)) cs numbers es → IsBelowThem pages level cs numbers es
below_them pages level [] numbers es are = record { ds = []; below = []; is_level = refl; trees = (refl, are.1); often = λ i. ap (times i) are.0 }
below_them pages level (c ∷ cs) numbers es (own, mine, later, behind, (low, ds, under, at, one, trees), first, more, ns, is) =
    let r = below_them pages level cs later behind more in
    record {
      ds = ds ++ r.ds;
      below = under ++ r.below;
      is_level = (ds, r.ds, low, at, sym (first_of_trees (IsTree pages level) ds under mine trees) ∙ first, r.is_level, refl);
      trees = subst (AreTrees (IsTree pages level) (ds ++ r.ds) (under ++ r.below)) (sym is) (joined (IsTree pages level) ds r.ds under r.below mine behind trees r.trees);
      often = λ i.
          let a = ap (times i) (ns ∙ ap (λ (l : List ℕ). l ++ later) one) ∙ times-append i (c.page ∷ under) later in
          let b = r.often i in
          let d = times-append i (pages_of cs) r.below in
          let e = times-append i under r.below in
          let f = times-append i (c.page ∷ pages_of cs) (under ++ r.below) in
          let g = times-append i (c.page ∷ []) under in
          let h = times-append i (c.page ∷ []) (pages_of cs) in
          omega (arith, a, b, d, e, f, g, h);
    }

-- ---- all levels

-- Trees from these pages on, by the numbers of all their pages.
pub record AreLed (pages : List StorePage) (level : ℕ) (cs : List Child) (inner : List ℕ) (leaves : List Child) (es : List EntryAt) : Type 0 where
  pub numbers : List ℕ
  pub trees : AreTrees (IsTree pages level) cs numbers es
  pub often : AsOften numbers (inner ++ pages_of leaves)

pub trees_of_levels : (pages : List StorePage) (level : ℕ) (cs : List Child) (inner : List ℕ) (leaves : List Child) (es : List EntryAt) → LeadsTo pages level cs inner leaves → AreLeaves pages leaves es → AreLed pages level cs inner leaves es
trees_of_levels pages zero cs inner leaves es (none, same) are =
    record {
      numbers = pages_of cs;
      trees = leaves_are pages cs es (subst (λ (l : List Child). AreLeaves pages l es) same are);
      often = λ i. ap (λ (l : List Child). times i (pages_of l)) (sym same) ∙ ap (λ (l : List ℕ). times i (l ++ pages_of leaves)) (sym none);
    }
trees_of_levels pages (suc level) cs inner leaves es (ds, below, is_level, leads, is) are =
    let r = trees_of_levels pages level ds below leaves es leads are in
    let a = above pages level cs ds r.numbers es is_level r.trees in
    record {
      numbers = a.numbers;
      trees = a.trees;
      often = λ i.
          a.often i ∙ often_front (pages_of cs) r.numbers (below ++ pages_of leaves) r.often i
          ∙ ap (times i) (sym (append_assoc (pages_of cs) below (pages_of leaves))) ∙ ap (λ (l : List ℕ). times i (l ++ pages_of leaves)) (sym is);
    }

-- The levels of trees.
pub record HaveLevels (pages : List StorePage) (level : ℕ) (cs : List Child) (numbers : List ℕ) (es : List EntryAt) : Type 0 where
  pub inner : List ℕ
  pub leaves : List Child
  pub leads : LeadsTo pages level cs inner leaves
  pub are : AreLeaves pages leaves es
  pub often : AsOften numbers (inner ++ pages_of leaves)

pub levels_of_trees : (pages : List StorePage) (level : ℕ) (cs : List Child) (numbers : List ℕ) (es : List EntryAt) → AreTrees (IsTree pages level) cs numbers es → HaveLevels pages level cs numbers es
levels_of_trees pages zero cs numbers es are =
    let o = of_leaves pages cs numbers es are in
    record { inner = []; leaves = cs; leads = (refl, refl); are = o.leaves; often = λ i. ap (times i) o.numbers_are }
levels_of_trees pages (suc level) cs numbers es are =
    let b = below_them pages level cs numbers es are in
    let r = levels_of_trees pages level b.ds b.below es b.trees in
    record {
      inner = pages_of cs ++ r.inner;
      leaves = r.leaves;
      leads = (b.ds, r.inner, b.is_level, r.leads, refl);
      are = r.are;
      often = λ i. b.often i ∙ often_front (pages_of cs) b.below (r.inner ++ pages_of r.leaves) r.often i ∙ ap (times i) (sym (append_assoc (pages_of cs) r.inner (pages_of r.leaves)));
    }

-- ---- the directory

pub directory_of_levels : (pages : List StorePage) (top : ℕ) (inner : List ℕ) (leaves : List Child) (es : List EntryAt) → HasLevels pages top inner leaves es → IsDirectory pages top es
directory_of_levels pages top inner leaves es h = of (trees_of_levels pages h.level (record { page = top; least = h.least } ∷ []) inner leaves es h.leads h.are)
  where
    of : AreLed pages h.level (record { page = top; least = h.least } ∷ []) inner leaves es → IsDirectory pages top es
    of led = the led.trees
      where
        the : AreTrees (IsTree pages h.level) (record { page = top; least = h.least } ∷ []) led.numbers es → IsDirectory pages top es
        the (own, below, later, behind, t, first, none, ns, is) =
            let numbers : led.numbers ≡ own = ns ∙ ap (λ (l : List ℕ). own ++ l) none.0 ∙ append-nil own in
            let same : es ≡ below = is ∙ ap (λ (l : List EntryAt). below ++ l) none.1 ∙ append-nil below in
            record {
              level = h.level;
              numbers = own;
              tree = subst (IsTree pages h.level top own) (sym same) t;
              once = λ i low. ap (times i) (sym numbers) ∙ led.often i ∙ h.once i low;
              strings = h.strings;
              all = h.all;
              order = h.order;
            }

-- The levels of a directory.
pub record HasSomeLevels (pages : List StorePage) (top : ℕ) (es : List EntryAt) : Type 0 where
  pub inner : List ℕ
  pub leaves : List Child
  pub is : HasLevels pages top inner leaves es

pub levels_of_directory : (pages : List StorePage) (top : ℕ) (e : EntryAt) (es : List EntryAt) → IsDirectory pages top (e ∷ es) → HasSomeLevels pages top (e ∷ es)
levels_of_directory pages top e es dir =
    let cs : List Child = record { page = top; least = e } ∷ [] in
    let r = levels_of_trees pages dir.level cs dir.numbers (e ∷ es) (dir.numbers, e ∷ es, [], [], dir.tree, refl, (refl, refl), sym (append-nil dir.numbers), sym (append-nil (e ∷ es))) in
    record {
      inner = r.inner;
      leaves = r.leaves;
      is = record {
        level = dir.level;
        least = e;
        leads = r.leads;
        are = r.are;
        once = λ i low. sym (r.often i) ∙ dir.once i low;
        strings = dir.strings;
        all = dir.all;
        order = dir.order;
      };
    }
