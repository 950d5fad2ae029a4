-- The pages of a directory whose entries are in order are different ones; so where they are as many as there are pages of a directory, each
-- of these is met exactly once.
use Rattle.std.specs.Prelude.{Bool, true, false, cond}
use Rattle.std.proofs.Common.{◌≡◌, ◌≢◌, ⊎_elim, ℕ, zero, suc, ◌+◌, ◌-◌, ◌==◌, ◌≤◌, List, [], ◌∷◌, ◌++◌, length, get_or, Some, refl, sym, ap, subst, ◌∙◌, append_assoc, arith}
use Rattle.std.specs.List.{Contains}
use Rattle.std.proofs.lemmas.Bool.{eqb-true, eq-eqb, false≢true}
use Rattle.std.proofs.lemmas.List.{map-append}
use Rattle.std.proofs.lemmas.List.Elements.{Contains-append_left, Contains-append_right, Contains-append_cases}
use Rattle.pg_map.specs.Kinds.{Each, Free}
use Rattle.pg_map.specs.Holding.{times}
use Rattle.pg_directory.specs.declared.entries.EntryAt.{EntryAt}
use Rattle.pg_directory.specs.declared.entries.Child.{Child}
use Rattle.pg_directory.specs.Pages.{DirectoryPage, Leaf, Inner, level_of}
use Rattle.pg_directory.specs.Trees.{StorePage, Plain, Directory, page_at, one_if_directory, first_of}
use Rattle.pg_directory.specs.Counting.{one_number, directory_numbers}
use Rattle.pg_directory.specs.Levels.{pages_of, leasts_of, AreLeaves, IsLevel, LeadsTo}
use Rattle.pg_directory.specs.laws.Counting.{Differ, covers}
use Rattle.pg_directory.specs.laws.Listing.{none_in, in_more, first_in, later_in, each_in}
use Rattle.pg_directory.specs.laws.Opening.{differ-append}

-- ---- different elements

-- what comes later is another one
other_later : {X : Type 0} (x y : X) (xs : List X) → Differ (x ∷ xs) → Contains xs y → x ≢ y
other_later x y xs differ has = each_in (λ z. x ≢ z) xs y differ.0 has

differ_right : {X : Type 0} (xs ys : List X) → Differ (xs ++ ys) → Differ ys
differ_right [] ys differ = differ
differ_right (x ∷ xs) ys differ = differ_right xs ys differ.1

differ_apart : {X : Type 0} (xs ys : List X) (x : X) → Differ (xs ++ ys) → Contains xs x → Contains ys x → ⊥
differ_apart [] ys x differ a b = none_in x a
differ_apart (z ∷ xs) ys x differ a b = ⊎_elim
    (λ here. other_later z x (xs ++ ys) differ (Contains-append_right xs ys x b) here)
    (λ later. differ_apart xs ys x differ.1 later b)
    (in_more z x xs a)

-- a number that is none of some isn't counted
none_counted : (i : ℕ) (ns : List ℕ) → (Contains ns i → ⊥) → times i ns ≡ 0
none_counted i [] no_ = refl
none_counted i (n ∷ ns) no_ = of (n == i) refl (none_counted i ns (λ has. no_ (later_in n i ns has)))
  where
    of : (b : Bool) → (n == i) ≡ b → times i ns ≡ 0 → cond (n == i) (1 + times i ns) (times i ns) ≡ 0
    of true is rest = absurd (no_ (subst (λ (k : ℕ). Contains (n ∷ ns) k) (eqb-true n i is) (first_in n ns)))
    of false is rest = ap (λ (b : Bool). cond b (1 + times i ns) (times i ns)) is ∙ rest

one_counted : (i : ℕ) (ns : List ℕ) → Differ ns → Contains ns i → times i ns ≡ 1
one_counted i [] differ has = absurd (none_in i has)
one_counted i (n ∷ ns) differ has = of (n == i) refl (λ more. one_counted i ns differ.1 more)
  where
    of : (b : Bool) → (n == i) ≡ b → (Contains ns i → times i ns ≡ 1) → cond (n == i) (1 + times i ns) (times i ns) ≡ 1
    of true is again =
        let same : n ≡ i = eqb-true n i is in
        let none = none_counted i ns (λ more. other_later n i ns differ more same) in
        ap (λ (b : Bool). cond b (1 + times i ns) (times i ns)) is ∙ omega (arith, none)
    of false is again =
        ap (λ (b : Bool). cond b (1 + times i ns) (times i ns)) is
        ∙ ⊎_elim (λ same. absurd (let e = sym is ∙ ap (λ (k : ℕ). n == k) (sym same) ∙ eq-eqb n n refl in false≢true e)) again (in_more n i ns has)

-- ---- pages of one level

first_there : (e : EntryAt) (es : List EntryAt) → first_of es ≡ Some e → Contains es e
first_there e [] is = absurd (cc is)
first_there e (x ∷ es) is = let same : x ≡ e = cc is in subst (λ (y : EntryAt). Contains (x ∷ es) y) same (first_in x es)

leaf_items : StorePage → List EntryAt
leaf_items (Plain k) = []
leaf_items (Directory (Leaf es)) = es
leaf_items (Directory (Inner l cs)) = []

inner_items : StorePage → List Child
inner_items (Plain k) = []
inner_items (Directory (Leaf es)) = []
inner_items (Directory (Inner l cs)) = cs

-- the entries of a leaf among leaves
leaf_among : (pages : List StorePage) (leaves : List Child) (es : List EntryAt) (n : ℕ) → AreLeaves pages leaves es → Contains (pages_of leaves) n → (own : List EntryAt) (e : EntryAt) → page_at pages n ≡ Directory (Leaf own) → Contains own e → Contains es e
unfolding leaf_items
leaf_among pages [] es n are has own e at there = absurd (none_in n has)
leaf_among pages (c ∷ leaves) es n (mine, later, low, here, first, more, is) has own e at there =
    subst (λ (l : List EntryAt). Contains l e) (sym is)
    (⊎_elim
    (λ same. let one : mine ≡ own = ap leaf_items (sym here ∙ ap (page_at pages) same ∙ at) in Contains-append_left mine later e (subst (λ (l : List EntryAt). Contains l e) (sym one) there))
    (λ others. Contains-append_right mine later e (leaf_among pages leaves later n more others own e at there))
    (in_more c.page n (pages_of leaves) has))

-- leaves whose entries are different are different pages
pub leaves_differ : (pages : List StorePage) (leaves : List Child) (es : List EntryAt) → AreLeaves pages leaves es → Differ es → Differ (pages_of leaves)
leaves_differ pages [] es are differ = tt
leaves_differ pages (c ∷ leaves) es (own, later, low, at, first, more, is) differ =
    let both : Differ (own ++ later) = subst Differ is differ in
    (each (pages_of leaves) (λ n has. has), leaves_differ pages leaves later more (differ_right own later both))
  where
    each : (ns : List ℕ) → ((n : ℕ) → Contains ns n → Contains (pages_of leaves) n) → Each (λ (n : ℕ). c.page ≢ n) ns
    each [] within = tt
    each (n ∷ ns) within = (
      λ same. differ_apart own later c.least (subst Differ is differ) (first_there c.least own first)
          (leaf_among pages leaves later n more (within n (first_in n ns)) own c.least (ap (page_at pages) (sym same) ∙ at) (first_there c.least own first)),
      each ns (λ k has. within k (later_in n k ns has)),
    )

-- the pages that a page names among those of its level
page_among : (pages : List StorePage) (level : ℕ) (cs ds : List Child) (n : ℕ) → IsLevel pages level cs ds → Contains (pages_of cs) n → (own : List Child) (k : ℕ) → page_at pages n ≡ Directory (Inner level own) → Contains (pages_of own) k → Contains (pages_of ds) k
unfolding inner_items
page_among pages level [] ds n are has own k at there = absurd (none_in n has)
page_among pages level (c ∷ cs) ds n (mine, later, low, here, first, more, is) has own k at there =
    subst (λ (l : List ℕ). Contains l k) (sym (ap pages_of is ∙ map-append (λ (x : Child). x.page) mine later))
    (⊎_elim
    (λ same. let one : mine ≡ own = ap inner_items (sym here ∙ ap (page_at pages) same ∙ at) in Contains-append_left (pages_of mine) (pages_of later) k (subst (λ (l : List Child). Contains (pages_of l) k) (sym one) there))
    (λ others. Contains-append_right (pages_of mine) (pages_of later) k (page_among pages level cs later n more others own k at there))
    (in_more c.page n (pages_of cs) has))

some_page : (cs : List Child) (e : EntryAt) → first_of (leasts_of cs) ≡ Some e → (k : ℕ) × Contains (pages_of cs) k
some_page [] e is = absurd (cc is)
some_page (c ∷ cs) e is = (c.page, first_in c.page (pages_of cs))

-- pages that name different pages are different
pub level_differs : (pages : List StorePage) (level : ℕ) (cs ds : List Child) → IsLevel pages level cs ds → Differ (pages_of ds) → Differ (pages_of cs)
level_differs pages level [] ds are differ = tt
level_differs pages level (c ∷ cs) ds (own, later, low, at, first, more, is) differ =
    (each (pages_of cs) (λ n has. has), level_differs pages level cs later more (differ_right (pages_of own) (pages_of later) both))
  where
    both : Differ (pages_of own ++ pages_of later)
    both = subst Differ (ap pages_of is ∙ map-append (λ (x : Child). x.page) own later) differ

    each : (ns : List ℕ) → ((n : ℕ) → Contains ns n → Contains (pages_of cs) n) → Each (λ (n : ℕ). c.page ≢ n) ns
    each [] within = tt
    each (n ∷ ns) within =
        let k = some_page own c.least first in (
          λ same. differ_apart (pages_of own) (pages_of later) k.0 both k.1 (page_among pages level cs later n more (within n (first_in n ns)) own k.0 (ap (page_at pages) (sym same) ∙ at) k.1),
          each ns (λ m has. within m (later_in n m ns has)),
        )

-- ---- all pages

-- the page of a number is one of a directory, so far above the leaves at most
pub record IsAtMostAbove (pages : List StorePage) (level n : ℕ) : Type 0 where
  pub low : 3 ≤ n
  pub directory : DirectoryPage
  pub at : page_at pages n ≡ Directory directory
  pub most : level_of directory ≤ level

leaf_level : (pages : List StorePage) (leaves : List Child) (es : List EntryAt) (n : ℕ) → AreLeaves pages leaves es → Contains (pages_of leaves) n → IsAtMostAbove pages 0 n
leaf_level pages [] es n are has = absurd (none_in n has)
leaf_level pages (c ∷ leaves) es n (own, later, low, at, first, more, is) has = ⊎_elim
    (λ same. record { low = subst (λ (k : ℕ). 3 ≤ k) same low; directory = Leaf own; at = ap (page_at pages) (sym same) ∙ at; most = omega arith })
    (λ others. leaf_level pages leaves later n more others) (in_more c.page n (pages_of leaves) has)

own_level : (pages : List StorePage) (level : ℕ) (cs ds : List Child) (n : ℕ) → IsLevel pages level cs ds → Contains (pages_of cs) n → (own : List Child) × (3 ≤ n) × (page_at pages n ≡ Directory (Inner level own))
own_level pages level [] ds n are has = absurd (none_in n has)
own_level pages level (c ∷ cs) ds n (own, later, low, at, first, more, is) has = ⊎_elim
    (λ same. (own, subst (λ (k : ℕ). 3 ≤ k) same low, ap (page_at pages) (sym same) ∙ at))
    (λ others. own_level pages level cs later n more others) (in_more c.page n (pages_of cs) has)

-- What is known of the pages that are met from these on.
pub record AreMet (pages : List StorePage) (level : ℕ) (cs : List Child) (numbers : List ℕ) : Type 0 where
  pub tops : Differ (pages_of cs)
  pub differ : Differ numbers
  pub levels : (n : ℕ) → Contains numbers n → IsAtMostAbove pages level n

the_level : StorePage → ℕ
the_level (Plain k) = 0
the_level (Directory d) = level_of d

pub are_met : (pages : List StorePage) (level : ℕ) (cs : List Child) (inner : List ℕ) (leaves : List Child) (es : List EntryAt) → LeadsTo pages level cs inner leaves → AreLeaves pages leaves es → Differ es → AreMet pages level cs (inner ++ pages_of leaves)
unfolding the_level
are_met pages zero cs inner leaves es (none, same) are differ =
    let leaves_are = leaves_differ pages leaves es are differ in
    let list : inner ++ pages_of leaves ≡ pages_of leaves = ap (λ (l : List ℕ). l ++ pages_of leaves) none in
    record {
      tops = subst (λ (l : List Child). Differ (pages_of l)) same leaves_are;
      differ = subst Differ (sym list) leaves_are;
      levels = λ n has. leaf_level pages leaves es n are (subst (λ (l : List ℕ). Contains l n) list has);
    }
are_met pages (suc level) cs inner leaves es (ds, below, is_level, leads, numbers) are differ =
    let r = are_met pages level ds below leaves es leads are differ in
    let mine = level_differs pages (suc level) cs ds is_level r.tops in
    let list : inner ++ pages_of leaves ≡ pages_of cs ++ (below ++ pages_of leaves) =
    ap (λ (l : List ℕ). l ++ pages_of leaves) numbers ∙ append_assoc (pages_of cs) below (pages_of leaves) in
    record {
      tops = mine;
      differ = subst Differ (sym list) (differ-append (pages_of cs) (below ++ pages_of leaves) mine r.differ (λ x y first second same.
          let o = own_level pages (suc level) cs ds x is_level first in
          let l = r.levels y second in
          let e : suc level ≡ level_of l.directory = ap the_level (sym o.2 ∙ ap (page_at pages) same ∙ l.at) in
          let most = l.most in
          omega (arith, e, most)));
      levels = λ n has. ⊎_elim
          (λ top. let o = own_level pages (suc level) cs ds n is_level top in record { low = o.1; directory = Inner (suc level) o.0; at = o.2; most = omega arith })
          (λ under. let l = r.levels n under in record { low = l.low; directory = l.directory; at = l.at; most = let m = l.most in omega (arith, m) })
          (Contains-append_cases (pages_of cs) (below ++ pages_of leaves) n (subst (λ (l : List ℕ). Contains l n) list has));
    }

-- ---- the pages of a directory among all

pub numbered : (first : ℕ) (pages : List StorePage) (k : ℕ) (d : DirectoryPage) → get_or pages k (Plain Free) ≡ Directory d → Contains (directory_numbers first pages) (first + k)
numbered first [] k d is = absurd (let e : 0 ≡ 1 = ap one_if_directory is in omega (arith, e))
numbered first (p ∷ pages) zero d is =
    let e : first ≡ first + 0 = omega arith in
    subst (λ (n : ℕ). Contains (one_number p first ++ directory_numbers (suc first) pages) n) e
    (subst (λ (q : StorePage). Contains (one_number q first ++ directory_numbers (suc first) pages) first) (sym is) (first_in first (directory_numbers (suc first) pages)))
numbered first (p ∷ pages) (suc k) d is =
    let e : suc first + k ≡ first + suc k = omega arith in
    Contains-append_right (one_number p first) (directory_numbers (suc first) pages) (first + suc k) (subst (λ (n : ℕ). Contains (directory_numbers (suc first) pages) n) e (numbered (suc first) pages k d is))

-- Each page of a directory is met once, where as many are met as there are.
pub each_met : (pages : List StorePage) (level : ℕ) (cs : List Child) (numbers : List ℕ) → AreMet pages level cs numbers → length (directory_numbers 3 pages) ≤ length numbers → (i : ℕ) → 3 ≤ i → times i numbers ≡ one_if_directory (page_at pages i)
each_met pages level cs numbers met most i low = of (page_at pages i) refl
  where
    of : (p : StorePage) → page_at pages i ≡ p → times i numbers ≡ one_if_directory (page_at pages i)
    of (Plain k) is = none_counted i numbers (λ has. let l = met.levels i has in let e : 1 ≡ 0 = ap one_if_directory (sym l.at ∙ is) in omega (arith, e)) ∙ sym (ap one_if_directory is)
    of (Directory d) is =
        let n : 3 + (i - 3) ≡ i = omega (arith, low) in
        let there : Contains numbers i = covers numbers (directory_numbers 3 pages) met.differ
        (λ k has. let l = met.levels k has in let m : 3 + (k - 3) ≡ k = let o = l.low in omega (arith, o) in subst (λ (x : ℕ). Contains (directory_numbers 3 pages) x) m (numbered 3 pages (k - 3) l.directory l.at))
        most i (subst (λ (x : ℕ). Contains (directory_numbers 3 pages) x) n (numbered 3 pages (i - 3) d is)) in
        one_counted i numbers met.differ there ∙ sym (ap one_if_directory is)
