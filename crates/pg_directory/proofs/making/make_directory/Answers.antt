use Rattle.std.specs.Prelude.{map}
use Rattle.std.proofs.Common.{◌≡◌, ◌≤◌, ◌+◌, ◌*◌, ℕ, All, List, length, length-drop, drop, sym, ap, subst, ◌∙◌, arith}
use Rattle.std.proofs.lemmas.List.{length-map}
use Rattle.pg_directory.specs.declared.leaves.LeafPage.{LeafPage}
use Rattle.pg_directory.specs.Building.{above_of}
use Rattle.pg_directory.specs.Leaves.{leaf_at, leaf_child, leaves_for}
use Rattle.pg_directory.specs.Numbering.{numbers_from}
use Rattle.pg_directory.specs.laws.Numbering.{length-taken}
use Rattle.pg_directory.proofs.Makes.{some_entry, leaf_count, child_count, upper_count, made_on}
use Rattle.pg_directory.specs.Making.{IsMadeOn}
use Rattle.pg_directory.proofs.making.make_directory.Goals as goal

pub returns-then-count-gt-MOST-clause-none : goal.returns-then-count-gt-MOST-clause-none
returns-then-count-gt-MOST-clause-none c = λ _. omega (arith, c.if-count-gt-MOST.true, c.leaves_for-count.ensures, c.requires.within)

pub build_leaves-requires-clause-numbers : goal.build_leaves-requires-clause-numbers
build_leaves-requires-clause-numbers c =
    let long = ap (λ (l : List ℕ). length l) (c.deref.ensures.value ∙ c.in_ok-numbers.ensures) ∙ length-taken c.args.free.now c.args.homes (2 * c.leaves_for-count.result) in
    omega (arith, long, c.leaves_for-count.ensures)

pub children_of_leaves-requires : goal.children_of_leaves-requires
children_of_leaves-requires c =
    subst (λ (ps : List LeafPage). All (λ (p : LeafPage). 1 ≤ length p.entries.items) ps) (sym c.deref-2.ensures.value) (some_entry c.in_ok-leaves.leaves.items c.in_ok-leaves.ensures.are)

pub behind-requires : goal.behind-requires
behind-requires c =
    let long = ap (λ (l : List ℕ). length l) (c.deref-4.ensures.value ∙ c.in_ok-numbers.ensures) ∙ length-taken c.args.free.now c.args.homes (2 * c.leaves_for-count.result) in
    omega (arith, long)

pub build_levels-requires-clause-numbers : goal.build_levels-requires-clause-numbers
build_levels-requires-clause-numbers c =
    let n = c.leaves_for-count.result in
    let long = ap (λ (l : List ℕ). length l) (c.deref.ensures.value ∙ c.in_ok-numbers.ensures) ∙ length-taken c.args.free.now c.args.homes (2 * n) in
    let last = ap (λ (l : List ℕ). length l) (c.deref-4.ensures.value ∙ c.in_ok-numbers.ensures) ∙ length-taken c.args.free.now c.args.homes (2 * n) in
    let left = ap (λ (l : List ℕ). length l) c.behind.ensures ∙ length-drop n c.deref-4.result.now in
    let kids = c.deref-3.ensures.value ∙ c.in_ok-children.ensures ∙ ap (λ (ps : List LeafPage). map leaf_child (map leaf_at ps)) c.deref-2.ensures.value in
    let count = child_count c.args.places.now c.deref.result.now (map leaf_at c.in_ok-leaves.leaves.items) c.deref-3.result.now (omega (arith, long, c.leaves_for-count.ensures)) c.in_ok-leaves.ensures kids in
    omega (arith, last, left, count, c.leaves_for-count.ensures)

pub homes_after-requires-clause-few : goal.homes_after-requires-clause-few
homes_after-requires-clause-few c =
    let n = c.leaves_for-count.result in
    let long = ap (λ (l : List ℕ). length l) (c.deref.ensures.value ∙ c.in_ok-numbers.ensures) ∙ length-taken c.args.free.now c.args.homes (2 * n) in
    let kids = c.deref-3.ensures.value ∙ c.in_ok-children.ensures ∙ ap (λ (ps : List LeafPage). map leaf_child (map leaf_at ps)) c.deref-2.ensures.value in
    let count = upper_count c.args.places.now c.deref.result.now c.behind.result.now (map leaf_at c.in_ok-leaves.leaves.items) c.deref-3.result.now (map above_of c.in_ok-upper.upper.pages.items) c.in_ok-upper.upper.inner.items c.in_ok-upper.upper.top
    (omega (arith, long, c.leaves_for-count.ensures)) c.in_ok-leaves.ensures kids c.in_ok-upper.ensures in
    omega (arith, count, c.len.ensures, length-map c.in_ok-upper.upper.pages.items above_of, c.leaves_for-count.ensures, c.if-count-gt-MOST.false)

pub returns-then-homes_after-gt-MOST-clause-none : goal.returns-then-homes_after-gt-MOST-clause-none
returns-then-homes_after-gt-MOST-clause-none c = λ _.
    let n = c.leaves_for-count.result in
    let long = ap (λ (l : List ℕ). length l) (c.deref.ensures.value ∙ c.in_ok-numbers.ensures) ∙ length-taken c.args.free.now c.args.homes (2 * n) in
    let kids = c.deref-3.ensures.value ∙ c.in_ok-children.ensures ∙ ap (λ (ps : List LeafPage). map leaf_child (map leaf_at ps)) c.deref-2.ensures.value in
    let count = upper_count c.args.places.now c.deref.result.now c.behind.result.now (map leaf_at c.in_ok-leaves.leaves.items) c.deref-3.result.now (map above_of c.in_ok-upper.upper.pages.items) c.in_ok-upper.upper.inner.items c.in_ok-upper.upper.top
    (omega (arith, long, c.leaves_for-count.ensures)) c.in_ok-leaves.ensures kids c.in_ok-upper.ensures in
    omega (arith, count, c.len.ensures, length-map c.in_ok-upper.upper.pages.items above_of, c.leaves_for-count.ensures, c.homes_after.ensures, c.if-homes_after-gt-MOST.true)

pub returns-clause-made : goal.returns-clause-made
returns-clause-made c =
    let n = c.leaves_for-count.result in
    let ls = map leaf_at c.in_ok-leaves.leaves.items in
    let as_ = map above_of c.in_ok-upper.upper.pages.items in
    let long = ap (λ (l : List ℕ). length l) (c.deref.ensures.value ∙ c.in_ok-numbers.ensures) ∙ length-taken c.args.free.now c.args.homes (2 * n) in
    let enough : leaves_for (length c.args.places.now) ≤ length c.deref.result.now = omega (arith, long, c.leaves_for-count.ensures) in
    let own = c.in_ok-children.ensures ∙ ap (λ (ps : List LeafPage). map leaf_child (map leaf_at ps)) c.deref-2.ensures.value in
    let kids = c.deref-3.ensures.value ∙ own in
    let count = upper_count c.args.places.now c.deref.result.now c.behind.result.now ls c.deref-3.result.now as_ c.in_ok-upper.upper.inner.items c.in_ok-upper.upper.top enough c.in_ok-leaves.ensures kids c.in_ok-upper.ensures in
    let above = length-map c.in_ok-upper.upper.pages.items above_of in
    let leaves = length-map c.in_ok-leaves.leaves.items leaf_at in
    let same : length ls + length as_ ≡ length c.in_ok-leaves.leaves.items + length c.in_ok-upper.upper.pages.items = omega (arith, above, leaves) in
    let on = made_on c.args.homes c.args.free.now c.deref.result.now c.behind.result.now c.args.places.now ls as_ c.deref-3.result.now c.in_ok-upper.upper.inner.items c.in_ok-upper.upper.top n
    (c.deref.ensures.value ∙ c.in_ok-numbers.ensures ∙ ap (λ (k : ℕ). numbers_from c.args.free.now c.args.homes (2 * k)) c.leaves_for-count.ensures) c.leaves_for-count.ensures c.in_ok-leaves.ensures kids
    (c.behind.ensures ∙ ap (λ (l : List ℕ). drop n l) (c.deref-4.ensures.value ∙ sym c.deref.ensures.value)) c.in_ok-upper.ensures
    (omega (arith, c.homes_after.ensures, c.if-homes_after-gt-MOST.false, c.len.ensures, above)) in
    record {
      on = subst (λ (k : ℕ). IsMadeOn c.args.homes c.args.free.now c.args.places.now ls as_ c.in_ok-upper.upper.inner.items c.in_ok-upper.upper.top k) same on;
      children = own;
      few = omega (arith, count, above, leaves, leaf_count c.args.places.now c.deref.result.now ls enough c.in_ok-leaves.ensures);
    }
