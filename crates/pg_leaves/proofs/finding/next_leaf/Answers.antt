use Rattle.std.proofs.Common.{ℕ, List, Option, ◌+◌, ◌-◌, length, take, drop, subst, sym, ap, ◌∙◌, refl}
use Rattle.std.proofs.lemmas.List.{drop-map, take_rest}
use Rattle.pg_map.specs.Kinds.{Each}
use Rattle.pg_directory.specs.Trees.{HasString}
use Rattle.pg_leaves.specs.declared.edits.Edit.{Edit}
use Rattle.pg_leaves.specs.Editing.{KeyEdit, edits_of}
use Rattle.pg_leaves.specs.Finding.{ArePartedAt, ArePartedOr, IsLeafFor, IsLeafForOr}
use Rattle.pg_leaves.proofs.Calls.{holds_still}
use Rattle.pg_leaves.proofs.Findings.{key_first, next_is, each_dropped, some_edits}
use Rattle.pg_leaves.proofs.finding.next_leaf.Goals as goal

pub returns-clause-next : goal.returns-clause-next
returns-clause-next g c = λ top pages holds strings rise.
    let key = key_first c.args.edits.now c.index-edits-0.result c.deref.result.now c.requires.some c.index-edits-0.is (c.deref.ensures.value ∙ ap (λ (v : Edit). v.key.items) (sym c.index-edits-0.is)) in
    let later = c.entries_behind-later.result.now in
    let leaf = subst (λ (o : Option ℕ). IsLeafForOr o pages c.args.leasts.now c.deref.result.now) c.in-Some.is (c.in_ok-at.ensures.leaf top pages holds strings rise) in
    let parted = subst (λ (o : Option ℕ). ArePartedOr o pages later (edits_of (take (length c.args.edits.now - 1) (drop 1 c.args.edits.now)))) c.in-Some-2.is
    (c.in_ok-more.ensures.parted top pages (holds_still _ _ _ _ pages c.leaf_for.ensures.same holds) (subst (Each (HasString pages)) (sym c.entries_behind-later.ensures) (each_dropped (HasString pages) (c.in-Some.at + 1) c.args.leasts.now strings))) in
    next_is pages c.args.leasts.now later (edits_of c.args.edits.now) c.in-Some.at c.in-Some-2.more _ (some_edits c.args.edits.now c.requires.some) (subst (λ (k : List ℕ). IsLeafFor pages c.args.leasts.now k c.in-Some.at) (sym key) leaf) c.entries_behind-later.ensures
    (subst (λ (l : List KeyEdit). ArePartedAt pages later l c.in-Some-2.more) (ap edits_of (take_rest c.args.edits.now 1) ∙ sym (drop-map {Y = KeyEdit} (λ (v : Edit). (v.key.items, v.place)) 1 c.args.edits.now)) parted) refl refl
