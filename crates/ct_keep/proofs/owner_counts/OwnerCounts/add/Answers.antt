use Rattle.std.proofs.Common.{◌≡◌, ◌+◌, ℕ, List, Option, Some, None, length, sym, ap, subst, ◌∙◌, arith}
use Rattle.std.proofs.lemmas.Bool.{false≢true}
use Rattle.std.specs.Prelude.{unwrap_or, is_some}
use Rattle.std.specs.FinMap.{get, insert}
use Rattle.std.specs.BTreeMap.{BTreeMap, insert_entry}
use Rattle.ct_keep.specs.declared.entry_keys.EntryKey.{EntryKey}
use Rattle.ct_keep.specs.EntryKeys.{key_bytes, key_room, entry_key_order, AreKeyed}
use Rattle.ct_keep.specs.laws.EntryKeys.{keyed_more, keyed_same, keyed_insert, keyed_set_value}
use Rattle.ct_keep.specs.Counting.{PrefixCounts, prefix_count}
use Rattle.ct_keep.specs.CountedPairs.{counts_of}
use Rattle.ct_keep.specs.laws.CountedPairs.{get-counts_of, counts_of-insert, counts_of-set_value, counts_more}
use Rattle.ct_keep.proofs.owner_counts.OwnerCounts.add.Goals as goal
use Rattle.ct_keep.proofs.owner_counts.OwnerCounts.add.Goals.{In-Some-get_mut}

pub invariant_of-self : goal.invariant_of-self
invariant_of-self c = keyed_more c.self.inside.counts (key_room c.self.inside.sought) (key_room c.make_room.new.self) c.make_room.ensures.keeps c.self.invariant

pub unreachable-requires : goal.unreachable-requires
unreachable-requires c = false≢true (sym c.if-not-set.true ∙ c.set.ensures.room.1 c.in_ok-make_room.ensures.ok)

bytes : (c : In-Some-get_mut) → key_bytes c.set.new.self ≡ c.in-Some.owner.now
bytes c = c.set.ensures.bytes c.if-not-set.false

found : (c : In-Some-get_mut) → get (counts_of c.self.inside.counts.entries) (key_bytes c.set.new.self) ≡ Some c.in-Some-get_mut.count.now
found c = sym (c.in-Some-get_mut.ensures.value ∙ get-counts_of c.self.inside.counts.entries (key_bytes c.set.new.self) c.self.invariant.ordered)

there : (c : In-Some-get_mut) → get (counts_of c.self.inside.counts.entries) c.in-Some.owner.now ≡ Some c.in-Some-get_mut.count.now
there c = ap (get (counts_of c.self.inside.counts.entries)) (sym (bytes c)) ∙ found c

pub overflow_add-count : goal.overflow_add-count
overflow_add-count c =
    let few = c.requires c.in-Some.owner.now (sym c.in-Some.ensures) in
    let is = ap (λ (o : Option ℕ). unwrap_or o 0) (there (goal.at.overflow_add-count c).In-Some-get_mut) in
    let same = ap (prefix_count c.in-Some.owner.now) c.self.view_is in
    omega (arith, few, is, same)

pub returns-in-Some-get_mut-clause-ok : goal.returns-in-Some-get_mut-clause-ok
returns-in-Some-get_mut-clause-ok c =
    let d = (goal.at.returns-in-Some-get_mut-clause-ok c).In-Some-get_mut in
    let owner = c.in-Some.owner.now in
    let more = c.in-Some-get_mut.count.now + 1 in
    let count = ap (λ (o : Option ℕ). unwrap_or o 0) (there d) in
    let written = c.get_mut.follows.holds more in
    let new = counts_of-set_value c.self.inside.counts.entries (c.get_mut.follows.lender more).entries (key_bytes c.set.new.self) more c.self.invariant.ordered written.4 (ap (λ (o : Option ℕ). is_some o) (found d)) written.0
    ∙ ap (λ (k : List ℕ). insert (counts_of c.self.inside.counts.entries) k more) (bytes d) in
    counts_more c.args.key.now c.args.self.now owner (sym c.in-Some.ensures) _ (new ∙ ap (λ (n : ℕ). insert (counts_of c.self.inside.counts.entries) owner (n + 1)) (sym count) ∙ ap (λ (k : PrefixCounts). insert k owner (prefix_count owner k + 1)) c.self.view_is)

pub invariant_of-self-in-Some-get_mut : goal.invariant_of-self-in-Some-get_mut
invariant_of-self-in-Some-get_mut c =
    let more = c.in-Some-get_mut.count.now + 1 in
    let written = c.get_mut.follows.holds more in
    keyed_set_value c.self.inside.counts (key_room c.self.inside.sought) (key_room c.set.new.self) (omega (arith, c.make_room.ensures.keeps, c.set.ensures.keeps)) c.self.invariant (c.get_mut.follows.lender more) _ more written.4 written.0

pub invariant_of-self-in_err-copy-in-None : goal.invariant_of-self-in_err-copy-in-None
invariant_of-self-in_err-copy-in-None c =
    subst (λ (m : BTreeMap EntryKey ℕ). AreKeyed m (key_room c.set.new.self)) (sym c.get_mut.follows.holds-at-none)
    (keyed_more c.self.inside.counts (key_room c.self.inside.sought) (key_room c.set.new.self) (omega (arith, c.make_room.ensures.keeps, c.set.ensures.keeps)) c.self.invariant)

pub invariant_of-self-in_err-insert-in-None : goal.invariant_of-self-in_err-insert-in-None
invariant_of-self-in_err-insert-in-None c =
    keyed_same c.self.inside.counts (key_room c.self.inside.sought) (key_room c.set.new.self) (omega (arith, c.make_room.ensures.keeps, c.set.ensures.keeps)) c.self.invariant c.insert.new.self c.in_err-insert-in-None.ensures.ordered
    (c.in_err-insert-in-None.ensures.err ∙ ap (λ (m : BTreeMap EntryKey ℕ). m.entries) c.get_mut.follows.holds-at-none)

pub invariant_of-self-in_ok-insert-in-None : goal.invariant_of-self-in_ok-insert-in-None
invariant_of-self-in_ok-insert-in-None c =
    let entries = c.in_ok-insert-in-None.ensures.entries ∙ ap (λ (m : BTreeMap EntryKey ℕ). insert_entry entry_key_order m.entries c.of.result 1) c.get_mut.follows.holds-at-none in
    let same = ap (λ (l : List ℕ). length l) (c.of.ensures ∙ c.in_ok-copy-in-None.ensures.items) in
    keyed_insert c.self.inside.counts (key_room c.self.inside.sought) (key_room c.set.new.self) (omega (arith, c.make_room.ensures.keeps, c.set.ensures.keeps)) c.self.invariant c.insert.new.self c.of.result 1 c.in_ok-insert-in-None.ensures.ordered entries
    (omega (arith, same, c.in_ok-make_room.ensures.ok, c.set.ensures.keeps))

pub returns-in_ok-insert-in-None-clause-ok : goal.returns-in_ok-insert-in-None-clause-ok
returns-in_ok-insert-in-None-clause-ok c =
    let old = c.self.inside.counts.entries in
    let owner = c.in-Some.owner.now in
    let none : get (counts_of old) owner ≡ None =
    ap (get (counts_of old)) (sym (c.set.ensures.bytes c.if-not-set.false)) ∙ sym (c.in-None.ensures.value ∙ get-counts_of old (key_bytes c.set.new.self) c.self.invariant.ordered) in
    let entries = c.in_ok-insert-in-None.ensures.entries ∙ ap (λ (m : BTreeMap EntryKey ℕ). insert_entry entry_key_order m.entries c.of.result 1) c.get_mut.follows.holds-at-none in
    let new = counts_of-insert old c.insert.new.self.entries c.of.result 1 c.self.invariant.ordered c.in_ok-insert-in-None.ensures.ordered entries in
    counts_more c.args.key.now c.args.self.now owner (sym c.in-Some.ensures) _
    (new ∙ ap (λ (k : List ℕ). insert (counts_of old) k 1) (c.of.ensures ∙ c.in_ok-copy-in-None.ensures.items) ∙ ap (λ (o : Option ℕ). insert (counts_of old) owner (unwrap_or o 0 + 1)) (sym none) ∙ ap (λ (k : PrefixCounts). insert k owner (prefix_count owner k + 1)) c.self.view_is)
