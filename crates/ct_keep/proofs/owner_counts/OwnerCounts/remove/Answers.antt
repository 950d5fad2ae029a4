use Rattle.std.proofs.Common.{◌≡◌, ◌-◌, ℕ, List, Option, None, sym, ap, subst, ◌∙◌}
use Rattle.std.proofs.lemmas.Bool.{false≢true}
use Rattle.std.specs.Prelude.{unwrap_or, is_some}
use Rattle.std.specs.BTreeMap.{BTreeMap}
use Rattle.std.specs.FinMap.{get, insert}
use Rattle.ct_keep.specs.declared.entry_keys.EntryKey.{EntryKey}
use Rattle.ct_keep.specs.EntryKeys.{key_bytes, key_room, AreKeyed}
use Rattle.ct_keep.specs.laws.EntryKeys.{keyed_more, keyed_set_value, none_long}
use Rattle.ct_keep.specs.Counting.{PrefixCounts, prefix_count, CountsLess}
use Rattle.ct_keep.specs.CountedPairs.{counts_of}
use Rattle.ct_keep.specs.laws.CountedPairs.{get-counts_of, counts_of-set_value, counts_less, counts_none_less}
use Rattle.ct_keep.proofs.owner_counts.OwnerCounts.remove.Goals as goal

pub invariant_of-self : goal.invariant_of-self
invariant_of-self c = keyed_more c.self.inside.counts (key_room c.self.inside.sought) (key_room c.set.new.self) c.set.ensures.keeps c.self.invariant

pub returns-then-not-set : goal.returns-then-not-set
returns-then-not-set c =
    let owner = c.in-Some.owner.now in
    let es = c.self.inside.counts.entries in
    let none : get c.args.self.now owner ≡ None =
    ap (λ (k : PrefixCounts). get k owner) (sym c.self.view_is) ∙ sym (get-counts_of es owner c.self.invariant.ordered)
    ∙ none_long (key_room c.self.inside.sought) owner es c.self.invariant.fits (λ fits. false≢true (sym c.if-not-set.true ∙ c.set.ensures.room.1 fits)) in
    subst (λ (k : PrefixCounts). CountsLess c.args.key.now c.args.self.now k) (sym c.self.view_is) (counts_none_less c.args.key.now c.args.self.now owner (sym c.in-Some.ensures) none)

pub invariant_of-self-in_default-get_mut : goal.invariant_of-self-in_default-get_mut
invariant_of-self-in_default-get_mut c =
    subst (λ (m : BTreeMap EntryKey ℕ). AreKeyed m (key_room c.set.new.self)) (sym c.get_mut.follows.holds-at-none)
    (keyed_more c.self.inside.counts (key_room c.self.inside.sought) (key_room c.set.new.self) c.set.ensures.keeps c.self.invariant)

pub returns-in_default-get_mut : goal.returns-in_default-get_mut
returns-in_default-get_mut c =
    let owner = c.in-Some.owner.now in
    let none : get c.args.self.now owner ≡ None =
    ap (λ (k : PrefixCounts). get k owner) (sym c.self.view_is) ∙ ap (get (counts_of c.self.inside.counts.entries)) (sym (c.set.ensures.bytes c.if-not-set.false))
    ∙ sym (c.in_default-get_mut.ensures.value ∙ get-counts_of c.self.inside.counts.entries (key_bytes c.set.new.self) c.self.invariant.ordered) in
    let same : counts_of c.get_mut.follows.lender-at-none.entries ≡ c.args.self.now = ap (λ (m : BTreeMap EntryKey ℕ). counts_of m.entries) c.get_mut.follows.holds-at-none ∙ c.self.view_is in
    subst (λ (k : PrefixCounts). CountsLess c.args.key.now c.args.self.now k) (sym same) (counts_none_less c.args.key.now c.args.self.now owner (sym c.in-Some.ensures) none)

pub invariant_of-self-2 : goal.invariant_of-self-2
invariant_of-self-2 c =
    let left = c.saturating_sub.result in
    let written = c.get_mut.follows.holds left in
    keyed_set_value c.self.inside.counts (key_room c.self.inside.sought) (key_room c.set.new.self) c.set.ensures.keeps c.self.invariant (c.get_mut.follows.lender left) _ left written.4 written.0

pub returns : goal.returns
returns c =
    let old = c.self.inside.counts.entries in
    let owner = c.in-Some.owner.now in
    let bytes = c.set.ensures.bytes c.if-not-set.false in
    let left = c.saturating_sub.result in
    let found = sym (c.in-Some-get_mut.ensures.value ∙ get-counts_of old (key_bytes c.set.new.self) c.self.invariant.ordered) in
    let is = ap (get (counts_of old)) (sym bytes) ∙ found in
    let written = c.get_mut.follows.holds left in
    let new = counts_of-set_value old (c.get_mut.follows.lender left).entries (key_bytes c.set.new.self) left c.self.invariant.ordered written.4 (ap (λ (o : Option ℕ). is_some o) found) written.0
    ∙ ap (λ (k : List ℕ). insert (counts_of old) k left) bytes in
    let less = c.saturating_sub.ensures ∙ ap (λ (o : Option ℕ). unwrap_or o 0 - 1) (sym is) in
    counts_less c.args.key.now c.args.self.now owner (sym c.in-Some.ensures) _ (new ∙ ap (insert (counts_of old) owner) less ∙ ap (λ (k : PrefixCounts). insert k owner (prefix_count owner k - 1)) c.self.view_is)
