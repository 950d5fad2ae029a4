use Rattle.std.proofs.Common.{◌≡◌, Some, Option, Vec, ℕ, List, sym, ap, subst, ◌∙◌}
use Rattle.std.proofs.lemmas.Bool.{false≢true}
use Rattle.std.specs.Option.{option_map}
use Rattle.std.specs.declared.alloc.Global.{Global}
use Rattle.std.specs.FinMap.{get, remove}
use Rattle.ct_keep.specs.Content.{Content}
use Rattle.ct_keep.specs.EntryKeys.{key_bytes, key_room}
use Rattle.ct_keep.specs.Pairs.{content_of, HeldEntry}
use Rattle.ct_keep.specs.laws.EntryKeys.{keyed_more, keyed_same, keyed_remove, none_long, kept_long}
use Rattle.ct_keep.specs.laws.Pairs.{content_of-remove, get-lookup}
use Rattle.ct_keep.specs.Counting.{AreCounts}
use Rattle.ct_keep.specs.laws.Counting.{counts_taken}
use Rattle.ct_keep.proofs.sorted_entries.SortedEntries.take.Goals as goal
use Rattle.ct_keep.proofs.sorted_entries.SortedEntries.take.Goals.{After-remove}

bytes : (c : After-remove) → key_bytes c.set.new.self ≡ c.args.key.now
bytes c = c.set.ensures.bytes c.if-not-set.false

content_is : (c : After-remove) → content_of c.remove.new.self.entries ≡ remove (content_of c.self.inside.entries.entries) c.args.key.now
content_is c =
    content_of-remove c.self.inside.entries.entries c.remove.new.self.entries (key_bytes c.set.new.self) c.self.invariant.keyed.ordered c.remove.ensures.ordered c.remove.ensures.entries
    ∙ ap (remove (content_of c.self.inside.entries.entries)) (bytes c)

found : (c : After-remove) → option_map (λ v. v.items) c.remove.result ≡ get (content_of c.self.inside.entries.entries) c.args.key.now
found c =
    ap (λ (o : Option (Vec ℕ Global)). option_map (λ v. v.items) o) c.remove.ensures.value
    ∙ get-lookup c.self.inside.entries.entries (key_bytes c.set.new.self) c.self.invariant.keyed.ordered ∙ ap (get (content_of c.self.inside.entries.entries)) (bytes c)

pub invariant_of-self : goal.invariant_of-self
invariant_of-self c = record {
  keyed = keyed_more c.self.inside.entries (key_room c.self.inside.sought) (key_room c.set.new.self) c.set.ensures.keeps c.self.invariant.keyed;
  counted = c.self.invariant.counted;
}

pub returns-then-not-set-clause-content : goal.returns-then-not-set-clause-content
returns-then-not-set-clause-content c =
    let es = c.self.inside.entries.entries in
    content_of-remove es es c.args.key.now c.self.invariant.keyed.ordered c.self.invariant.keyed.ordered (kept_long (key_room c.self.inside.sought) c.args.key.now es c.self.invariant.keyed.fits (λ fits. false≢true (sym c.if-not-set.true ∙ c.set.ensures.room.1 fits)))
    ∙ ap (λ (m : Content). remove m c.args.key.now) c.self.view_is

pub returns-then-not-set-clause-value : goal.returns-then-not-set-clause-value
returns-then-not-set-clause-value c =
    let es = c.self.inside.entries.entries in
    ap (λ (o : Option (Vec ℕ Global)). option_map (λ v. v.items) o) (sym (none_long (key_room c.self.inside.sought) c.args.key.now es c.self.invariant.keyed.fits (λ fits. false≢true (sym c.if-not-set.true ∙ c.set.ensures.room.1 fits))))
    ∙ get-lookup es c.args.key.now c.self.invariant.keyed.ordered ∙ ap (λ (m : Content). get m c.args.key.now) c.self.view_is

pub invariant_of-self-in_err-value : goal.invariant_of-self-in_err-value
invariant_of-self-in_err-value c =
    let es = c.self.inside.entries.entries in
    let same : c.remove.new.self.entries ≡ es = c.in_err-value.ensures.unchanged in
    record {
      keyed = keyed_same c.self.inside.entries (key_room c.self.inside.sought) (key_room c.set.new.self) c.set.ensures.keeps c.self.invariant.keyed c.remove.new.self c.remove.ensures.ordered same;
      counted = subst (λ (l : List HeldEntry). AreCounts (content_of l) c.self.inside.owner_counts) (sym same) c.self.invariant.counted;
    }

pub returns-in_err-value-clause-content : goal.returns-in_err-value-clause-content
returns-in_err-value-clause-content c = content_is (goal.at.returns-in_err-value-clause-content c).After-remove ∙ ap (λ (m : Content). remove m c.args.key.now) c.self.view_is

pub returns-in_err-value-clause-value : goal.returns-in_err-value-clause-value
returns-in_err-value-clause-value c =
    ap (λ (o : Option (Vec ℕ Global)). option_map (λ v. v.items) o) (c.from_residual.ensures ∙ sym c.in_err-value.was)
    ∙ found (goal.at.returns-in_err-value-clause-value c).After-remove ∙ ap (λ (m : Content). get m c.args.key.now) c.self.view_is

pub invariant_of-self-2 : goal.invariant_of-self-2
invariant_of-self-2 c =
    let d = (goal.at.invariant_of-self-2 c).After-remove in
    let old = content_of c.self.inside.entries.entries in
    record {
      keyed = keyed_remove c.self.inside.entries (key_room c.self.inside.sought) (key_room c.set.new.self) c.set.ensures.keeps c.self.invariant.keyed c.remove.new.self _ c.remove.ensures.ordered c.remove.ensures.entries;
      counted =
          let there : get old c.args.key.now ≡ Some c.in_ok-value.value.items = sym (ap (λ (o : Option (Vec ℕ Global)). option_map (λ v. v.items) o) (sym c.in_ok-value.was) ∙ found d) in
          subst (λ (m : Content). AreCounts m c.remove-2.new.self) (sym (content_is d)) (counts_taken old c.self.inside.owner_counts c.remove-2.new.self c.args.key.now c.in_ok-value.value.items c.self.invariant.counted there c.remove-2.ensures);
    }

pub returns-clause-content : goal.returns-clause-content
returns-clause-content c = content_is (goal.at.returns-clause-content c).After-remove ∙ ap (λ (m : Content). remove m c.args.key.now) c.self.view_is

pub returns-clause-value : goal.returns-clause-value
returns-clause-value c =
    ap (λ (o : Option (Vec ℕ Global)). option_map (λ v. v.items) o) (sym c.in_ok-value.was)
    ∙ found (goal.at.returns-clause-value c).After-remove ∙ ap (λ (m : Content). get m c.args.key.now) c.self.view_is
