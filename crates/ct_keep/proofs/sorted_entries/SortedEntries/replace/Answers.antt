use Rattle.std.proofs.Common.{◌≡◌, ℕ, List, Option, Some, None, Vec, sym, ap, subst, ◌∙◌}
use Rattle.std.proofs.lemmas.Bool.{false≢true}
use Rattle.std.specs.Prelude.{is_some}
use Rattle.std.specs.Option.{option_map}
use Rattle.std.specs.declared.alloc.Global.{Global}
use Rattle.std.specs.FinMap.{get, insert}
use Rattle.ct_keep.specs.Content.{Content}
use Rattle.ct_keep.specs.EntryKeys.{key_bytes, key_room}
use Rattle.ct_keep.specs.Pairs.{content_of}
use Rattle.ct_keep.specs.laws.EntryKeys.{keyed_set_value, none_long}
use Rattle.ct_keep.specs.laws.Pairs.{get-lookup, content_of-set_value}
use Rattle.ct_keep.specs.Counting.{AreCounts}
use Rattle.ct_keep.specs.laws.Counting.{counts_replaced}
use Rattle.ct_keep.proofs.sorted_entries.SortedEntries.replace.Goals as goal
use Rattle.ct_keep.proofs.sorted_entries.SortedEntries.replace.Goals.{In-Some}

bytes : (c : In-Some) → key_bytes c.set.new.self ≡ c.args.key.now
bytes c = c.set.ensures.bytes c.if-not-set.false

there : (c : In-Some) → get (content_of c.self.inside.entries.entries) (key_bytes c.set.new.self) ≡ Some c.in-Some.place.now.items
there c = sym (ap (λ (o : Option (Vec ℕ Global)). option_map (λ v. v.items) o) c.in-Some.ensures.value ∙ get-lookup c.self.inside.entries.entries (key_bytes c.set.new.self) c.self.invariant.keyed.ordered)

was : (c : In-Some) → get (content_of c.self.inside.entries.entries) c.args.key.now ≡ Some c.in-Some.place.now.items
was c = ap (get (content_of c.self.inside.entries.entries)) (sym (bytes c)) ∙ there c

-- the content with the last value that was written through the reference
content_is : (c : In-Some) (value : Vec ℕ Global) → content_of (c.get_mut.follows.lender value).entries ≡ insert (content_of c.self.inside.entries.entries) c.args.key.now value.items
content_is c value =
    let written = c.get_mut.follows.holds value in
    content_of-set_value c.self.inside.entries.entries (c.get_mut.follows.lender value).entries (key_bytes c.set.new.self) value c.self.invariant.keyed.ordered written.4 (ap (λ (o : Option (List ℕ)). is_some o) (there c)) written.0
    ∙ ap (λ (k : List ℕ). insert (content_of c.self.inside.entries.entries) k value.items) (bytes c)

pub unreachable-requires : goal.unreachable-requires
unreachable-requires c =
    let es = c.self.inside.entries.entries in
    let none : get c.args.self.now c.args.key.now ≡ None =
    ap (λ (m : Content). get m c.args.key.now) (sym c.self.view_is) ∙ sym (get-lookup es c.args.key.now c.self.invariant.keyed.ordered)
    ∙ ap (λ (o : Option (Vec ℕ Global)). option_map (λ v. v.items) o) (none_long (key_room c.self.inside.sought) c.args.key.now es c.self.invariant.keyed.fits (λ fits. false≢true (sym c.if-not-set.true ∙ c.set.ensures.room.1 fits))) in
    false≢true (ap (λ (o : Option (List ℕ)). is_some o) (sym none) ∙ c.requires)

pub unreachable-requires-in_default : goal.unreachable-requires-in_default
unreachable-requires-in_default c =
    let es = c.self.inside.entries.entries in
    let none : get c.args.self.now c.args.key.now ≡ None =
    ap (λ (m : Content). get m c.args.key.now) (sym c.self.view_is) ∙ ap (get (content_of es)) (sym (c.set.ensures.bytes c.if-not-set.false))
    ∙ sym (ap (λ (o : Option (Vec ℕ Global)). option_map (λ v. v.items) o) c.in_default.ensures.value ∙ get-lookup es (key_bytes c.set.new.self) c.self.invariant.keyed.ordered) in
    false≢true (ap (λ (o : Option (List ℕ)). is_some o) (sym none) ∙ c.requires)

pub invariant_of-self : goal.invariant_of-self
invariant_of-self c =
    let value = c.replace.new.dest in
    let d = (goal.at.invariant_of-self c).In-Some in
    let old = content_of c.self.inside.entries.entries in
    record {
      keyed = keyed_set_value c.self.inside.entries (key_room c.self.inside.sought) (key_room c.set.new.self) c.set.ensures.keeps c.self.invariant.keyed (c.get_mut.follows.lender value) _ value (c.get_mut.follows.holds value).4 (c.get_mut.follows.holds value).0;
      counted = subst (λ (m : Content). AreCounts m c.self.inside.owner_counts) (sym (content_is d value)) (counts_replaced old c.self.inside.owner_counts c.args.key.now value.items c.in-Some.place.now.items c.self.invariant.counted (was d));
    }

pub returns-clause-content : goal.returns-clause-content
returns-clause-content c =
    content_is (goal.at.returns-clause-content c).In-Some c.replace.new.dest
    ∙ ap (λ (v : Vec ℕ Global). insert (content_of c.self.inside.entries.entries) c.args.key.now v.items) c.replace.ensures.after ∙ ap (λ (m : Content). insert m c.args.key.now c.args.value.items) c.self.view_is

pub returns-clause-before : goal.returns-clause-before
returns-clause-before c =
    ap (λ (m : Content). get m c.args.key.now) (sym c.self.view_is) ∙ was (goal.at.returns-clause-before c).In-Some ∙ ap (λ (v : Vec ℕ Global). Some v.items) (sym c.replace.ensures.value)
