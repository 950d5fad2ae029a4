use Rattle.std.proofs.Common.{◌≡◌, ◌≤◌, ℕ, List, None, length, sym, ap, subst, ◌∙◌, arith, rules}
use Rattle.std.proofs.lemmas.List.{length-map}
use Rattle.std.specs.FinMap.{get, insert}
use Rattle.ct_keep.specs.Content.{Content}
use Rattle.ct_keep.specs.EntryKeys.{key_bytes, key_room}
use Rattle.ct_keep.specs.Pairs.{content_of}
use Rattle.ct_keep.specs.laws.EntryKeys.{keyed_more, keyed_same, keyed_insert}
use Rattle.ct_keep.specs.laws.Pairs.{entries-content_of, content_of-insert}
use Rattle.ct_keep.specs.Counting.{AreCounts, CountsMore}
use Rattle.ct_keep.specs.laws.Counting.{prefix_count-le, counts_added}
use Rattle.ct_keep.proofs.sorted_entries.SortedEntries.add.Goals as goal
use Rattle.ct_keep.proofs.sorted_entries.SortedEntries.add.Goals.{In-Ok}

pub invariant_of-self : goal.invariant_of-self
invariant_of-self c = record {
  keyed = keyed_more c.self.inside.entries (key_room c.self.inside.sought) (key_room c.make_room.new.self) c.make_room.ensures.keeps c.self.invariant.keyed;
  counted = c.self.invariant.counted;
}

pub add-requires : goal.add-requires
add-requires c = λ p is.
    let es = c.self.inside.entries.entries in
    let most = prefix_count-le (content_of es) c.self.inside.owner_counts p c.deref-2.result.now c.self.invariant.counted is in
    let all = ap (λ (l : List (List ℕ × List ℕ)). length l) (entries-content_of es c.self.invariant.keyed.ordered) ∙ length-map {B = List ℕ × List ℕ} es (λ e. (key_bytes e.0, e.1.items)) in
    omega (arith, most, all, c.len-number.ensures.len, c.len-number.ensures.small)

pub invariant_of-self-in_err-add : goal.invariant_of-self-in_err-add
invariant_of-self-in_err-add c = record {
  keyed = keyed_more c.self.inside.entries (key_room c.self.inside.sought) (key_room c.make_room.new.self) c.make_room.ensures.keeps c.self.invariant.keyed;
  counted = subst (AreCounts (content_of c.self.inside.entries.entries)) (sym c.in_err-add.ensures.err) c.self.invariant.counted;
}

pub invariant_of-self-in-Err : goal.invariant_of-self-in-Err
invariant_of-self-in-Err c =
    record {
      keyed = keyed_same c.self.inside.entries (key_room c.self.inside.sought) (key_room c.make_room.new.self) c.make_room.ensures.keeps c.self.invariant.keyed c.insert.new.self c.in-Err.ensures.ordered c.in-Err.ensures.err;
      counted = search rules;
    }

content_is : (c : In-Ok) → content_of c.insert.new.self.entries ≡ insert (content_of c.self.inside.entries.entries) c.args.key.items c.args.value.items
content_is c =
    content_of-insert c.self.inside.entries.entries c.insert.new.self.entries c.of.result c.args.value c.self.invariant.keyed.ordered c.in-Ok.ensures.ordered c.in-Ok.ensures.entries
    ∙ ap (λ (k : List ℕ). insert (content_of c.self.inside.entries.entries) k c.args.value.items) c.of.ensures

pub invariant_of-self-in-Ok : goal.invariant_of-self-in-Ok
invariant_of-self-in-Ok c =
    let es = c.self.inside.entries.entries in
    let room = key_room c.make_room.new.self in
    record {
      keyed =
          let one : length (key_bytes c.of.result) ≤ room = subst (λ (l : List ℕ). length l ≤ room) (c.deref.ensures.value ∙ sym c.of.ensures) c.in_ok-make_room.ensures.ok in
          keyed_insert c.self.inside.entries (key_room c.self.inside.sought) (key_room c.make_room.new.self) c.make_room.ensures.keeps c.self.invariant.keyed c.insert.new.self c.of.result c.args.value c.in-Ok.ensures.ordered c.in-Ok.ensures.entries one;
      counted =
          let old = content_of es in
          let absent : get old c.args.key.items ≡ None = ap (λ (m : Content). get m c.args.key.items) c.self.view_is ∙ c.requires in
          let more = subst (λ (k : List ℕ). CountsMore k c.self.inside.owner_counts c.add.new.self) c.deref-2.ensures.value c.in_ok-add.ensures.ok in
          subst (λ (m : Content). AreCounts m c.add.new.self) (sym (content_is (goal.at.invariant_of-self-in-Ok c).In-Ok)) (counts_added old c.self.inside.owner_counts c.add.new.self c.args.key.items c.args.value.items c.self.invariant.counted absent more);
    }

pub returns-in-Ok-clause-ok : goal.returns-in-Ok-clause-ok
returns-in-Ok-clause-ok c = content_is (goal.at.returns-in-Ok-clause-ok c).In-Ok ∙ ap (λ (m : Content). insert m c.args.key.items c.args.value.items) c.self.view_is
