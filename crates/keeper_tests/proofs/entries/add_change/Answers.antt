use Rattle.std.proofs.Common.{ℕ, ◌≤◌, List, [], ◌∷◌, length, Some, arith, rules}
use Rattle.std.proofs.lemmas.List.{length-append}
use Rattle.std.proofs.lemmas.Result.{on_ok_weaker}
use Rattle.ct_base.specs.Names.{IsName}
use Rattle.ct_base.specs.laws.Names.{name_length}
use Rattle.ct_keep.specs.Content.{IsEntry}
use Rattle.ct_keep.specs.Changes.{AnyEntry}
use Rattle.ct_entry.specs.declared.kinds.Kind.{Kind}
use Rattle.ct_entry.specs.Keys.{key, bytes}
use Rattle.ct_entry.specs.laws.Well.{well-append}
use Rattle.keeper_tests.proofs.entries.add_change.Goals as goal

entry : (kind : Kind) (owner part value : List ℕ) → IsName owner → length part ≤ 8 → length value ≤ 1000 → IsEntry (bytes (key kind owner part)) value
entry kind owner part value is short small = let l = name_length owner is in record { some = omega arith; short = simp length-append (omega arith); bounded = omega arith }

pub returns-in_default : goal.returns-in_default
returns-in_default c = λ before.
    let more = well-append AnyEntry c.args.batch.now _ before tt in
    on_ok_weaker c.remove_entry.result (λ is. rw is more) c.remove_entry.ensures.ok

pub returns : goal.returns
returns c = λ before.
    let value = c.in_ok-value.value.items in
    let part : length c.deref-2.result.now ≤ 8 = rw c.deref-2.ensures.value c.in_ok-part.ensures in
    let small : length value ≤ 1000 = search rules in
    let is_entry = entry c.args.change.0 c.in_ok-owner.owner c.deref-2.result.now value c.in_ok-owner.ensures part small in
    let more = well-append AnyEntry c.args.batch.now ((bytes (key c.args.change.0 c.in_ok-owner.owner c.deref-2.result.now), Some value) ∷ []) before (is_entry, tt, tt) in
    on_ok_weaker c.put_entry.result (λ is. rw is more) c.put_entry.ensures.ok
