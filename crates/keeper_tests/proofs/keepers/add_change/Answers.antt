use Rattle.std.proofs.Common.{List, [], ◌∷◌, Some, None, rules}
use Rattle.std.proofs.lemmas.Result.{on_ok_weaker}
use Rattle.ct_keep.specs.Content.{Change, IsEntry}
use Rattle.ct_keep.specs.Changes.{AnyEntry, AreWell}
use Rattle.keeper_tests.proofs.WellChanges.{well_more}
use Rattle.keeper_tests.proofs.keepers.add_change.Goals as goal

abbrev AllWell : List Change → Type 0
AllWell ws = AreWell AnyEntry ws

pub returns-in_default : goal.returns-in_default
returns-in_default c = λ before.
    let more = well_more AnyEntry c.args.batch.now ((c.in_ok-key.key.items, None) ∷ []) before tt in
    on_ok_weaker c.remove.result (λ is. rw is more) c.remove.ensures.ok

pub returns : goal.returns
returns c = λ before.
    let key = c.in_ok-key.key in
    let value = c.in_ok-from_elem.field-0 in
    let entry : IsEntry key.items value.items = record { some = search rules; short = search rules; bounded = search rules } in
    let more = well_more AnyEntry c.args.batch.now ((key.items, Some value.items) ∷ []) before (entry, tt, tt) in
    on_ok_weaker c.put.result (λ is. rw is more) c.put.ensures.ok
