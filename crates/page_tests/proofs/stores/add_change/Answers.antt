use Rattle.std.proofs.Common.{Some, None, rules}
use Rattle.std.proofs.lemmas.Result.{on_ok_weaker}
use Rattle.ct_keep.specs.Content.{IsEntry}
use Rattle.page_tests.proofs.WellChanges.{one_more}
use Rattle.page_tests.proofs.stores.add_change.Goals as goal

pub returns-in_default : goal.returns-in_default
returns-in_default c = λ before. on_ok_weaker c.remove.result (λ is. one_more c.args.batch.now _ (c.in_ok-key.key.items, None) tt before is) c.remove.ensures.ok

pub returns : goal.returns
returns c = λ before.
    let key = c.in_ok-key.key.items in
    let value = c.in_ok-from_elem.field-0.items in
    let entry : IsEntry key value = record { some = search rules; short = search rules; bounded = search rules } in
    on_ok_weaker c.put.result (λ is. one_more c.args.batch.now _ (key, Some value) (entry, tt, tt) before is) c.put.ensures.ok
