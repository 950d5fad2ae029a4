use Rattle.std.proofs.Common.{List, map, ap, ◌∙◌}
use Rattle.ct_base.specs.declared.numbers.RowKey.{RowKey}
use Rattle.db_rows.specs.Walking.{met_keys}
use Rattle.db_rows.specs.declared.walking.MetRow.{MetRow}
use Rattle.db_rows.proofs.walking.keys_meeting.Goals as goal

pub returns-clause-keys : goal.returns-clause-keys
returns-clause-keys g c = λ m k x holds stands there same.
    ap (map (λ (key : RowKey). key.0)) (c.in_ok-keys.ensures ∙ ap (λ (rows : List MetRow). met_keys rows) c.deref.ensures.value)
    ∙ c.in_ok-rows.ensures.keys m k x holds stands there same
