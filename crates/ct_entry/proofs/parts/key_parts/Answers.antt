use Rattle.std.proofs.Common.{sym, ◌∙◌}
use Rattle.ct_entry.proofs.KeySteps.{key_spelt, not_named}
use Rattle.ct_entry.proofs.parts.key_parts.Goals as goal

pub returns-in-None : goal.returns-in-None
returns-in-None c =
    not_named c.in-Some-split_at_checked.owner.now c.in-Some-split_at_checked.part.now c.in-Some.kind c.args.bytes.now
    (key_spelt c.args.bytes.now c.in-Some-split_at_checked.owner.now c.in-Some-split_at_checked.part.now c.in-Some.kind c.from.result c.in-len2-up.len_at_least c.in-Some.ensures c.from.ensures c.in-Some-split_at_checked.ensures.cases)
    (sym c.in_ok-_name.ensures ∙ c.in-None.is)
