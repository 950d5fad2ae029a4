use Rattle.std.proofs.Common.{sym, ap, ◌∙◌}
use Rattle.std.specs.List.{list_any}
use Rattle.rs_result.specs.declared.rows.OrderBy.{OrderBy}
use Rattle.db_hits.specs.Rows.{same_by}
use Rattle.db_hits.proofs.OrderLaws.{key_known, key_put}
use Rattle.db_hits.proofs.ordering.push_key.Goals as goal

pub returns-then-has_by : goal.returns-then-has_by
returns-then-has_by c =
    key_known c.args.keys.now.items c.args.key (ap (list_any (λ (k : OrderBy). same_by k.by c.args.key.by)) (sym c.deref.ensures.value) ∙ sym c.has_by.ensures ∙ c.if-has_by.true)

pub returns : goal.returns
returns c = key_put c.args.keys.now.items c.push.new.self.items c.args.key c.in_ok-push.ensures.items
