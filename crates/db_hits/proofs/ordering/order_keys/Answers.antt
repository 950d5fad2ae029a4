use Rattle.db_hits.proofs.OrderLaws.{all_keys, no_key, one_key}
use Rattle.db_hits.proofs.ordering.order_keys.Goals as goal

pub loop-key-init : goal.loop-key-init
loop-key-init c = no_key c.args.names.now c.args.keys.now c.new-found.result.items c.new-found.ensures.items

pub loop-key-preserved : goal.loop-key-preserved
loop-key-preserved c =
    one_key c.args.names.now c.args.keys.now c.loop-key.key-index c.key-item.result c.key_by.result c.loop-key.found.items c.push_key.new.keys.items
    c.loop-key-test.true c.key-item.is c.key_by.ensures c.in_ok-push_key.ensures c.loop-key.invariant

pub returns : goal.returns
returns c = all_keys c.args.names.now c.args.keys.now c.loop-key.key-index c.loop-key.found.items c.loop-key-test.false c.loop-key.invariant
