use Rattle.std.proofs.Common.{ℕ, List, ap, sym, ◌∙◌}
use Rattle.q_reduce.proofs.KeysInOrder.{put_all, put_last, put_all_is}
use Rattle.q_reduce.proofs.keys.in_order.Goals as goal

pub loop-key-init : goal.loop-key-init
loop-key-init c = ap (put_all c.args.keys.items) c.new-sorted.ensures.items ∙ put_all_is c.args.keys.items

pub loop-key-preserved : goal.loop-key-preserved
loop-key-preserved c =
    let rest = c.pop.new.self.items in
    let sorted = c.loop-key.sorted.items in
    ap (put_all rest) c.in_ok-put_key.ensures ∙ sym (put_last rest c.in-Some.key sorted)
    ∙ sym (ap (λ (keys : List (List ℕ)). put_all keys sorted) c.in-Some.ensures.items) ∙ c.loop-key.invariant
