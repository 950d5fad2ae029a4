use Rattle.std.proofs.Common.{◌≡◌, List, ℕ, arith, sym, ap, ◌∙◌}
use Rattle.std.specs.FinMap.{get, remove}
use Rattle.ct_keep.specs.Content.{weight, value_weight}
use Rattle.ct_keep.specs.Transactions.{TransactionState, staying}
use Rattle.ct_keep.proofs.ContentLaws.{value_weight-le, staying-gone}
use Rattle.ct_keep.proofs.Courses.{course_removed, no_heavier}
use Rattle.ct_keep.proofs.transactions.Transaction.remove.Goals as goal
use Rattle.ct_keep.proofs.transactions.Transaction.remove.Goals.{In_ok-put}

less_is : (c : In_ok-put) → c.weight_at-less.result ≡ value_weight c.args.key.items (get (staying c.self.inside.held c.self.inside.gone) c.args.key.items)
less_is c =
    let k = c.args.key.items in
    c.weight_at-less.ensures ∙ ap (λ (k : List ℕ). value_weight k (get c.args.self.now.seen k)) c.deref.ensures.value ∙ ap (λ (x : TransactionState). value_weight k (get x.seen k)) (sym c.self.view_is)

pub overflow_sub-self : goal.overflow_sub-self
overflow_sub-self c = omega (arith, less_is (goal.at.overflow_sub-self c).In_ok-put, value_weight-le (staying c.self.inside.held c.self.inside.gone) c.args.key.items, c.self.invariant.weighs)

pub invariant_of-self-2 : goal.invariant_of-self-2
invariant_of-self-2 c =
    course_removed c.self.inside.held c.self.inside.gone c.put.new.self c.self.inside.undo_log c.args.key.items c.new.result.items c.self.inside.total c.weight_at-less.result c.self.invariant
    c.in_ok-put.ensures.ok (less_is (goal.at.invariant_of-self-2 c).In_ok-put)

seen_is : (c : In_ok-put) → staying c.self.inside.held c.put.new.self ≡ remove c.args.self.now.seen c.args.key.items
seen_is c =
    let k = c.args.key.items in
    ap (staying c.self.inside.held) c.in_ok-put.ensures.ok ∙ staying-gone c.self.inside.held c.self.inside.gone k c.new.result.items ∙ ap (λ (x : TransactionState). remove x.seen k) c.self.view_is

pub returns-clause-seen : goal.returns-clause-seen
returns-clause-seen c = seen_is (goal.at.returns-clause-seen c).In_ok-put

pub returns-clause-heavier : goal.returns-clause-heavier
returns-clause-heavier c =
    let lighter = no_heavier c.args.self.now.seen c.args.key.items in omega (arith, ap weight (seen_is (goal.at.returns-clause-heavier c).In_ok-put), lighter)
