use Rattle.std.proofs.Common.{◌≡◌, List, ℕ, arith, sym, ap, ◌∙◌}
use Rattle.std.specs.FinMap.{get, insert, remove}
use Rattle.ct_keep.specs.Content.{Content, entry_weight, weight, value_weight}
use Rattle.ct_keep.specs.Transactions.{TransactionState, staying}
use Rattle.ct_keep.proofs.ContentLaws.{value_weight-le, staying-put}
use Rattle.ct_keep.proofs.Courses.{course_put, heavier_by}
use Rattle.ct_keep.proofs.transactions.Transaction.put.Goals as goal
use Rattle.ct_keep.proofs.transactions.Transaction.put.Goals.{After-take}

less_is : (c : After-take) → c.weight_at-less.result ≡ value_weight c.args.key.items (get (staying c.self.inside.held c.self.inside.gone) c.args.key.items)
less_is c =
    let k = c.args.key.items in
    c.weight_at-less.ensures ∙ ap (λ (k : List ℕ). value_weight k (get c.args.self.now.seen k)) c.deref-2.ensures.value ∙ ap (λ (x : TransactionState). value_weight k (get x.seen k)) (sym c.self.view_is)

more_is : (c : After-take) → c.entry_weight-more.result ≡ entry_weight (c.args.key.items, c.args.value.items)
more_is c = c.entry_weight-more.ensures ∙ ap (λ (k : List ℕ). entry_weight (k, c.deref-4.result.now)) c.deref-3.ensures.value ∙ ap (λ (v : List ℕ). entry_weight (c.args.key.items, v)) c.deref-4.ensures.value

gone_is : (c : After-take) → c.take.new.self ≡ remove c.self.inside.gone c.args.key.items
gone_is c = c.take.ensures.content ∙ ap (remove c.self.inside.gone) (c.deref-5.ensures.value ∙ c.in_ok-copy.ensures.items ∙ c.deref.ensures.value)

seen_is : (c : After-take) → staying c.put.new.held c.take.new.self ≡ insert c.args.self.now.seen c.args.key.items c.args.value.items
seen_is c =
    rw (c.in_ok-put.ensures.ok, gone_is c) (staying-put c.self.inside.held c.self.inside.gone c.args.key.items c.args.value.items)
    ∙ ap (λ (x : TransactionState). insert x.seen c.args.key.items c.args.value.items) c.self.view_is

pub overflow_sub-self : goal.overflow_sub-self
overflow_sub-self c = omega (arith, less_is (goal.at.overflow_sub-self c).After-take, value_weight-le (staying c.self.inside.held c.self.inside.gone) c.args.key.items, c.self.invariant.weighs)

pub invariant_of-self : goal.invariant_of-self
invariant_of-self c =
    let same = c.in_err-put.ensures.err in
    record { weighs = c.self.invariant.weighs ∙ ap (λ (m : Content). weight (staying m c.self.inside.gone)) (sym same); noted = c.put.ensures.noted }

pub invariant_of-self-2 : goal.invariant_of-self-2
invariant_of-self-2 c =
    let d = (goal.at.invariant_of-self-2 c).After-take in
    course_put c.self.inside.held c.put.new.held c.self.inside.gone c.take.new.self c.self.inside.undo_log c.put.new.self c.args.key.items c.args.value.items
    c.self.inside.total c.weight_at-less.result c.entry_weight-more.result c.self.invariant c.in_ok-put.ensures.ok (gone_is d) c.put.ensures.noted (less_is d) (more_is d)

pub returns-clause-seen : goal.returns-clause-seen
returns-clause-seen c = seen_is (goal.at.returns-clause-seen c).After-take

pub returns-clause-heavier : goal.returns-clause-heavier
returns-clause-heavier c =
    let d = (goal.at.returns-clause-heavier c).After-take in
    let lighter = heavier_by c.args.self.now.seen c.args.key.items c.args.value.items c.entry_weight-more.result (sym (more_is d)) c.entry_weight-more.type_inv in
    omega (arith, ap weight (seen_is d), lighter)
