use Rattle.std.proofs.Common.{◌≡◌, true, false, Option, Some, None, List, ℕ, sym, ap, ◌∙◌}
use Rattle.std.specs.Prelude.{is_some}
use Rattle.std.specs.FinMap.{get}
use Rattle.ct_keep.specs.Content.{entry_weight, value_weight}
use Rattle.ct_keep.specs.Transactions.{TransactionState}
use Rattle.ct_keep.proofs.SortedPairs.{is_some_lent}
use Rattle.ct_keep.proofs.Courses.{get-staying_gone, get-staying_held}
use Rattle.ct_keep.proofs.transactions.Transaction.weight_at.Goals as goal

pub returns-then-is_some : goal.returns-then-is_some
returns-then-is_some c =
    let key = c.args.key.now in
    let gone : is_some (get c.self.inside.gone key) ≡ true = ap (λ (o : Option (List ℕ)). is_some o) (sym c.value_at.ensures) ∙ is_some_lent c.value_at.result ∙ sym c.if-is_some.ensures in
    let none : get c.args.self.now.seen key ≡ None = ap (λ (x : TransactionState). get x.seen key) (sym c.self.view_is) ∙ get-staying_gone c.self.inside.held c.self.inside.gone key gone in
    sym (ap (value_weight key) none)

pub returns-in-Some : goal.returns-in-Some
returns-in-Some c =
    let key = c.args.key.now in
    let stays : is_some (get c.self.inside.gone key) ≡ false = ap (λ (o : Option (List ℕ)). is_some o) (sym c.value_at.ensures) ∙ is_some_lent c.value_at.result ∙ sym c.if-is_some.ensures in
    let some : get c.args.self.now.seen key ≡ Some c.in-Some.value.now.items =
    ap (λ (x : TransactionState). get x.seen key) (sym c.self.view_is) ∙ get-staying_held c.self.inside.held c.self.inside.gone key stays ∙ sym c.in-Some.ensures in
    c.entry_weight.ensures ∙ ap (λ (v : List ℕ). entry_weight (key, v)) c.deref.ensures.value ∙ sym (ap (value_weight key) some)

pub returns-in-None : goal.returns-in-None
returns-in-None c =
    let key = c.args.key.now in
    let stays : is_some (get c.self.inside.gone key) ≡ false = ap (λ (o : Option (List ℕ)). is_some o) (sym c.value_at.ensures) ∙ is_some_lent c.value_at.result ∙ sym c.if-is_some.ensures in
    let none : get c.args.self.now.seen key ≡ None =
    ap (λ (x : TransactionState). get x.seen key) (sym c.self.view_is) ∙ get-staying_held c.self.inside.held c.self.inside.gone key stays ∙ sym c.in-None.ensures in
    sym (ap (value_weight key) none)
