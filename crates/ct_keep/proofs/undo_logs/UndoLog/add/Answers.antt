use Rattle.std.proofs.Common.{◌++◌, ◌∷◌, [], List, ℕ, sym, ap, subst, ◌∙◌}
use Rattle.ct_keep.specs.Content.{Content}
use Rattle.ct_keep.specs.Undoing.{with_values, without_keys, HaveEntries, replaced_last}
use Rattle.ct_keep.proofs.Undone.{added_back, unadded_back, added_has}
use Rattle.ct_keep.proofs.undo_logs.UndoLog.add.Goals as goal

pub returns-clause-undone : goal.returns-clause-undone
returns-clause-undone c =
    let more = c.in_ok-push.ensures.ok ∙ ap (λ (k : List ℕ). c.args.self.now.added ++ k ∷ []) c.deref.ensures.value in
    ap (λ (m : Content). without_keys c.push.new.self (with_values (replaced_last c.args.self.now.replaced.items) m)) c.in_ok-add.ensures.ok
    ∙ added_back c.args.held.now c.args.self.now.replaced.items c.args.self.now.added c.push.new.self c.args.key.items c.args.value.items c.requires.noted c.requires.absent more

pub returns-in_err-add-clause-undone : goal.returns-in_err-add-clause-undone
returns-in_err-add-clause-undone c =
    ap (λ (m : Content). without_keys c.push.new.self (with_values (replaced_last c.args.self.now.replaced.items) m)) c.in_err-add.ensures.err
    ∙ unadded_back c.args.held.now c.args.self.now.replaced.items c.args.self.now.added c.push.new.self c.args.key.items c.args.value.items c.requires.noted c.requires.absent
    (c.in_ok-push.ensures.ok ∙ ap (λ (k : List ℕ). c.args.self.now.added ++ k ∷ []) c.deref.ensures.value)

pub returns-clause-noted : goal.returns-clause-noted
returns-clause-noted c =
    subst (HaveEntries (replaced_last c.args.self.now.replaced.items)) (sym c.in_ok-add.ensures.ok)
    (added_has c.args.held.now c.args.self.now.replaced.items c.args.self.now.added c.push.new.self c.args.key.items c.args.value.items c.requires.noted c.requires.absent (c.in_ok-push.ensures.ok ∙ ap (λ (k : List ℕ). c.args.self.now.added ++ k ∷ []) c.deref.ensures.value))
