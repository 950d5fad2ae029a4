use Rattle.std.proofs.Common.{◌≡◌, ◌++◌, ◌∷◌, [], List, ℕ, Some, refl, sym, ap, subst, ◌∙◌}
use Rattle.std.specs.FinMap.{get, insert}
use Rattle.ct_keep.specs.declared.undo_logs.OldEntry.{OldEntry}
use Rattle.ct_keep.specs.Content.{Content}
use Rattle.ct_keep.specs.Undoing.{with_values, without_keys, HaveEntries, replaced_last}
use Rattle.ct_keep.proofs.Undone.{replaced_back, replaced_has}
use Rattle.ct_keep.proofs.undo_logs.UndoLog.replace.Goals as goal
use Rattle.ct_keep.proofs.undo_logs.UndoLog.replace.Goals.{After-push_reserved}

note_of : (c : After-push_reserved) → OldEntry
note_of c = record { key = c.args.key; value = c.replace-value.result }

held_is : (c : After-push_reserved) → c.replace-value.new.self ≡ insert c.args.held.now c.args.key.items c.args.value.items
held_is c = c.replace-value.ensures.content ∙ ap (λ (k : List ℕ). insert c.args.held.now k c.args.value.items) c.deref.ensures.value

old_is : (c : After-push_reserved) → get c.args.held.now c.args.key.items ≡ Some c.replace-value.result.items
old_is c = ap (get c.args.held.now) (sym c.deref.ensures.value) ∙ c.replace-value.ensures.before

notes_are : (c : After-push_reserved) → c.push_reserved.new.self.items ≡ c.args.self.now.replaced.items ++ note_of c ∷ []
unfolding note_of
notes_are c = c.push_reserved.ensures.items ∙ ap (λ (l : List OldEntry). l ++ note_of c ∷ []) c.reserve.ensures.items

pub returns-clause-undone : goal.returns-clause-undone
unfolding note_of
returns-clause-undone c =
    let d = (goal.at.returns-clause-undone c).After-push_reserved in
    ap (λ (m : Content). without_keys c.args.self.now.added (with_values (replaced_last c.push_reserved.new.self.items) m)) (held_is d)
    ∙ ap (without_keys c.args.self.now.added) (replaced_back c.args.held.now c.args.self.now.replaced.items c.push_reserved.new.self.items (note_of d) c.args.key.items c.args.value.items (old_is d) refl (notes_are d))

pub returns-clause-noted : goal.returns-clause-noted
unfolding note_of
returns-clause-noted c =
    let d = (goal.at.returns-clause-noted c).After-push_reserved in
    subst (λ (m : Content). HaveEntries (replaced_last c.push_reserved.new.self.items) m) (sym (held_is d))
    (replaced_has c.args.held.now c.args.self.now.replaced.items c.push_reserved.new.self.items (note_of d) c.args.key.items c.args.value.items (old_is d) refl (notes_are d) c.requires.noted)
