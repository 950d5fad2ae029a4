use Rattle.std.proofs.Common.{rules, refl, arith, ◌≤◌, ◌+◌, ◌∙◌, ap, length, sym, subst, List, ℕ, None, Option, Vec, Global}
use Rattle.std.specs.FinMap.{get}
use Rattle.pg_batch.specs.BatchPages.{entry_pages, long_pages}
use Rattle.pg_plan.specs.FreePlaces.{NeedsPages}
use Rattle.std.specs.Option.{option_map, IfSome}
use Rattle.std.proofs.lemmas.Result.{IfOk-weaker}
use Rattle.ct_keep.specs.Content.{set_to}
use Rattle.pg_plan.specs.PlanSteps.{MakesChange}
use Rattle.pg_plan.proofs.Changing.{change_gone, key_gone}
use Rattle.pg_plan.proofs.Stepping.{gone_made, put_made, put_touches, put_needs, gone_touches, short_pages, far_entry_pages}
use Rattle.pg_plan.specs.laws.Needs.{needs_more}
use Rattle.pg_plan.specs.Planned.{KeepsSlot}
use Rattle.pg_plan.proofs.Replacing.{kept_made, kept_needs}
use Rattle.pg_plan.proofs.puts.do_change.Goals as goal

pub returns-in-Some-clause-done : goal.returns-in-Some-clause-done
returns-in-Some-clause-done c = λ m done only.
    let key = c.args.change.now.key.items in
    let value : Option (List ℕ) = option_map {T = Vec ℕ Global} {U = List ℕ} (λ v. v.items) c.args.change.now.value in
    let kept = subst (λ (o : Option (List (List ℕ))). IfSome o (λ page. KeepsSlot c.args.draft.now.now c.args.at key value page)) c.in-Some.is c.in_ok-page.ensures.some in
    kept_made c.args.draft.now.now c.put_slotted.new.draft.now m c.args.at key value c.in-Some.page done kept c.in_ok-put_slotted.ensures.now

pub returns-in-Some-clause-needs : goal.returns-in-Some-clause-needs
returns-in-Some-clause-needs c =
    let key = c.args.change.now.key.items in
    let value : Option (List ℕ) = option_map {T = Vec ℕ Global} {U = List ℕ} (λ v. v.items) c.args.change.now.value in
    let kept = subst (λ (o : Option (List (List ℕ))). IfSome o (λ page. KeepsSlot c.args.draft.now.now c.args.at key value page)) c.in-Some.is c.in_ok-page.ensures.some in
    kept_needs c.args.draft.now c.put_slotted.new.draft c.args.at key value c.in-Some.page kept c.in_ok-put_slotted.ensures.now c.put_slotted.ensures.touches

pub returns-in-None-clause-done : goal.returns-in-None-clause-done
returns-in-None-clause-done c = λ m done only.
    let key = c.args.change.now.key.items in
    let gone = change_gone c.args.draft.now.now c.remove_at.new.draft.now m c.args.at c.deref.result.now key c.in_ok-remove_at.field-0 c.deref.ensures.value only (c.in_ok-remove_at.ensures.gone m done) c.in_ok-remove_at.ensures.none in
    subst (λ (o : Option (Vec ℕ Global)). MakesChange c.args.draft.now.now c.remove_at.new.draft.now m key (option_map {T = Vec ℕ Global} {U = List ℕ} (λ v. v.items) o) c.args.at) (sym c.in-None.is)
    (gone_made c.args.draft.now.now c.remove_at.new.draft.now m key c.args.at gone c.remove_at.ensures.keys)

pub returns-in-Some-value-clause-done : goal.returns-in-Some-value-clause-done
returns-in-Some-value-clause-done c = λ m done only.
    let key = c.args.change.now.key.items in
    let gone = change_gone c.args.draft.now.now c.remove_at.new.draft.now m c.args.at c.deref.result.now key c.in_ok-remove_at.field-0 c.deref.ensures.value only (c.in_ok-remove_at.ensures.gone m done) c.in_ok-remove_at.ensures.none in
    IfOk-weaker c.put_short.result _ _
    (λ at put. subst (λ (o : Option (Vec ℕ Global)). MakesChange c.args.draft.now.now c.put_short.new.draft.now m key (option_map {T = Vec ℕ Global} {U = List ℕ} (λ v. v.items) o) at) (sym c.in-Some-value.is)
    (put_made c.args.draft.now.now c.remove_at.new.draft.now c.put_short.new.draft.now m c.deref-in-Some-value.result.now key c.deref-in-Some-value-2.result.now c.in-Some-value.value.items at c.deref-in-Some-value.ensures.value c.deref-in-Some-value-2.ensures.value c.remove_at.ensures.keys put))
    (c.put_short.ensures.put (set_to key None m) gone (key_gone m c.deref-in-Some-value.result.now key c.deref-in-Some-value.ensures.value))

pub returns-in-Some-2-clause-done : goal.returns-in-Some-2-clause-done
returns-in-Some-2-clause-done c = λ m done only.
    let key = c.args.change.now.key.items in
    let gone = change_gone c.args.draft.now.now c.remove_at.new.draft.now m c.args.at c.deref.result.now key c.in_ok-remove_at.field-0 c.deref.ensures.value only (c.in_ok-remove_at.ensures.gone m done) c.in_ok-remove_at.ensures.none in
    IfOk-weaker c.put_far.result _ _
    (λ at put. subst (λ (o : Option (Vec ℕ Global)). MakesChange c.args.draft.now.now c.put_far.new.draft.now m key (option_map {T = Vec ℕ Global} {U = List ℕ} (λ v. v.items) o) at) (sym c.in-Some-2.is)
    (put_made c.args.draft.now.now c.remove_at.new.draft.now c.put_far.new.draft.now m c.deref-in-Some-2.result.now key c.deref-in-Some-2-2.result.now c.in-Some-2.value.items at c.deref-in-Some-2.ensures.value c.deref-in-Some-2-2.ensures.value c.remove_at.ensures.keys put))
    (c.put_far.ensures.put (set_to key None m) gone (key_gone m c.deref-in-Some-2.result.now key c.deref-in-Some-2.ensures.value))

pub returns-in_err-remove_at-clause-touches : goal.returns-in_err-remove_at-clause-touches
returns-in_err-remove_at-clause-touches c = λ m done. gone_touches c.args.draft.now c.remove_at.new.draft m c.deref.result.now c.args.change.now.key.items _ c.deref.ensures.value (c.remove_at.ensures.touches m done)

pub returns-in-None-clause-touches : goal.returns-in-None-clause-touches
returns-in-None-clause-touches c = λ m done. gone_touches c.args.draft.now c.remove_at.new.draft m c.deref.result.now c.args.change.now.key.items _ c.deref.ensures.value (c.remove_at.ensures.touches m done)

pub returns-in-Some-value-clause-touches : goal.returns-in-Some-value-clause-touches
returns-in-Some-value-clause-touches c = λ m done.
    let key = c.args.change.now.key.items in
    subst (λ (o : Option (Vec ℕ Global)). length c.put_short.new.draft.touched ≤ length c.args.draft.now.touched + (entry_pages key (get m key) + entry_pages key (option_map {T = Vec ℕ Global} {U = List ℕ} (λ v. v.items) o))) (sym c.in-Some-value.is)
    (put_touches c.args.draft.now c.remove_at.new.draft c.put_short.new.draft m c.deref.result.now key c.in-Some-value.value.items 1 c.deref.ensures.value (c.remove_at.ensures.touches m done) c.put_short.ensures.takes (short_pages key c.in-Some-value.value.items (search rules)))

pub returns-in-Some-2-clause-touches : goal.returns-in-Some-2-clause-touches
returns-in-Some-2-clause-touches c = λ m done.
    let key = c.args.change.now.key.items in
    subst (λ (o : Option (Vec ℕ Global)). length c.put_far.new.draft.touched ≤ length c.args.draft.now.touched + (entry_pages key (get m key) + entry_pages key (option_map {T = Vec ℕ Global} {U = List ℕ} (λ v. v.items) o))) (sym c.in-Some-2.is)
    (put_touches c.args.draft.now c.remove_at.new.draft c.put_far.new.draft m c.deref.result.now key c.in-Some-2.value.items (1 + long_pages (length c.deref-in-Some-2-2.result.now)) c.deref.ensures.value (c.remove_at.ensures.touches m done) c.put_far.ensures.takes
    (far_entry_pages key c.in-Some-2.value.items (search rules) ∙ ap (λ (l : List ℕ). 1 + long_pages (length l)) (sym c.deref-in-Some-2-2.ensures.value)))

pub returns-in_err-remove_at-clause-needs : goal.returns-in_err-remove_at-clause-needs
returns-in_err-remove_at-clause-needs c = needs_more c.args.draft.now.now c.remove_at.new.draft.now 0 _ (omega arith) c.remove_at.ensures.needs

pub returns-in-None-clause-needs : goal.returns-in-None-clause-needs
returns-in-None-clause-needs c = needs_more c.args.draft.now.now c.remove_at.new.draft.now 0 _ (omega arith) c.remove_at.ensures.needs

pub returns-in-Some-value-clause-needs : goal.returns-in-Some-value-clause-needs
returns-in-Some-value-clause-needs c =
    let key = c.args.change.now.key.items in
    subst (λ (o : Option (Vec ℕ Global)). NeedsPages c.args.draft.now.now c.put_short.new.draft.now (entry_pages c.args.change.now.key.items (option_map {T = Vec ℕ Global} {U = List ℕ} (λ v. v.items) o))) (sym c.in-Some-value.is)
    (put_needs c.args.draft.now.now c.remove_at.new.draft.now c.remove_at.new.draft c.put_short.new.draft key c.in-Some-value.value.items 1 c.remove_at.ensures.needs refl c.put_short.ensures.takes (short_pages key c.in-Some-value.value.items (search rules)))

pub returns-in-Some-2-clause-needs : goal.returns-in-Some-2-clause-needs
returns-in-Some-2-clause-needs c =
    let key = c.args.change.now.key.items in
    subst (λ (o : Option (Vec ℕ Global)). NeedsPages c.args.draft.now.now c.put_far.new.draft.now (entry_pages c.args.change.now.key.items (option_map {T = Vec ℕ Global} {U = List ℕ} (λ v. v.items) o))) (sym c.in-Some-2.is)
    (put_needs c.args.draft.now.now c.remove_at.new.draft.now c.remove_at.new.draft c.put_far.new.draft key c.in-Some-2.value.items (1 + long_pages (length c.deref-in-Some-2-2.result.now)) c.remove_at.ensures.needs refl c.put_far.ensures.takes
    (far_entry_pages key c.in-Some-2.value.items (search rules) ∙ ap (λ (l : List ℕ). 1 + long_pages (length l)) (sym c.deref-in-Some-2-2.ensures.value)))
