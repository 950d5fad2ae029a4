use Rattle.std.proofs.Common.{rules, arith, ap, ◌∙◌, ◌≡◌, ◌++◌, ◌∷◌, [], List, None, length}
use Rattle.pg_plan.specs.declared.drafts.Note.{Note}
use Rattle.pg_window.specs.declared.sheets.Sheet.TheVariants.{Free as FreeSheet}
use Rattle.pg_plan.specs.DraftFields.{draft_of}
use Rattle.pg_plan.specs.laws.Away.{stays_more}
use Rattle.pg_plan.proofs.Drafting.{grow_view, draft_grown, sees_none}
use Rattle.pg_plan.proofs.drafts.Draft.grow.Goals as goal

pub invariant_of-self-2 : goal.invariant_of-self-2
invariant_of-self-2 c =
    let sheets : c.push.new.self.items ≡ c.self.inside.sheets.items ++ FreeSheet ∷ [] = search rules in
    let at : c.len-at.result ≡ length c.self.inside.sheets.items = omega (arith, c.len-at.ensures) in
    let notes = c.in-Ok.ensures.items ∙ ap (λ (l : List Note). l ++ record { at = c.len-at.result; old = None } ∷ []) c.reserve.ensures.items in
    draft_grown c.self.inside.sheets.items c.push.new.self.items c.self.inside.notes.items c.push-2.new.self.items c.self.inside.before c.len-at.result c.self.invariant sheets at notes

pub returns-clause-ok : goal.returns-clause-ok
returns-clause-ok c =
    let sheets : c.push.new.self.items ≡ c.self.inside.sheets.items ++ FreeSheet ∷ [] = search rules in
    let at : c.len-at.result ≡ length c.self.inside.sheets.items = omega (arith, c.len-at.ensures) in
    let notes = c.in-Ok.ensures.items ∙ ap (λ (l : List Note). l ++ record { at = c.len-at.result; old = None } ∷ []) c.reserve.ensures.items in
    grow_view c.self.inside.sheets.items c.push.new.self.items c.self.inside.notes.items c.push-2.new.self.items c.self.inside.before c.len-at.result c.args.self.now c.self.invariant c.self.view_is sheets at notes

pub returns-clause-stays : goal.returns-clause-stays
returns-clause-stays c =
    let sheets : c.push.new.self.items ≡ c.self.inside.sheets.items ++ FreeSheet ∷ [] = search rules in
    let at : c.len-at.result ≡ length c.self.inside.sheets.items = omega (arith, c.len-at.ensures) in
    let notes = c.in-Ok.ensures.items ∙ ap (λ (l : List Note). l ++ record { at = c.len-at.result; old = None } ∷ []) c.reserve.ensures.items in
    stays_more c.args.self.now (draft_of c.push.new.self.items c.push-2.new.self.items c.self.inside.before) (sees_none c.self.inside.sheets.items c.self.inside.notes.items c.self.inside.before c.args.self.now c.self.view_is)
    (grow_view c.self.inside.sheets.items c.push.new.self.items c.self.inside.notes.items c.push-2.new.self.items c.self.inside.before c.len-at.result c.args.self.now c.self.invariant c.self.view_is sheets at notes)
