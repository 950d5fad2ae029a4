use Rattle.std.proofs.Common.{⊎_elim, inl, inr, ℕ, sym, ap, subst, ◌∙◌, ◌++◌, ◌∷◌, [], List}
use Rattle.std.specs.List.{Contains}
use Rattle.std.proofs.lemmas.List.Elements.{Contains-push_cases}
use Rattle.pg_window.specs.Sheets.{sheet_kind, is_away}
use Rattle.pg_plan.specs.declared.drafts.Note.{Note}
use Rattle.pg_plan.specs.Drafts.{Drafted}
use Rattle.pg_plan.specs.DraftFields.{IsDraftOf, draft_of}
use Rattle.pg_plan.specs.laws.Away.{stays_set}
use Rattle.pg_plan.proofs.Drafting.{set_view, draft_set, at_within, sees_none}
use Rattle.pg_plan.proofs.drafts.Draft.set.Goals as goal

pub exchange-old-requires : goal.exchange-old-requires
exchange-old-requires c = at_within c.self.inside.sheets.items c.self.inside.notes.items c.self.inside.before c.args.at c.args.self.now c.self.view_is c.requires

pub invariant_of-self : goal.invariant_of-self
invariant_of-self c = subst (λ (ns : List Note). IsDraftOf c.self.inside.sheets.items ns c.self.inside.before) (sym c.reserve.ensures.items) c.self.invariant

pub invariant_of-self-2 : goal.invariant_of-self-2
invariant_of-self-2 c =
    let within = at_within c.self.inside.sheets.items c.self.inside.notes.items c.self.inside.before c.args.at c.args.self.now c.self.view_is c.requires in
    let notes = c.in-Ok.ensures.items ∙ ap (λ (l : List Note). l ++ record { at = c.args.at; old = c.exchange-old.result } ∷ []) c.reserve.ensures.items in
    draft_set c.self.inside.sheets.items _ c.self.inside.notes.items c.push.new.self.items c.self.inside.before c.args.at c.exchange-old.result c.args.sheet c.self.invariant c.exchange-old.ensures.put within notes

pub returns-clause-ok : goal.returns-clause-ok
returns-clause-ok c =
    let within = at_within c.self.inside.sheets.items c.self.inside.notes.items c.self.inside.before c.args.at c.args.self.now c.self.view_is c.requires in
    let notes = c.in-Ok.ensures.items ∙ ap (λ (l : List Note). l ++ record { at = c.args.at; old = c.exchange-old.result } ∷ []) c.reserve.ensures.items in
    set_view c.self.inside.sheets.items _ c.self.inside.notes.items c.push.new.self.items c.self.inside.before c.args.at c.exchange-old.result c.args.sheet c.args.self.now c.self.view_is
    c.exchange-old.ensures.put c.exchange-old.ensures.kept within notes

pub returns-clause-stays : goal.returns-clause-stays
returns-clause-stays c = λ here shown.
    let within = at_within c.self.inside.sheets.items c.self.inside.notes.items c.self.inside.before c.args.at c.args.self.now c.self.view_is c.requires in
    let notes = c.in-Ok.ensures.items ∙ ap (λ (l : List Note). l ++ record { at = c.args.at; old = c.exchange-old.result } ∷ []) c.reserve.ensures.items in
    let new = set_view c.self.inside.sheets.items c.exchange-old.new.sheets.items c.self.inside.notes.items c.push.new.self.items c.self.inside.before c.args.at c.exchange-old.result c.args.sheet c.args.self.now c.self.view_is
    c.exchange-old.ensures.put c.exchange-old.ensures.kept within notes in
    let sees = sees_none c.self.inside.sheets.items c.self.inside.notes.items c.self.inside.before c.args.self.now c.self.view_is in
    stays_set c.args.self.now (draft_of c.exchange-old.new.sheets.items c.push.new.self.items c.self.inside.before) c.args.at (sheet_kind c.args.sheet) (is_away c.args.sheet) sees here shown (ap (λ (d : Drafted). d.now) new) (ap (λ (d : Drafted). d.away) new)
    (λ i has. ⊎_elim (λ was. inr was) (λ is. inl is) (Contains-push_cases c.args.self.now.touched c.args.at i (subst (λ (l : List ℕ). Contains l i) (ap (λ (d : Drafted). d.touched) new) has)))
