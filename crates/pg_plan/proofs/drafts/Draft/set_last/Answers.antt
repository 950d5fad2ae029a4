use Rattle.std.specs.List.{Contains}
use Rattle.std.proofs.Common.{inr, ℕ, List, refl, ap, set, subst}
use Rattle.pg_window.specs.Sheets.{sheet_kind, is_away}
use Rattle.pg_plan.specs.Drafts.{Drafted}
use Rattle.pg_plan.specs.DraftFields.{draft_of}
use Rattle.pg_plan.specs.laws.Away.{stays_set}
use Rattle.pg_plan.proofs.Drafting.{again_view, sees_none}
use Rattle.pg_plan.proofs.drafts.Draft.set_last.Goals as goal

pub returns-clause-is : goal.returns-clause-is
returns-clause-is c = again_view c.self.inside.sheets.items _ c.self.inside.notes.items c.self.inside.before c.args.at c.args.sheet c.args.self.now c.self.view_is refl c.requires.last

pub returns-clause-stays : goal.returns-clause-stays
returns-clause-stays c = λ here shown.
    let new = again_view c.self.inside.sheets.items _ c.self.inside.notes.items c.self.inside.before c.args.at c.args.sheet c.args.self.now c.self.view_is refl c.requires.last in
    let sees = sees_none c.self.inside.sheets.items c.self.inside.notes.items c.self.inside.before c.args.self.now c.self.view_is in
    stays_set c.args.self.now (draft_of (set c.self.inside.sheets.items c.args.at c.args.sheet) c.self.inside.notes.items c.self.inside.before) c.args.at (sheet_kind c.args.sheet) (is_away c.args.sheet) sees here shown (ap (λ (d : Drafted). d.now) new) (ap (λ (d : Drafted). d.away) new)
    (λ i has. inr (subst (λ (l : List ℕ). Contains l i) (ap (λ (d : Drafted). d.touched) new) has))
