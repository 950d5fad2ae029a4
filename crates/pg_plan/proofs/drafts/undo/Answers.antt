use Rattle.std.proofs.Common.{rules, arith, sym, ap, refl, ◌∙◌, ◌≡◌, [], List}
use Rattle.pg_plan.specs.declared.drafts.Note.{Note}
use Rattle.pg_plan.specs.Drafts.{undone}
use Rattle.pg_plan.proofs.Drafting.{undoes_step, undoes_within}
use Rattle.pg_plan.proofs.drafts.undo.Goals as goal

pub loop-note-init : goal.loop-note-init
loop-note-init c = record { within = c.requires; same_ = refl }

pub put_sheet-requires : goal.put_sheet-requires
put_sheet-requires c = omega (arith, undoes_within c.args.sheets.now.items c.loop-note.sheets.items c.args.notes.now.items c.loop-note.notes.items c.pop.new.self.items c.in-Some.note c.loop-note.invariant c.in-Some.ensures.items)

pub loop-note-preserved : goal.loop-note-preserved
loop-note-preserved c =
    undoes_step c.args.sheets.now.items c.loop-note.sheets.items c.put_sheet.new.sheets.items c.args.notes.now.items c.loop-note.notes.items c.pop.new.self.items c.in-Some.note c.kept_sheet.result c.loop-note.invariant c.in-Some.ensures.items c.kept_sheet.ensures c.put_sheet.ensures

pub returns : goal.returns
returns c =
    let none : c.loop-note.notes.items ≡ [] = search rules in
    ap (λ (l : List Note). undone l c.loop-note.sheets.items) (sym none) ∙ c.loop-note.invariant.same_
