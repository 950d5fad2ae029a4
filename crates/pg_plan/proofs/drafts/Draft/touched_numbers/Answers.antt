use Rattle.std.proofs.Common.{subst, ap, ◌∙◌, List}
use Rattle.pg_plan.specs.declared.drafts.Note.{Note}
use Rattle.pg_plan.specs.Drafts.{Drafted, touched_by}
use Rattle.pg_plan.specs.Touched.{AreTouched, numbers_at}
use Rattle.pg_plan.proofs.Numbering.{are_touched}
use Rattle.pg_plan.proofs.drafts.Draft.touched_numbers.Goals as goal

pub returns : goal.returns
returns c =
    subst (λ (d : Drafted). AreTouched d c.sort_once.new.numbers.items) c.self.view_is
    (are_touched c.self.inside.sheets.items c.self.inside.notes.items c.self.inside.before c.in_ok-numbers.numbers.items c.sort_once.new.numbers.items c.self.invariant
    (c.in_ok-numbers.ensures ∙ ap (λ (l : List Note). numbers_at (touched_by l)) c.deref.ensures.value) c.sort_once.ensures)
