use Rattle.std.proofs.Common.{◌-◌, ◌∙◌, List, length, sym, ap, subst}
use Rattle.std.specs.List.{slice_get}
use Rattle.std.proofs.lemmas.Bool.{eqb-false}
use Rattle.pg_plan.specs.declared.drafts.Note.{Note}
use Rattle.pg_plan.specs.Drafts.{Drafted, EndsWith}
use Rattle.pg_plan.proofs.Drafting.{other_last}
use Rattle.pg_plan.proofs.drafts.Draft.is_last.Goals as goal

pub returns-in-Some-clause-no : goal.returns-in-Some-clause-no
returns-in-Some-clause-no c = λ differs ends.
    other_last c.self.inside.notes.items c.in-Some.note.now c.args.at (ap (λ (ns : List Note). slice_get ns (length ns - 1)) (sym c.deref.ensures.value) ∙ sym c.in-Some.ensures.value)
    (eqb-false c.in-Some.note.now.at c.args.at differs) (subst (λ (d : Drafted). EndsWith d.touched c.args.at) (sym c.self.view_is) ends)
