use Rattle.pg_plan.proofs.Drafting.{Undoes}
use Rattle.pg_plan.proofs.drafts.undo.Given as goal

abbrev pub invariant-loop-note : goal.invariant-loop-note
invariant-loop-note l = Undoes l.initial.sheets.items l.sheets.items l.initial.notes.items l.notes.items

abbrev pub decreases-loop-note : goal.decreases-loop-note
decreases-loop-note l = goal.left-loop-note l
