use Rattle.std.proofs.Common.{◌≡◌, take}
use Rattle.pg_plan.specs.Drafts.{touched_by}
use Rattle.pg_plan.specs.Touched.{numbers_at}
use Rattle.pg_plan.proofs.drafts.numbers_of.Given as goal

abbrev pub invariant-loop-note : goal.invariant-loop-note
invariant-loop-note l = l.numbers.items ≡ numbers_at (touched_by (take l.note-index l.notes))
