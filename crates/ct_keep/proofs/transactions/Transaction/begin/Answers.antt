use Rattle.std.proofs.Common.{ap, ◌∙◌}
use Rattle.ct_keep.specs.Transactions.{staying}
use Rattle.ct_keep.proofs.ContentLaws.{staying-none}
use Rattle.ct_keep.proofs.Courses.{course_begins}
use Rattle.ct_keep.proofs.transactions.Transaction.begin.Goals as goal

pub invariant_of-result : goal.invariant_of-result
invariant_of-result c = course_begins c.args.held c.new.result c.new-2.result c.args.total c.new.ensures c.new-2.ensures.replaced c.requires

pub returns-clause-seen : goal.returns-clause-seen
returns-clause-seen c = ap (staying c.args.held) c.new.ensures ∙ staying-none c.args.held
