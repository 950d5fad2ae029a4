use Rattle.std.proofs.Common.{List, ◌++◌}
use Rattle.ix_posting.specs.Rows.{DocumentsRise, WordDocument}
use Rattle.ix_posting.specs.Forms.{number_form}
use Rattle.ix_posting.specs.Lists.{posting_list}
use Rattle.index_tests.proofs.cursors.rows.Given as goal

abbrev pub invariant-loop-bytes : goal.invariant-loop-bytes
invariant-loop-bytes l = (more : List WordDocument) → DocumentsRise number_form l.last more → DocumentsRise number_form 0 (posting_list l.rows.items ++ more)
