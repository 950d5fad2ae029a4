use Rattle.std.proofs.Common.{List, length, ap, ◌∙◌, arith}
use Rattle.pg_directory.specs.declared.building.InnerPage.{InnerPage}
use Rattle.pg_heap.proofs.DirectCommits.{all_numbers}
use Rattle.pg_heap.proofs.directing.numbers_of.Goals as goal

pub returns : goal.returns
returns c = c.loop-page.invariant ∙ all_numbers c.args.made.now c.loop-page.page-index (omega (arith, c.loop-page-test.false, c.deref-page-items.ensures.len, ap (λ (l : List InnerPage). length l) c.deref-page-items.ensures.value))
