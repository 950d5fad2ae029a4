use Rattle.std.proofs.Common.{◌≡◌, ◌≤◌, ℕ, length, ap, arith, Bool, false}
use Rattle.std.specs.Prelude.{vec_len, ◌==◌}
use Rattle.std.proofs.lemmas.Bool.Decides.{nat_tests}
use Rattle.pg_journal.specs.BatchStates.{BatchState}
use Rattle.pg_journal.proofs.BatchPages.{length-pages}
use Rattle.pg_journal.proofs.batches.PageBatch.is_empty.Goals as goal

some : (n : ℕ) (r : Bool) → r ≡ (n == 0) → r ≡ false → 1 ≤ n
some n r is no_ = grind (arith, nat_tests)

pub returns-clause-no : goal.returns-clause-no
returns-clause-no c = λ no_.
    let least = some (vec_len c.self.inside.numbers) c.is_empty.result c.is_empty.ensures no_ in
    let pages = ap (λ (b : BatchState). length b.pages) c.self.view_is in
    omega (arith, least, pages, length-pages c.self.inside.numbers.items c.self.inside.bytes.items)
