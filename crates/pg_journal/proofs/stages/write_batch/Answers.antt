use Rattle.std.proofs.Common.{ℕ, List, length, ap, refl, arith}
use Rattle.pg_journal.proofs.BatchPages.{count_of_numbers}
use Rattle.pg_journal.proofs.Pages.{between_length}
use Rattle.pg_journal.proofs.Staging.{numbers_written, no_numbers, batch_written}
use Rattle.pg_journal.proofs.stages.write_batch.Goals as goal

pub write_numbers-requires-clause-fits : goal.write_numbers-requires-clause-fits
write_numbers-requires-clause-fits g c =
    omega (arith, c.requires.place, between_length 2 _ _ c.requires.between, count_of_numbers (g.B.ChangedPages.pages c.args.batch.now), ap (λ (l : List ℕ). length l) c.numbers-numbers.ensures.numbers)

pub returns-in_err-write_numbers-clause-writes : goal.returns-in_err-write_numbers-clause-writes
returns-in_err-write_numbers-clause-writes g c = no_numbers c.args.place (g.B.ChangedPages.pages c.args.batch.now) _ _ _ c.numbers-numbers.ensures.numbers c.requires.within _ _ c.from_residual.ensures.0 c.write_numbers.ensures.writes

pub write_images-requires-clause-within : goal.write_images-requires-clause-within
write_images-requires-clause-within g c = (numbers_written c.args.place (g.B.ChangedPages.pages c.args.batch.now) _ _ _ c.numbers-numbers.ensures.numbers c.requires.within c.in_ok-write_numbers.ensures.writes).within

pub write_images-requires-clause-fits : goal.write_images-requires-clause-fits
write_images-requires-clause-fits g c =
    omega (arith, c.requires.place, between_length 2 _ _ c.requires.between, count_of_numbers (g.B.ChangedPages.pages c.args.batch.now), ap (λ (l : List ℕ). length l) c.numbers-numbers.ensures.numbers)

pub returns-clause-writes : goal.returns-clause-writes
returns-clause-writes g c =
    batch_written c.args.place (g.B.ChangedPages.pages c.args.batch.now) _ _ _ c.numbers-numbers.ensures.numbers c.requires.within c.in_ok-write_numbers.ensures.writes _ _ _ refl c.write_images.ensures.writes
