use Rattle.std.specs.Prelude.{◌^◌}
use Rattle.pg_journal.proofs.BatchPages.{place_found, place_missing}
use Rattle.pg_journal.proofs.batches.place_of.Goals as goal

pub returns-in-Ok : goal.returns-in-Ok
returns-in-Ok c = λ bytes between. place_found 2 (2 ^ 32) c.args.numbers.now bytes c.args.number between c.in-Ok.at c.binary_search.result c.binary_search.ensures.position c.in-Ok.is

pub returns-in-Err : goal.returns-in-Err
returns-in-Err c = λ bytes between. place_missing 2 (2 ^ 32) c.args.numbers.now bytes c.args.number between c.in-Err.at c.binary_search.result c.binary_search.ensures.position c.in-Err.is
