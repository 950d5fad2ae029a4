use Rattle.std.proofs.Common.{ap, refl, ◌∙◌}
use Rattle.std.specs.Option.{option_map}
use Rattle.pg_journal.specs.BatchStates.{BatchState}
use Rattle.ct_site.specs.laws.Calls.{same_then}
use Rattle.pg_journal.specs.Looking.{loads_then, loads_more}
use Rattle.pg_journal.proofs.BatchReads.{no_batch, batch_of}
use Rattle.pg_journal.proofs.batch_reading.look_open.Goals as goal

pub returns-in_default-2-clause-is : goal.returns-in_default-2-clause-is
returns-in_default-2-clause-is g c = λ image told open_.
    let told1 = c.read_number.ensures.same.image ∙ told in
    let told2 = c.read_number-2.ensures.same.image ∙ told1 in
    no_batch _ image (c.in_ok-batch.ensures.is image told2 open_ (c.in-Ok.ensures.is image told) (c.in-Ok-read_number.ensures.is image told1)) (ap (option_map (λ (b : BatchState). b.pages)) c.in_default-2.is)

pub returns-in-Ok-batch_with_homes-clause-is : goal.returns-in-Ok-batch_with_homes-clause-is
returns-in-Ok-batch_with_homes-clause-is g c = λ image told open_.
    let told1 = c.read_number.ensures.same.image ∙ told in
    let told2 = c.read_number-2.ensures.same.image ∙ told1 in
    let place_is = c.in-Ok.ensures.is image told in
    c.in-Ok-batch_with_homes.ensures.is image (c.read_batch.ensures.same.image ∙ told2)
    (batch_of _ c.in-Some.batch.pages image (c.in_ok-batch.ensures.is image told2 open_ place_is (c.in-Ok-read_number.ensures.is image told1)) (ap (option_map (λ (b : BatchState). b.pages)) c.in-Some.is)) place_is

pub returns-in-Ok-batch_with_homes-clause-same : goal.returns-in-Ok-batch_with_homes-clause-same
returns-in-Ok-batch_with_homes-clause-same g c =
    same_then _ _ _ c.read_number.ensures.same (same_then _ _ _ c.read_number-2.ensures.same (same_then _ _ _ c.read_batch.ensures.same c.batch_with_homes.ensures.same))

pub returns-in-Ok-batch_with_homes-clause-loads : goal.returns-in-Ok-batch_with_homes-clause-loads
returns-in-Ok-batch_with_homes-clause-loads g c =
    loads_then _ _ _ _ _ c.in-Ok.ensures.works (loads_then _ _ _ _ _ c.in-Ok-read_number.ensures.works (loads_more _ _ _ _ _ _ refl c.in_ok-batch.ensures.loads c.in-Ok-batch_with_homes.ensures.works))
