use Rattle.pg_journal.proofs.BatchReads.{no_root, root_too_far, found_opened}
use Rattle.pg_journal.proofs.batch_reading.batch_with_homes.Goals as goal

pub returns-in_default-clause-is : goal.returns-in_default-clause-is
returns-in_default-clause-is g c = λ image told batch place_is.
    no_root c.args.batch.pages image c.in_ok-root.root batch (λ end. c.in_ok-root.ensures.is image end told) _ c.homes_of_root.ensures.root c.in_default.is

pub returns-then-homes-place-clause-is : goal.returns-then-homes-place-clause-is
returns-then-homes-place-clause-is g c = λ image told batch place_is.
    root_too_far c.args.batch.pages image c.in_ok-root.root batch (λ end. c.in_ok-root.ensures.is image end told) _ c.in-Some.homes c.args.place c.homes_of_root.ensures.root c.in-Some.is place_is c.if-homes-place.true

pub returns-clause-is : goal.returns-clause-is
returns-clause-is g c = λ image told batch place_is.
    found_opened c.args.batch.pages image c.in_ok-root.root batch (λ end. c.in_ok-root.ensures.is image end told) _ c.in-Some.homes c.args.place c.homes_of_root.ensures.root c.in-Some.is place_is c.if-homes-place.false
