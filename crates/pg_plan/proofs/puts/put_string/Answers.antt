use Rattle.pg_map.specs.Kinds.{Slotted}
use Rattle.pg_plan.specs.laws.Away.{stays_then}
use Rattle.pg_plan.proofs.Stepping.{fills_there, fills_added}
use Rattle.pg_plan.proofs.puts.put_string.Goals as goal

pub returns-in-Some-clause-takes : goal.returns-in-Some-clause-takes
returns-in-Some-clause-takes c = fills_there c.args.draft.now c.put_slotted.new.draft c.in-Some.at (Slotted c.in-Some.page) c.in_ok-put_slotted.ensures.now c.put_slotted.ensures.touches

pub returns-clause-takes : goal.returns-clause-takes
returns-clause-takes c =
    fills_added c.args.draft.now c.free_page.new.draft c.put_slotted-2.new.draft c.in_ok-at.at (Slotted c.in-Some-with_string.page) c.free_page.ensures.takes c.in_ok-at.ensures.added c.in_ok-put_slotted-2.ensures.now c.put_slotted-2.ensures.touches c.put_slotted-2.ensures.last

pub returns-clause-stays : goal.returns-clause-stays
returns-clause-stays c = stays_then c.args.draft.now c.free_page.new.draft c.put_slotted-2.new.draft c.in_ok-at.ensures.stays (c.in_ok-put_slotted-2.ensures.stays c.in-Some-with_string.ensures.here)
