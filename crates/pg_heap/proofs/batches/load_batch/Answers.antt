use Rattle.pg_heap.proofs.Batching.{are_in_still, loads_both}
use Rattle.pg_heap.proofs.batches.load_batch.Goals as goal

pub returns-in-Ok-load_roomy-clause-window : goal.returns-in-Ok-load_roomy-clause-window
returns-in-Ok-load_roomy-clause-window g c = λ top pages m w. c.in-Ok-load_roomy.ensures.window top pages m (c.in-Ok-load_places.ensures.window top pages m w)

pub returns-in-Ok-load_roomy-clause-there : goal.returns-in-Ok-load_roomy-clause-there
returns-in-Ok-load_roomy-clause-there g c = λ top pages m w.
    are_in_still pages c.args.entries.now c.load_places.new.sheets.items c.load_roomy.new.sheets.items c.load_places.new.loaded.items c.load_roomy.new.loaded.items c.in-Ok-load_roomy.ensures.loads (c.in-Ok-load_places.ensures.there top pages m w)

pub returns-in-Ok-load_roomy-clause-loads : goal.returns-in-Ok-load_roomy-clause-loads
returns-in-Ok-load_roomy-clause-loads g c =
    loads_both c.args.sheets.now.items c.load_places.new.sheets.items c.load_roomy.new.sheets.items c.new-loaded.result.items c.load_places.new.loaded.items c.load_roomy.new.loaded.items c.new-loaded.ensures.items c.in-Ok-load_places.ensures.loads c.in-Ok-load_roomy.ensures.loads
