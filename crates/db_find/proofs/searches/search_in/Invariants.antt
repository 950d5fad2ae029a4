use Rattle.std.proofs.Common.{◌≡◌, drop}
use Rattle.db_find.specs.Searches.{search_in}
use Rattle.db_find.proofs.searches.search_in.Given as goal

abbrev pub invariant-loop-pred : goal.invariant-loop-pred
invariant-loop-pred l = search_in (drop l.pred-index l.preds) ≡ search_in l.preds
