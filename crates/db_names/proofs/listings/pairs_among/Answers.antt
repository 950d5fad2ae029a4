use Rattle.std.proofs.Common.{Some, None}
use Rattle.db_names.specs.Parts.{PairOf}
use Rattle.db_names.proofs.ListSteps.{as_seen, read_of, more_none, more_some}
use Rattle.db_names.proofs.listings.pairs_among.Goals as goal
use Rattle.db_names.proofs.listings.pairs_among.Goals.{in-Some+in_ok-push, in_default}

pub loop-rest-preserved : goal.loop-rest-preserved
loop-rest-preserved c = elim c.match-branch-2.branch [
  | in-Some+in_ok-push w ↦
      rw (w.pairs-is, w.in_ok-push.ensures.items)
      (more_some (PairOf c.args.table.now) as_seen c.args.found.now c.loop-rest.rest-index c.loop-rest-item.result c.loop-rest.pairs.items w.in-Some.pair c.loop-rest-test.true c.loop-rest-item.is c.loop-rest.invariant
      (read_of (PairOf c.args.table.now) c.loop-rest-item.result c.deref.result.now c.deref-in-loop-rest.result.now c.in_ok-pair.field-0 (Some w.in-Some.pair) c.deref.ensures.value c.deref-in-loop-rest.ensures.value w.in-Some.is c.in_ok-pair.ensures))
  | in_default w ↦
      rw w.pairs-is
      (more_none (PairOf c.args.table.now) as_seen c.args.found.now c.loop-rest.rest-index c.loop-rest-item.result c.loop-rest.pairs.items c.loop-rest-test.true c.loop-rest-item.is c.loop-rest.invariant
      (read_of (PairOf c.args.table.now) c.loop-rest-item.result c.deref.result.now c.deref-in-loop-rest.result.now c.in_ok-pair.field-0 None c.deref.ensures.value c.deref-in-loop-rest.ensures.value w.in_default.is c.in_ok-pair.ensures))
]
