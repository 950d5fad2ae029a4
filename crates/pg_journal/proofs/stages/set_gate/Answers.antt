use Rattle.std.proofs.Common.{arith}
use Rattle.std.proofs.lemmas.Result.{on_ok_weaker}
use Rattle.pg_journal.proofs.Gates.{gate_cut, gate_given, gate_set}
use Rattle.ct_site.specs.Disks.{leaves_then, leaves_more}
use Rattle.ct_site.specs.laws.Lengths.{grows_then, grows_inside, grows_same}
use Rattle.pg_journal.proofs.stages.set_gate.Goals as goal

pub returns-in_err-write-clause-moments : goal.returns-in_err-write-clause-moments
returns-in_err-write-clause-moments g c = λ image settled. gate_cut c.args.gate _ _ _ image c.requires.within settled c.write.ensures.writes

pub returns-clause-moments : goal.returns-clause-moments
returns-clause-moments g c = λ image settled.
    let first = gate_cut c.args.gate _ _ _ image c.requires.within settled c.write.ensures.writes in
    leaves_then _ _ _ _ first (leaves_more _ _ _ _ c.sync.ensures.leaves first.now)

pub returns-clause-set : goal.returns-clause-set
returns-clause-set g c = λ image settled.
    let given = gate_given c.args.gate _ _ image c.requires.within settled c.in_ok-write.ensures.writes in
    on_ok_weaker c.sync.result (gate_set c.args.gate _ _ image given c.sync.ensures.image) (c.sync.ensures.durable given.image given.is)

pub returns-clause-length : goal.returns-clause-length
returns-clause-length g c = grows_then 0 _ _ _ c.sync.ensures.works.untold (grows_inside 4097 4097 0 _ _ (omega arith) c.requires.within c.in_ok-write.ensures.writes.grows) (grows_same 0 _ _ c.sync.ensures.image)

pub returns-in_err-write-clause-length : goal.returns-in_err-write-clause-length
returns-in_err-write-clause-length g c = grows_inside 4097 4097 0 _ _ (omega arith) c.requires.within c.write.ensures.writes.grows
