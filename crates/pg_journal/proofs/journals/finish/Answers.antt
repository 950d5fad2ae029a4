use Rattle.std.proofs.lemmas.Result.{on_ok_weaker}
use Rattle.ct_site.specs.Disks.{leaves_then, leaves_more}
use Rattle.ct_site.specs.laws.Lengths.{within_grown, grows_then}
use Rattle.pg_journal.proofs.Shut.{settling_recovers}
use Rattle.pg_journal.proofs.Committing.{closes, closed_stands}
use Rattle.pg_journal.proofs.journals.finish.Goals as goal

pub returns-in_err-put_home-clause-moments : goal.returns-in_err-put_home-clause-moments
returns-in_err-put_home-clause-moments g c = λ place aim image settled is s.
    leaves_more _ _ _ _ (c.put_home.ensures.moments place aim image settled s) (λ x set. settling_recovers place _ aim x is set)

pub returns-clause-moments : goal.returns-clause-moments
returns-clause-moments g c = λ place aim image settled is s.
    let home = c.in_ok-put_home.ensures.home place aim image settled s in
    leaves_then _ _ _ _ (leaves_more _ _ _ _ (c.put_home.ensures.moments place aim image settled s) (λ x set. settling_recovers place _ aim x is set))
    (leaves_more _ _ _ _ (c.set_gate.ensures.moments home.image home.settled) (λ x w. closes place _ aim home.image x is home.settling home.home w))

pub returns-clause-stands : goal.returns-clause-stands
returns-clause-stands g c = λ place aim image settled is s.
    let home = c.in_ok-put_home.ensures.home place aim image settled s in
    on_ok_weaker c.set_gate.result (closed_stands place _ aim _ home.image is home.settling home.home) (c.set_gate.ensures.set home.image home.settled)

pub set_gate-requires : goal.set_gate-requires
set_gate-requires g c = record { within = within_grown 4097 0 _ _ c.put_home.ensures.works.untold c.put_home.ensures.length c.requires.within }

pub returns-clause-length : goal.returns-clause-length
returns-clause-length g c = grows_then 0 _ _ _ c.set_gate.ensures.works.untold c.put_home.ensures.length c.set_gate.ensures.length
