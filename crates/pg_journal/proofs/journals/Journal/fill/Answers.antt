use Rattle.ct_site.specs.Disks.{leaves_more}
use Rattle.pg_journal.specs.Recovered.{IsRecovered}
use Rattle.pg_journal.specs.Standing.{IsShut}
use Rattle.pg_journal.proofs.Shut.{shut_recovers}
use Rattle.pg_journal.proofs.journals.Journal.fill.Goals as goal

pub returns-clause-moments : goal.returns-clause-moments
returns-clause-moments g c = λ pages st.
    leaves_more _ _ (IsShut c.args.self.now pages) (λ image. IsRecovered image pages) (c.fill.ensures.moments c.args.self.now pages st) (λ image shut. shut_recovers c.args.self.now pages image shut)
