use Rattle.std.proofs.Common.{arith, ◌∷◌, [], refl}
use Rattle.ct_site.specs.laws.Lengths.{grows_more, grows_then, grows_same}
use Rattle.std.proofs.lemmas.Result.{on_ok_weaker}
use Rattle.ct_site.specs.Disks.{leaves_then, leaves_more}
use Rattle.pg_journal.specs.Births.{born}
use Rattle.pg_journal.proofs.Birth.{birth_leaves, bear_stands, given, settled_after}
use Rattle.pg_journal.proofs.births.set_birth.Goals as goal

pub returns-in_err-write-clause-moments : goal.returns-in_err-write-clause-moments
returns-in_err-write-clause-moments g c = λ settled. birth_leaves _ _ _ _ refl settled c.write.ensures.writes

pub returns-clause-moments : goal.returns-clause-moments
returns-clause-moments g c = λ settled.
    let first = birth_leaves _ _ _ _ refl settled c.write.ensures.writes in
    leaves_then _ _ _ _ first (leaves_more _ _ _ _ c.sync.ensures.leaves first.now)

pub returns-clause-stands : goal.returns-clause-stands
returns-clause-stands g c = λ settled.
    let is = given 0 (1 ∷ []) (0 ∷ born) _ _ settled c.in_ok-write.ensures.writes in
    on_ok_weaker c.sync.result (λ durable. bear_stands _ (settled_after (1 ∷ born) _ _ is c.sync.ensures.image durable)) (c.sync.ensures.durable _ is.is)

pub returns-in_err-write-clause-length : goal.returns-in_err-write-clause-length
returns-in_err-write-clause-length g c = grows_more _ 12288 _ _ (omega arith) c.write.ensures.writes.grows

pub returns-clause-length : goal.returns-clause-length
returns-clause-length g c = grows_then 12288 _ _ _ c.sync.ensures.works.untold (grows_more _ 12288 _ _ (omega arith) c.write.ensures.writes.grows) (grows_same 12288 _ _ c.sync.ensures.image)
