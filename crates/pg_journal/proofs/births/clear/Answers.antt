use Rattle.std.proofs.Common.{◌≤◌, ◌∷◌, [], length, arith}
use Rattle.std.proofs.lemmas.Result.{on_ok_weaker}
use Rattle.ct_site.specs.Disks.{leaves_then, leaves_more}
use Rattle.ct_site.specs.laws.Writing.{within_then, on_ok_always}
use Rattle.ct_site.specs.laws.Lengths.{within_same, grows_more, grows_then, grows_same}
use Rattle.pg_journal.proofs.Birth.{keep_from, unborn_first, short_unborn, given, settled_after, cleared_written}
use Rattle.pg_journal.proofs.births.clear.Goals as goal

pub returns-in_err-write-clause-moments : goal.returns-in_err-write-clause-moments
returns-in_err-write-clause-moments g c = λ image settled short.
    short_unborn _ _ (keep_from (λ x. length x ≤ 1) 0 (0 ∷ []) image _ _ _ settled short c.write.ensures.writes unborn_first)

pub returns-clause-moments : goal.returns-clause-moments
returns-clause-moments g c = λ image settled short.
    let first = short_unborn _ _ (keep_from (λ x. length x ≤ 1) 0 (0 ∷ []) image _ _ _ settled short c.write.ensures.writes unborn_first) in
    leaves_then _ _ _ _ first (leaves_more _ _ _ _ c.sync.ensures.leaves first.now)

pub returns-clause-cleared : goal.returns-clause-cleared
returns-clause-cleared g c = λ image settled short.
    let is = given 0 (0 ∷ []) image _ _ settled c.in_ok-write.ensures.writes in
    on_ok_weaker c.sync.result (λ durable. record { image = _; settled = settled_after _ _ _ is c.sync.ensures.image durable; cleared = cleared_written image short }) (c.sync.ensures.durable _ is.is)

pub returns-clause-within : goal.returns-clause-within
returns-clause-within g c = on_ok_always c.sync.result (within_same _ _ _ c.sync.ensures.image (within_then 0 (0 ∷ []) _ _ (record { least = λ image told. omega arith }) c.in_ok-write.ensures.writes))

pub returns-in_err-write-clause-length : goal.returns-in_err-write-clause-length
returns-in_err-write-clause-length g c = grows_more _ 12288 _ _ (omega arith) c.write.ensures.writes.grows

pub returns-clause-length : goal.returns-clause-length
returns-clause-length g c = grows_then 12288 _ _ _ c.sync.ensures.works.untold (grows_more _ 12288 _ _ (omega arith) c.write.ensures.writes.grows) (grows_same 12288 _ _ c.sync.ensures.image)
