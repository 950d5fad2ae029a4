use Rattle.std.proofs.Common.{◌≤◌, ◌≡◌, List, ℕ, length, arith, ap}
use Rattle.std.proofs.lemmas.Result.{on_ok_weaker}
use Rattle.ct_site.specs.Disks.{leaves_then, leaves_more}
use Rattle.pg_journal.specs.Births.{born, IsCleared}
use Rattle.ct_site.specs.laws.Lengths.{grows_more, grows_then, grows_same}
use Rattle.pg_journal.proofs.Birth.{keep_from, cleared_torn, cleared_all_unborn, given, settled_after, born_given, length-born}
use Rattle.pg_journal.proofs.births.write_pages.Goals as goal

few : (bytes : List ℕ) → bytes ≡ born → length bytes ≤ 12287
few bytes is = omega (arith, ap (λ (l : List ℕ). length l) is, length-born)

pub returns-in_err-write-clause-moments : goal.returns-in_err-write-clause-moments
returns-in_err-write-clause-moments g c = λ image settled cleared.
    cleared_all_unborn _ _ (keep_from IsCleared 1 _ image _ _ _ settled cleared c.write.ensures.writes (λ x y. cleared_torn _ x y (few _ c.born_bytes.ensures)))

pub returns-clause-moments : goal.returns-clause-moments
returns-clause-moments g c = λ image settled cleared.
    let first = cleared_all_unborn _ _ (keep_from IsCleared 1 _ image _ _ _ settled cleared c.write.ensures.writes (λ x y. cleared_torn _ x y (few _ c.born_bytes.ensures))) in
    leaves_then _ _ _ _ first (leaves_more _ _ _ _ c.sync.ensures.leaves first.now)

pub returns-clause-bytes : goal.returns-clause-bytes
returns-clause-bytes g c = λ image settled cleared.
    let is = born_given _ image _ c.born_bytes.ensures cleared (given 1 _ image _ _ settled c.in_ok-write.ensures.writes) in
    on_ok_weaker c.sync.result (settled_after _ _ _ is c.sync.ensures.image) (c.sync.ensures.durable _ is.is)

pub returns-in_err-write-clause-length : goal.returns-in_err-write-clause-length
returns-in_err-write-clause-length g c = grows_more _ 12288 _ _ (omega (arith, few _ c.born_bytes.ensures)) c.write.ensures.writes.grows

pub returns-clause-length : goal.returns-clause-length
returns-clause-length g c = grows_then 12288 _ _ _ c.sync.ensures.works.untold (grows_more _ 12288 _ _ (omega (arith, few _ c.born_bytes.ensures)) c.write.ensures.writes.grows) (grows_same 12288 _ _ c.sync.ensures.image)
