use Rattle.std.proofs.Common.{◌*◌, List, ◌++◌, ap, ◌-◌, ◌≡◌, ◌∙◌, ℕ, length, arith}
use Rattle.std.proofs.lemmas.List.{length-replicate}
use Rattle.std.proofs.lemmas.Result.{on_ok_weaker}
use Rattle.std.specs.Int.{to_be_bytes, w32}
use Rattle.pg_journal.specs.BatchStates.{numbers_in}
use Rattle.pg_journal.specs.Pages.{Numbered}
use Rattle.pg_journal.proofs.BatchBytes.{length-batch}
use Rattle.ct_site.specs.laws.Lengths.{within_less, within_same, within_grown, grows_then, grows_more, grows_same}
use Rattle.pg_journal.proofs.BatchPages.{count_of_numbers}
use Rattle.pg_journal.proofs.Pages.{between_length}
use Rattle.ct_site.specs.laws.Writing.{on_ok_always}
use Rattle.pg_journal.proofs.Staging.{lengthened, batched, noted_so, synced, all_written, all_staged, grows_filled}
use Rattle.pg_journal.proofs.stages.stage.Goals as goal

note : (place : ℕ) (ws : List Numbered) (numbers bytes : List ℕ) → numbers ≡ numbers_in ws → bytes ≡ to_be_bytes w32 place ++ to_be_bytes w32 (length numbers) → bytes ≡ to_be_bytes w32 place ++ to_be_bytes w32 (length ws)
note place ws numbers bytes are is = is ∙ ap (λ (n : ℕ). to_be_bytes w32 place ++ to_be_bytes w32 n) (ap (λ (l : List ℕ). length l) are ∙ count_of_numbers ws)

pub returns-in_err-lengthen-clause-moments : goal.returns-in_err-lengthen-clause-moments
returns-in_err-lengthen-clause-moments g c = λ homes ps below s. lengthened homes c.args.place ps (g.B.ChangedPages.pages c.args.batch.now) below _ s _ _ _ (c.lengthen.ensures.writes s.image s.settled.told)

pub returns-in_err-write_batch-clause-moments : goal.returns-in_err-write_batch-clause-moments
returns-in_err-write_batch-clause-moments g c = λ homes ps below s.
    batched homes c.args.place ps (g.B.ChangedPages.pages c.args.batch.now) below _ s _ _ _ (c.lengthen.ensures.writes s.image s.settled.told) _ _ c.write_batch.ensures.writes

pub returns-in_err-write-clause-moments : goal.returns-in_err-write-clause-moments
returns-in_err-write-clause-moments g c = λ homes ps below s.
    noted_so homes c.args.place ps (g.B.ChangedPages.pages c.args.batch.now) below _ s _ _ _ (c.lengthen.ensures.writes s.image s.settled.told) _ _ c.write_batch.ensures.writes _ _ _ (note c.args.place (g.B.ChangedPages.pages c.args.batch.now) _ _ c.numbers.ensures.numbers c.two_numbers.ensures) c.write.ensures.writes

pub returns-clause-moments : goal.returns-clause-moments
returns-clause-moments g c = λ homes ps below s.
    synced homes c.args.place ps (g.B.ChangedPages.pages c.args.batch.now) below _ s _ _ _ (c.lengthen.ensures.writes s.image s.settled.told) _ _ c.write_batch.ensures.writes _ _ _ (note c.args.place (g.B.ChangedPages.pages c.args.batch.now) _ _ c.numbers.ensures.numbers c.two_numbers.ensures) c.write.ensures.writes _ c.sync.ensures.leaves

pub returns-clause-staged : goal.returns-clause-staged
returns-clause-staged g c = λ homes ps below s.
    let long = between_length 2 _ _ c.requires.between in
    let g3 = all_written homes c.args.place ps (g.B.ChangedPages.pages c.args.batch.now) below _ s _ _ _ _ _ (length-replicate {A = ℕ} (4096 * c.args.place - length s.image) 0) (note c.args.place (g.B.ChangedPages.pages c.args.batch.now) _ _ c.numbers.ensures.numbers c.two_numbers.ensures)
    (omega (arith, c.requires.place)) (omega (arith, c.requires.place, long)) c.requires.between c.requires.least
    (c.in_ok-lengthen.ensures.writes s.image s.settled.told) c.in_ok-write_batch.ensures.writes c.in_ok-write.ensures.writes in
    on_ok_weaker c.sync.result (all_staged homes c.args.place ps (g.B.ChangedPages.pages c.args.batch.now) below _ s _ _ g3 c.sync.ensures.image) (c.sync.ensures.durable g3.image g3.is)

pub returns-clause-within : goal.returns-clause-within
returns-clause-within g c =
    on_ok_always c.sync.result
    (within_same _ _ _ c.sync.ensures.image
    (within_grown _ _ _ _ c.write.ensures.works.untold c.write.ensures.writes.grows (within_grown _ _ _ _ c.write_batch.ensures.works.untold c.write_batch.ensures.writes.grows c.in_ok-lengthen.ensures.within)))

-- the zeros, the batch and the note are within this
pub returns-in_err-lengthen-clause-length : goal.returns-in_err-lengthen-clause-length
returns-in_err-lengthen-clause-length g c = grows_filled c.args.place _ _ _ c.lengthen.ensures.writes (omega arith)

pub returns-in_err-write_batch-clause-length : goal.returns-in_err-write_batch-clause-length
returns-in_err-write_batch-clause-length g c =
    grows_then _ _ _ _ c.write_batch.ensures.works.untold (grows_filled c.args.place _ _ _ c.lengthen.ensures.writes (omega arith))
    (grows_more _ _ _ _ (omega (arith, length-batch 2 c.args.place (g.B.ChangedPages.pages c.args.batch.now) c.requires.between)) c.write_batch.ensures.writes.grows)

pub returns-in_err-write-clause-length : goal.returns-in_err-write-clause-length
returns-in_err-write-clause-length g c =
    grows_then _ _ _ _ c.write.ensures.works.untold
    (grows_then _ _ _ _ c.write_batch.ensures.works.untold (grows_filled c.args.place _ _ _ c.lengthen.ensures.writes (omega arith))
    (grows_more _ _ _ _ (omega (arith, length-batch 2 c.args.place (g.B.ChangedPages.pages c.args.batch.now) c.requires.between)) c.write_batch.ensures.writes.grows))
    (grows_more _ _ _ _ (omega (arith, c.requires.least, ap (λ (l : List ℕ). length l) c.two_numbers.ensures)) c.write.ensures.writes.grows)

pub returns-clause-length : goal.returns-clause-length
returns-clause-length g c =
    grows_then _ _ _ _ c.sync.ensures.works.untold
    (grows_then _ _ _ _ c.write.ensures.works.untold
    (grows_then _ _ _ _ c.write_batch.ensures.works.untold (grows_filled c.args.place _ _ _ c.lengthen.ensures.writes (omega arith))
    (grows_more _ _ _ _ (omega (arith, length-batch 2 c.args.place (g.B.ChangedPages.pages c.args.batch.now) c.requires.between)) c.write_batch.ensures.writes.grows))
    (grows_more _ _ _ _ (omega (arith, c.requires.least, ap (λ (l : List ℕ). length l) c.two_numbers.ensures)) c.write.ensures.writes.grows))
    (grows_same _ _ _ c.sync.ensures.image)

pub overflow_cast-count : goal.overflow_cast-count
overflow_cast-count g c =
    omega (arith, c.requires.place, between_length 2 _ _ c.requires.between, count_of_numbers (g.B.ChangedPages.pages c.args.batch.now), ap (λ (l : List ℕ). length l) c.numbers.ensures.numbers)

pub write-requires-clause-within : goal.write-requires-clause-within
write-requires-clause-within g c =
    within_grown _ _ _ _ c.write_batch.ensures.works.untold c.write_batch.ensures.writes.grows (within_less (4096 * c.args.place) 4104 _ (omega (arith, c.requires.least)) c.in_ok-lengthen.ensures.within)
