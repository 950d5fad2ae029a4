use Rattle.std.specs.Prelude.{map}
use Rattle.std.proofs.Common.{List, sym, subst}
use Rattle.ct_keep.specs.SeenChanges.{change_of}
use Rattle.ct_keep.specs.declared.batches.Change.{Change as OwnChange}
use Rattle.pg_batch.specs.ByKey.{KeysRise}
use Rattle.pg_change.specs.Next.{next_pages}
use Rattle.pg_change.specs.laws.BatchWindows.{keys_apart}
use Rattle.pg_heap.specs.laws.BatchLengths.{ends_same, ends_many, ends_committed}
use Rattle.pg_heap.proofs.BatchEnds.{planned_few, planned_touched, planned_many}
use Rattle.pg_heap.proofs.Batching.{reads_leave, fill_leaves, commit_leaves, is_planned, planned_map, made_of, counts_made}
use Rattle.pg_heap.proofs.Loadings.{holds_on}
use Rattle.pg_heap.proofs.batches.commit_asked.Goals as goal

pub plan_batch-requires-clause-apart : goal.plan_batch-requires-clause-apart
plan_batch-requires-clause-apart g c = keys_apart (map change_of c.deref.result.now) (subst (λ (l : List OwnChange). KeysRise (map change_of l)) (sym c.deref.ensures.value) c.requires.rise)

pub returns-in-Err-clause-moments : goal.returns-in-Err-clause-moments
returns-in-Err-clause-moments g c = λ b. reads_leave b (g.D.Disk.disk c.plan_batch.new.disk) c.plan_batch.ensures.same c.in-Err.ensures.reads.beside

pub returns-in_default-clause-moments : goal.returns-in_default-clause-moments
returns-in_default-clause-moments g c = λ b. fill_leaves b (g.D.Disk.disk c.plan_batch.new.disk) (g.D.Disk.disk c.fill.new.disk) c.plan_batch.ensures.same c.in-Ok.ensures.reads.beside c.fill.ensures.moments

pub returns-in_default-count_new-clause-moments : goal.returns-in_default-count_new-clause-moments
returns-in_default-count_new-clause-moments g c = λ b. reads_leave b (g.D.Disk.disk c.plan_batch.new.disk) c.plan_batch.ensures.same c.in-Ok.ensures.reads.beside

pub returns-in-Ok-commit_batch-clause-moments : goal.returns-in-Ok-commit_batch-clause-moments
returns-in-Ok-commit_batch-clause-moments g c = λ b.
    let p = is_planned c.args.asked.now.changes.items c.deref.result.now c.plan_batch.new.draft c.plan_batch.new.hints.free.now c.in-Ok.found c.in-Some.planned b c.deref.ensures.value c.requires.rise c.in-Ok.ensures.planned c.in-Some.is in
    commit_leaves b (g.D.Disk.disk c.plan_batch.new.disk) (g.D.Disk.disk c.commit_batch.new.disk) (next_pages b.pages c.plan_batch.new.draft.now c.in-Some.planned.images c.in-Some.planned.numbers) c.in-Some.planned.top c.plan_batch.ensures.same c.in-Ok.ensures.reads.beside
    (planned_map p c.commit_batch.ensures.named) (c.commit_batch.ensures.moments c.args.top b.pages (holds_on _ _ _ _ b.pages c.plan_batch.ensures.same b.holds))

pub returns-in-Ok-commit_batch-clause-made : goal.returns-in-Ok-commit_batch-clause-made
returns-in-Ok-commit_batch-clause-made g c = λ b.
    let p = is_planned c.args.asked.now.changes.items c.deref.result.now c.plan_batch.new.draft c.plan_batch.new.hints.free.now c.in-Ok.found c.in-Some.planned b c.deref.ensures.value c.requires.rise c.in-Ok.ensures.planned c.in-Some.is in
    made_of p (g.D.Disk.disk c.commit_batch.new.disk) c.commit_batch.new.journal c.count_gone.new.counts
    (c.in-Ok-commit_batch.ensures.holds c.args.top b.pages (holds_on _ _ _ _ b.pages c.plan_batch.ensures.same b.holds))
    (counts_made c.args.asked.now.changes.items c.deref-2.result.now c.deref-in-Ok-commit_batch.result.now c.args.asked.now.places.items c.deref-3.result.now c.deref-in-Ok-commit_batch-2.result.now
    c.deref-2.ensures.value c.deref-3.ensures.value c.deref-in-Ok-commit_batch.ensures.value c.deref-in-Ok-commit_batch-2.ensures.value c.requires.rise b.there b.counted c.in-Ok-count_new.ensures.ok c.count_gone.ensures.counts)

pub returns-in-Err-commit_batch-clause-moments : goal.returns-in-Err-commit_batch-clause-moments
returns-in-Err-commit_batch-clause-moments g c = λ b.
    let p = is_planned c.args.asked.now.changes.items c.deref.result.now c.plan_batch.new.draft c.plan_batch.new.hints.free.now c.in-Ok.found c.in-Some.planned b c.deref.ensures.value c.requires.rise c.in-Ok.ensures.planned c.in-Some.is in
    commit_leaves b (g.D.Disk.disk c.plan_batch.new.disk) (g.D.Disk.disk c.commit_batch.new.disk) (next_pages b.pages c.plan_batch.new.draft.now c.in-Some.planned.images c.in-Some.planned.numbers) c.in-Some.planned.top c.plan_batch.ensures.same c.in-Ok.ensures.reads.beside
    (planned_map p c.commit_batch.ensures.named) (c.commit_batch.ensures.moments c.args.top b.pages (holds_on _ _ _ _ b.pages c.plan_batch.ensures.same b.holds))

pub returns-in-Err-clause-ends : goal.returns-in-Err-clause-ends
returns-in-Err-clause-ends g c = λ b. ends_same b c.args.hints.now.free.now c.requires.listed (g.D.Disk.disk c.plan_batch.new.disk) c.plan_batch.ensures.same

pub returns-in_default-clause-ends : goal.returns-in_default-clause-ends
returns-in_default-clause-ends g c = λ b. ends_many b c.args.hints.now.free.now c.requires.listed (g.D.Disk.disk c.fill.new.disk)
    (planned_many c.args.asked.now.changes.items c.deref.result.now c.args.draft.now.now c.args.journal.now c.in-Ok.found c.deref.ensures.value c.in-Ok.ensures.many c.in_default.is)

pub returns-in_default-count_new-clause-ends : goal.returns-in_default-count_new-clause-ends
returns-in_default-count_new-clause-ends g c = λ b. ends_same b c.args.hints.now.free.now c.requires.listed (g.D.Disk.disk c.plan_batch.new.disk) c.plan_batch.ensures.same

pub returns-in-Ok-commit_batch-clause-ends : goal.returns-in-Ok-commit_batch-clause-ends
returns-in-Ok-commit_batch-clause-ends g c = λ b.
    let done = c.plan_batch.new.draft in
    let planned = c.in-Some.planned in
    ends_committed b c.args.hints.now.free.now c.requires.listed (g.D.Disk.disk c.plan_batch.new.disk) (g.D.Disk.disk c.commit_batch.new.disk) done planned.numbers c.plan_batch.ensures.same
    (planned_few c.args.asked.now.changes.items c.deref.result.now c.args.draft.now done c.args.journal.now c.args.places.now c.in-Ok.found planned c.deref.ensures.value c.in-Ok.ensures.few c.in-Some.is)
    (planned_touched done c.in-Ok.found planned c.in-Ok.ensures.ready c.in-Some.is) c.commit_batch.ensures.length

pub returns-in-Err-commit_batch-clause-ends : goal.returns-in-Err-commit_batch-clause-ends
returns-in-Err-commit_batch-clause-ends g c = λ b.
    let done = c.plan_batch.new.draft in
    let planned = c.in-Some.planned in
    ends_committed b c.args.hints.now.free.now c.requires.listed (g.D.Disk.disk c.plan_batch.new.disk) (g.D.Disk.disk c.commit_batch.new.disk) done planned.numbers c.plan_batch.ensures.same
    (planned_few c.args.asked.now.changes.items c.deref.result.now c.args.draft.now done c.args.journal.now c.args.places.now c.in-Ok.found planned c.deref.ensures.value c.in-Ok.ensures.few c.in-Some.is)
    (planned_touched done c.in-Ok.found planned c.in-Ok.ensures.ready c.in-Some.is) c.commit_batch.ensures.length
