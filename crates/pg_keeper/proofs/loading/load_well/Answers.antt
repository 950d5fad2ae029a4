use Rattle.std.proofs.Common.{Err, ap, inl, inr, sym, ◌∙◌}
use Rattle.std.proofs.lemmas.Bool.{false≢true}
use Rattle.pg_keeper.specs.laws.Paged.{entries_unchanged}
use Rattle.pg_keeper.proofs.Loads.{err_same, ill_shaped, loaded_read, loads_read, read_store, reads_leave, stays_read}
use Rattle.pg_keeper.proofs.loading.load_well.Goals as goal

-- ---- the load failed

pub returns-in-Err-clause-no_store : goal.returns-in-Err-clause-no_store
returns-in-Err-clause-no_store g c = λ image told is. inl (c.in-Err.ensures.no_store image told (ap Err (err_same _ _ is)))

pub returns-in-Err-clause-refused : goal.returns-in-Err-clause-refused
returns-in-Err-clause-refused g c = λ image settled shut is. c.in-Err.ensures.refused image settled shut (ap Err (err_same _ _ is))

-- ---- its entries couldn't be read

pub returns-in-Err-are_well-clause-moments : goal.returns-in-Err-are_well-clause-moments
returns-in-Err-are_well-clause-moments g c = λ image told. reads_leave _ _ _ _ (c.in-Ok.ensures.moments image told) c.are_well.ensures.reads.same c.are_well.ensures.reads.beside

pub returns-in-Err-are_well-clause-kept : goal.returns-in-Err-are_well-clause-kept
returns-in-Err-are_well-clause-kept g c = λ image settled only. stays_read _ _ _ image (c.in-Ok.ensures.kept image settled only) c.are_well.ensures.reads.same c.are_well.ensures.reads.beside

pub returns-in-Err-are_well-clause-loads : goal.returns-in-Err-are_well-clause-loads
returns-in-Err-are_well-clause-loads g c = loads_read _ _ _ c.in-Ok.heap c.are_well.result _ c.in-Ok.ensures.loads c.are_well.ensures.reads (rw c.in-Err-are_well.is (sym (c.fault_of_heap.ensures.faults _)))

-- ---- it has an entry that isn't well shaped

pub returns-in-Ok-false-clause-moments : goal.returns-in-Ok-false-clause-moments
returns-in-Ok-false-clause-moments g c = λ image told. reads_leave _ _ _ _ (c.in-Ok.ensures.moments image told) c.are_well.ensures.reads.same c.are_well.ensures.reads.beside

pub returns-in-Ok-false-clause-no_store : goal.returns-in-Ok-false-clause-no_store
returns-in-Ok-false-clause-no_store g c = λ image told is.
    let l = c.in-Ok.ensures.loaded image told in
    inr (l.0.held, l.1, λ h. false≢true (sym c.in-Ok-false.field-0-test ∙ (c.in-Ok-false.ensures.well l.0).1 h))

pub returns-in-Ok-false-clause-refused : goal.returns-in-Ok-false-clause-refused
returns-in-Ok-false-clause-refused g c = λ image settled shut is.
    let l = c.in-Ok.ensures.loaded image settled.told in
    stays_read _ _ _ image (ill_shaped _ image l.0.held _ l.1 (λ h. false≢true (sym c.in-Ok-false.field-0-test ∙ (c.in-Ok-false.ensures.well l.0).1 h))
    (λ store. c.in-Ok.ensures.kept image settled (read_store image shut store))) c.are_well.ensures.reads.same c.are_well.ensures.reads.beside

pub returns-in-Ok-false-clause-kept : goal.returns-in-Ok-false-clause-kept
returns-in-Ok-false-clause-kept g c = λ image settled only. stays_read _ _ _ image (c.in-Ok.ensures.kept image settled only) c.are_well.ensures.reads.same c.are_well.ensures.reads.beside

-- ---- all of them are

pub returns-in-Ok-true-clause-moments : goal.returns-in-Ok-true-clause-moments
returns-in-Ok-true-clause-moments g c = λ image told. reads_leave _ _ _ _ (c.in-Ok.ensures.moments image told) c.are_well.ensures.reads.same c.are_well.ensures.reads.beside

pub returns-in-Ok-true-clause-loaded : goal.returns-in-Ok-true-clause-loaded
returns-in-Ok-true-clause-loaded g c = λ image told. loaded_read _ _ c.in-Ok.heap c.are_well.new.self image c.are_well.ensures.ready c.are_well.ensures.reads.same (c.in-Ok.ensures.loaded image told)

pub returns-in-Ok-true-clause-entries : goal.returns-in-Ok-true-clause-entries
returns-in-Ok-true-clause-entries g c =
    entries_unchanged (g.D.Disk.disk c.load_synced.new.disk) (g.D.Disk.disk c.are_well.new.disk) c.in-Ok.heap c.are_well.new.self (g.H.Shape.is_well c.args.shape.now) c.in-Ok.ensures.ready
    (λ s. (c.in-Ok-true.ensures.well s).0 c.in-Ok-true.field-0-test) c.are_well.ensures.reads.same.image

pub returns-in-Ok-true-clause-kept : goal.returns-in-Ok-true-clause-kept
returns-in-Ok-true-clause-kept g c = λ image settled only. stays_read _ _ _ image (c.in-Ok.ensures.kept image settled only) c.are_well.ensures.reads.same c.are_well.ensures.reads.beside
