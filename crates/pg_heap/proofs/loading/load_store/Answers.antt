use Rattle.std.specs.Prelude.{Err}
use Rattle.std.proofs.Common.{ap, ◌∙◌}
use Rattle.std.proofs.lemmas.Result.{err_from_is_err_and}
use Rattle.pg_journal.specs.declared.faults.LoadFault.TheVariants.{NotAStore}
use Rattle.pg_journal.specs.laws.Looking.{known_by}
use Rattle.pg_journal.specs.Recovered.{Alike}
use Rattle.pg_journal.specs.laws.Recovered.{born_or_not}
use Rattle.pg_heap.proofs.Loadings.{reads_leave, refused_writes, fault_is, known_handed}
use Rattle.ct_site.specs.laws.Calls.{same_then}
use Rattle.pg_cache.specs.laws.Caches.{stands_same}
use Rattle.pg_heap.proofs.Loadings.{first_cache, none_recovered, none_held, refused_stays, store_holds}
use Rattle.pg_heap.proofs.loading.load_store.Goals as goal

pub returns-in_err-journal-clause-no_store : goal.returns-in_err-journal-clause-no_store
returns-in_err-journal-clause-no_store g c = λ image settled is.
    let p = err_from_is_err_and c.from_residual.result c.from_residual.ensures.1 in
    none_recovered image (c.in_err-journal.ensures.no_store image settled.told (ap Err (fault_is c.from_residual.result p.0 c.in_err-journal.field-0.0 NotAStore p.1 p.2 is)))

pub open_loaded-requires : goal.open_loaded-requires
open_loaded-requires g c = first_cache (g.D.Disk.disk c.args.disk.now) (g.D.Disk.disk c.load.new.disk) c.in_ok-journal.journal c.in-Ok.cache c.in-Ok.ensures c.requires c.in_ok-journal.ensures.loads.untold c.in_ok-journal.ensures.loaded

pub returns-in_err-store-clause-moments : goal.returns-in_err-store-clause-moments
returns-in_err-store-clause-moments g c = λ image settled.
    reads_leave _ _ _ (Alike image) (c.load.ensures.moments image settled) c.open_loaded.ensures.same c.open_loaded.ensures.loads.beside

pub returns-in_err-unused-clause-moments : goal.returns-in_err-unused-clause-moments
returns-in_err-unused-clause-moments g c = λ image settled.
    reads_leave _ _ _ (Alike image) (c.load.ensures.moments image settled) (same_then _ _ _ c.open_loaded.ensures.same c.survey.ensures.same) (c.survey.ensures.loads.beside ∙ c.open_loaded.ensures.loads.beside)

pub returns-clause-moments : goal.returns-clause-moments
returns-clause-moments g c = λ image settled.
    reads_leave _ _ _ (Alike image) (c.load.ensures.moments image settled) (same_then _ _ _ c.open_loaded.ensures.same c.survey.ensures.same) (c.survey.ensures.loads.beside ∙ c.open_loaded.ensures.loads.beside)

pub returns-in_err-store-clause-no_store : goal.returns-in_err-store-clause-no_store
returns-in_err-store-clause-no_store g c = λ image settled is.
    let l = c.in_ok-journal.ensures.loaded image settled in
    let p = err_from_is_err_and c.from_residual-in_err-store.result c.from_residual-in_err-store.ensures.1 in
    none_held image l.pages l.recovered (c.open_loaded.ensures.no_store l.pages l.stands (c.in_err-store.was ∙ ap Err (fault_is c.from_residual-in_err-store.result p.0 c.in_err-store.field-0.0 NotAStore p.1 p.2 is)))

pub returns-clause-loaded : goal.returns-clause-loaded
returns-clause-loaded g c = λ image settled.
    let l = c.in_ok-journal.ensures.loaded image settled in
    let s = c.in_ok-store.ensures.opened l.pages l.stands in
    let after = stands_same _ _ _ l.pages c.open_loaded.ensures.same l.stands in
    record {
      pages = l.pages;
      recovered = l.recovered;
      stands = stands_same _ _ _ l.pages c.survey.ensures.same after;
      opened = s;
      unused_is = c.in_ok-unused.ensures.unused s.behind s.opened;
      total_is = c.in_ok-unused.ensures.total s.behind s.opened (store_holds _ _ c.in_ok-store.store l.pages s after);
      counted = c.in_ok-unused.ensures.counted s.behind s.opened (store_holds _ _ c.in_ok-store.store l.pages s after);
    }

pub returns-in_err-journal-clause-answers : goal.returns-in_err-journal-clause-answers
returns-in_err-journal-clause-answers g c = λ image told.
    let p = err_from_is_err_and c.from_residual.result c.from_residual.ensures.1 in
    known_handed image c.load.result c.from_residual.result c.in_err-journal.field-0.0 c.in_err-journal.was (p.1 ∙ ap Err p.2) (c.load.ensures.answers image told)

pub returns-in_default-clause-answers : goal.returns-in_default-clause-answers
returns-in_default-clause-answers g c = λ image told. c.in_ok-journal.ensures.answers image told

pub returns-in_err-store-clause-answers : goal.returns-in_err-store-clause-answers
returns-in_err-store-clause-answers g c = λ image told. known_by image c.from_residual-in_err-store.result (c.in_ok-journal.ensures.answers image told)

pub returns-clause-answers : goal.returns-clause-answers
returns-clause-answers g c = λ image told. c.in_ok-journal.ensures.answers image told

pub returns-in_err-journal-clause-refused : goal.returns-in_err-journal-clause-refused
returns-in_err-journal-clause-refused g c = λ image settled shut is.
    let p = err_from_is_err_and c.from_residual.result c.from_residual.ensures.1 in
    refused_writes c.load.result _ _ (c.in_err-journal.was ∙ ap Err (fault_is c.from_residual.result p.0 c.in_err-journal.field-0.0 NotAStore p.1 p.2 is)) c.load.ensures.same

pub returns-in_err-store-clause-refused : goal.returns-in_err-store-clause-refused
returns-in_err-store-clause-refused g c = λ image settled shut is.
    let l = c.in_ok-journal.ensures.loaded image settled in
    let p = err_from_is_err_and c.from_residual-in_err-store.result c.from_residual-in_err-store.ensures.1 in
    let none = none_held image l.pages l.recovered (c.open_loaded.ensures.no_store l.pages l.stands (c.in_err-store.was ∙ ap Err (fault_is c.from_residual-in_err-store.result p.0 c.in_err-store.field-0.0 NotAStore p.1 p.2 is))) in
    refused_stays image _ _ _ _ l none (λ store. c.load.ensures.kept image settled.told (record { born = λ unborn. born_or_not image unborn store; shut = shut })) c.open_loaded.ensures.same

pub returns-in_err-unused-clause-kept : goal.returns-in_err-unused-clause-kept
returns-in_err-unused-clause-kept g c = λ image told only. same_then _ _ _ (c.load.ensures.kept image told only) (same_then _ _ _ c.open_loaded.ensures.same c.survey.ensures.same)

pub returns-clause-kept : goal.returns-clause-kept
returns-clause-kept g c = λ image told only. same_then _ _ _ (c.load.ensures.kept image told only) (same_then _ _ _ c.open_loaded.ensures.same c.survey.ensures.same)
