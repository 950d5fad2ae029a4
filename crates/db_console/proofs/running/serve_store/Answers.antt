use Rattle.std.specs.Prelude.{Err}
use Rattle.std.proofs.Common.{◌≡◌, ◌-◌, refl, ap, inl, inr, arith}
use Rattle.pg_journal.specs.declared.faults.LoadFault.TheVariants.{NotAStore}
use Rattle.pg_heap.specs.laws.Recovering.{one_recovery}
use Rattle.pg_keeper.specs.laws.Loading.{no_two_stores, settled_moments}
use Rattle.ct_base.specs.laws.Options.{same_value}
use Rattle.db_state.specs.Shapes.{IsStoreEntry}
use Rattle.db_console.specs.Limits.{statement_limit, script_limit}
use Rattle.db_console.proofs.StoreLaws.{load_syncs, served_before, past_none, completes_none, load_status, load_tells, serve_tells, completes_before, told_loaded}
use Rattle.db_console.proofs.running.serve_store.Goals as goal

-- ---- it wasn't loaded

pub returns-in-Err-clause-table : goal.returns-in-Err-clause-table
returns-in-Err-clause-table g c = λ image m settled is well.
    let other : c.in-Err.fault ≡ NotAStore → ⊥ = λ e. no_two_stores IsStoreEntry image m is well (c.in-Err.ensures.no_store image settled.told (ap Err e)) in
    rw c.status_of_load.ensures (inr (load_status c.in-Err.fault other, (c.in-Err.fault, refl, record { beside = c.load_heap.ensures.loads.beside; leaves = settled_moments _ _ _ image settled (c.load_heap.ensures.moments image settled.told); kept = c.load_heap.ensures.kept image settled; refused = λ e shut. c.in-Err.ensures.refused image settled shut (ap Err e) })))

pub returns-in-Err-clause-foreign : goal.returns-in-Err-clause-foreign
returns-in-Err-clause-foreign g c = λ image settled none.
    (c.in-Err.fault, c.status_of_load.ensures, record { beside = c.load_heap.ensures.loads.beside; leaves = settled_moments _ _ _ image settled (c.load_heap.ensures.moments image settled.told); kept = c.load_heap.ensures.kept image settled; refused = λ e shut. c.in-Err.ensures.refused image settled shut (ap Err e) })

pub returns-in-Err-clause-past : goal.returns-in-Err-clause-past
returns-in-Err-clause-past g c = rw c.status_of_load.ensures (past_none script_limit c.in-Err.fault _ _ c.load_heap.ensures.loads.beside)

pub returns-in-Err-clause-complete : goal.returns-in-Err-clause-complete
returns-in-Err-clause-complete g c = λ image m settled is well.
    let other : c.in-Err.fault ≡ NotAStore → ⊥ = λ e. no_two_stores IsStoreEntry image m is well (c.in-Err.ensures.no_store image settled.told (ap Err e)) in
    rw c.status_of_load.ensures (completes_none script_limit c.in-Err.fault _ _ other c.in-Err.ensures.loads)

-- ---- it was, and then the script was served

pub serve_heap-requires-after_bounds : goal.serve_heap-requires-after_bounds
serve_heap-requires-after_bounds g c κs within = c.in-Ok.ensures.usable

pub returns-clause-table : goal.returns-clause-table
returns-clause-table g c = λ image m settled is well.
    let loaded = c.in-Ok.ensures.loaded image settled.told in
    let t = c.serve_heap.ensures.table in
    let told = told_loaded (g.S.Disk.disk c.load_heap.new.disk) c.in-Ok.heap loaded.0 m (same_value _ _ (one_recovery image _ _ loaded.1 is)) in
    inl (
      (g.S.Disk.disk c.load_heap.new.disk).syncs - (g.S.Disk.disk c.args.site.now).syncs,
      load_syncs image (g.S.Disk.disk c.args.site.now) (g.S.Disk.disk c.load_heap.new.disk) c.load_heap.ensures.syncs (c.load_heap.ensures.needless image settled.told),
      (
        t.0,
        t.1,
        served_before statement_limit script_limit c.args.limit _ _ _ _ image m t.0 is told (settled_moments _ _ _ image settled (c.load_heap.ensures.moments image settled.told)) c.load_heap.ensures.loads.beside c.in-Ok.ensures.loads.cause (omega arith) t.2,
      ),
    )

pub returns-clause-foreign : goal.returns-clause-foreign
returns-clause-foreign g c = λ image settled none.
    let loaded = c.in-Ok.ensures.loaded image settled.told in
    absurd (no_two_stores IsStoreEntry image loaded.0.held loaded.1 (c.in-Ok.ensures.usable.entries loaded.0) none)

pub returns-clause-complete : goal.returns-clause-complete
returns-clause-complete g c = λ image m settled is well. completes_before script_limit c.serve_heap.result (g.S.Disk.disk c.args.site.now) (g.S.Disk.disk c.load_heap.new.disk) (g.S.Disk.disk c.serve_heap.new.site) c.load_heap.ensures.loads.beside c.in-Ok.ensures.loads.cause c.serve_heap.ensures.complete

-- ---- what its status tells, whatever was pending

pub returns-in-Err-clause-stores : goal.returns-in-Err-clause-stores
returns-in-Err-clause-stores g c = λ image told. rw c.status_of_load.ensures (load_tells image c.in-Err.fault (λ e. c.in-Err.ensures.no_store image told (ap Err e)) (λ is. rw is at (c.in-Err.ensures.answers image told)))

pub returns-clause-stores : goal.returns-clause-stores
returns-clause-stores g c = λ image told.
    let t = c.serve_heap.ensures.table in
    let loaded = c.in-Ok.ensures.loaded image told in
    serve_tells image loaded.0.held t.0 c.serve_heap.result t.1 loaded.1 (c.in-Ok.ensures.usable.entries loaded.0) (c.in-Ok.ensures.answers image told)
