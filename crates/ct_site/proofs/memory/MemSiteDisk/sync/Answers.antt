use Rattle.std.proofs.Common.{◌≡◌, ◌++◌, ◌∷◌, [], List, Ok, sym, ap, subst, ◌∙◌, length, arith, length-append}
use Rattle.ct_site.specs.Disks.{IsSync}
use Rattle.ct_site.specs.Histories.{DiskChange, Synced, DiskState, begun, disk_after, after-push, said_by}
use Rattle.ct_site.specs.Crashes.{AreWithin, within_after}
use Rattle.ct_site.specs.Logs.{LogState}
use Rattle.ct_site.specs.Places.{AreUpTo, up_to_log}
use Rattle.ct_site.specs.MemoryFields.{with_log, with_log-push}
use Rattle.ct_site.specs.Memory.{MemState, memory_view, after_sync}
use Rattle.ct_site.specs.Changing.{made_sync}
use Rattle.ct_site.proofs.memory.MemSiteDisk.sync.Goals as goal
use Rattle.ct_site.proofs.memory.MemSiteDisk.sync.Goals.{After-sync}

new_is : (c : After-sync) → with_log c.self-2.inside c.sync.new.self ≡ after_sync c.args.self.now
new_is c =
    ap (with_log c.self-2.inside) c.sync.ensures
    ∙ with_log-push c.self-2.inside Synced c.self-2.inside.log.written_bytes c.self-2.invariant.heard
    ∙ ap (λ (x : MemState). record x { log = x.log ++ Synced ∷ [] }) (c.self-2.view_is ∙ c.count_sync.ensures.counted)

pub invariant_of-self-2 : goal.invariant_of-self-2
invariant_of-self-2 c =
    let s = c.self-2.inside in
    let log = ap (λ (l : LogState). l.changes) c.sync.ensures in
    let rooms = ap (λ (l : LogState). l.rooms) c.sync.ensures in
    record {
      taken = c.self-2.invariant.taken;
      image =
          c.self-2.invariant.image ∙ sym (ap (λ (d : DiskState). d.image) (after-push (begun s.first.items) s.log.changes Synced))
          ∙ ap (λ (cs : List DiskChange). (disk_after (begun s.first.items) cs).image) (sym log);
      within = subst (AreWithin s.first.items) (sym log) (within_after s.first.items s.log.changes Synced c.self-2.invariant.within tt);
      image_room = rw rooms c.self-2.invariant.image_room;
      image_memory = rw rooms c.self-2.invariant.image_memory;
      heard = subst (λ (cs : List DiskChange). AreUpTo (length (said_by cs)) s.hearings.items) (sym log) (up_to_log s.log.changes Synced s.hearings.items c.self-2.invariant.heard);
      heard_few = omega (arith, ap length log, length-append s.log.changes (Synced ∷ []), c.self-2.invariant.heard_few);
      heard_memory = rw rooms c.self-2.invariant.heard_memory;
    }

pub returns-clause-sync : goal.returns-clause-sync
returns-clause-sync c = subst (λ (s : MemState). IsSync {T = Unit {0}} (memory_view c.args.self.now) (memory_view s) (Ok tt)) (sym (new_is c)) (made_sync c.args.self.now)

pub returns-clause-done : goal.returns-clause-done
returns-clause-done c = new_is c
