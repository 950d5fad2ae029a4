use Rattle.std.proofs.Common.{◌≡◌, ◌≤◌, ◌+◌, ◌++◌, ◌∷◌, [], List, ℕ, Ok, length, refl, sym, ap, subst, ◌∙◌, arith, length-append}
use Rattle.std.proofs.lemmas.Bool.{ltb-false}
use Rattle.ct_site.specs.Images.{written}
use Rattle.ct_site.specs.Pieces.{length-written}
use Rattle.ct_site.specs.Writing.{IsWrite}
use Rattle.ct_site.specs.Histories.{DiskChange, Wrote, DiskState, begun, disk_after, after-push, said_by}
use Rattle.ct_site.specs.Crashes.{AreWithin, within_after}
use Rattle.ct_site.specs.Logs.{LogState}
use Rattle.ct_site.specs.Places.{AreUpTo, up_to_log}
use Rattle.ct_site.specs.MemoryFields.{state_of, with_log, with_log-push}
use Rattle.ct_site.specs.Memory.{MemState, memory_view, image_of, wrote}
use Rattle.ct_site.specs.Changing.{made_write}
use Rattle.ct_site.proofs.Growing.{passes_none, short_write}
use Rattle.ct_site.proofs.memory.MemSiteDisk.write_at.Goals as goal
use Rattle.ct_site.proofs.memory.MemSiteDisk.write_at.Goals.{After-write}

new_is : (c : After-write) → with_log c.self-2.inside c.write.new.self ≡ wrote c.args.self.now c.args.at c.args.bytes.now
new_is c =
    ap (with_log c.self-2.inside) c.write.ensures
    ∙ with_log-push c.self-2.inside (Wrote c.args.at c.args.bytes.now) (c.self-2.inside.log.written_bytes + length c.args.bytes.now) c.self-2.invariant.heard
    ∙ ap (λ (x : MemState). record x { log = x.log ++ Wrote c.args.at c.args.bytes.now ∷ []; written_bytes = x.written_bytes + length c.args.bytes.now }) (c.self-2.view_is ∙ c.count_disk.ensures.counted)

pub invariant_of-self-2 : goal.invariant_of-self-2
invariant_of-self-2 c =
    let s = c.self-2.inside in
    let log = ap (λ (l : LogState). l.changes) c.write.ensures in
    let same : image_of (state_of s) ≡ image_of c.args.self.now = ap image_of (c.self-2.view_is ∙ c.count_disk.ensures.counted) in
    let begins : c.args.at ≤ length (image_of (state_of s)) = subst (λ (l : List ℕ). c.args.at ≤ length l) (sym same) (c.requires.within (image_of c.args.self.now) refl) in
    let long = length-written c.args.at c.args.bytes.now (image_of (state_of s)) begins in
    let was = ap length c.self-2.invariant.image in
    let now = ap length (c.overwrite.ensures.items ∙ ap (written c.args.at c.args.bytes.now) c.self-2.invariant.image) in
    let rooms = ap (λ (l : LogState). l.rooms.image) c.write.ensures in
    let counted = ap (λ (x : MemState). x.rooms.image) c.self-2.view_is in
    let fits : c.args.at + length c.args.bytes.now ≤ c.count_disk.new.self.rooms.image = ltb-false c.count_disk.new.self.rooms.image (c.args.at + length c.args.bytes.now) (passes_none _ _ _ _ _ c.if-not-may_write.false c.may_write.ensures) in
    record {
      taken = c.self-2.invariant.taken;
      image =
          c.overwrite.ensures.items ∙ ap (written c.args.at c.args.bytes.now) c.self-2.invariant.image
          ∙ sym (ap (λ (d : DiskState). d.image) (after-push (begun s.first.items) s.log.changes (Wrote c.args.at c.args.bytes.now)))
          ∙ ap (λ (cs : List DiskChange). (disk_after (begun s.first.items) cs).image) (sym log);
      within = subst (AreWithin s.first.items) (sym log) (within_after s.first.items s.log.changes (Wrote c.args.at c.args.bytes.now) c.self-2.invariant.within (begins, tt));
      image_room = omega (arith, long, was, now, rooms, counted, fits, c.self-2.invariant.image_room);
      image_memory = omega (arith, rooms, c.overwrite.ensures.capacity, c.self-2.invariant.image_memory);
      heard = subst (λ (cs : List DiskChange). AreUpTo (length (said_by cs)) s.hearings.items) (sym log) (up_to_log s.log.changes (Wrote c.args.at c.args.bytes.now) s.hearings.items c.self-2.invariant.heard);
      heard_few = omega (arith, ap length log, length-append s.log.changes (Wrote c.args.at c.args.bytes.now ∷ []), c.self-2.invariant.heard_few);
      heard_memory = rw (ap (λ (l : LogState). l.rooms) c.write.ensures) c.self-2.invariant.heard_memory;
    }

pub returns-clause-write : goal.returns-clause-write
returns-clause-write c =
    let short = short_write c.count_disk.new.self c.args.at (length c.args.bytes.now) c.may_write.result c.if-not-may_write.false c.may_write.ensures in
    subst (λ (s : MemState). IsWrite {T = Unit {0}} c.args.at c.args.bytes.now (memory_view c.args.self.now) (memory_view s) (Ok tt)) (sym (new_is c))
    (made_write c.args.self.now c.args.at c.args.bytes.now (c.requires.within (image_of c.args.self.now) refl) short)

pub returns-clause-done : goal.returns-clause-done
returns-clause-done c = new_is c
