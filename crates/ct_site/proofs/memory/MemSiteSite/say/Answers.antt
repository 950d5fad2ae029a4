use Rattle.std.proofs.Common.{◌≡◌, ◌++◌, ◌∷◌, [], List, false, length, sym, ap, subst, ◌∙◌, arith, length-append, refl}
use Rattle.std.proofs.lemmas.List.{take_all}
use Rattle.ct_site.specs.Disks.{Says}
use Rattle.ct_site.specs.Hearings.{Hearing}
use Rattle.ct_site.specs.Histories.{DiskChange, Said, DiskState, begun, disk_after, after-push, said_by}
use Rattle.ct_site.specs.Crashes.{AreWithin, within_after}
use Rattle.ct_site.specs.Logs.{LogState}
use Rattle.ct_site.specs.Places.{AreUpTo, hearings_at, hearings_at-push, hearings_at-with, up_to_log, up_to_with}
use Rattle.ct_site.specs.MemoryFields.{state_of}
use Rattle.ct_site.specs.Memory.{MemState, memory_view, hearings_of, after_say}
use Rattle.ct_site.specs.Changing.{says_of}
use Rattle.ct_site.proofs.memory.MemSiteSite.say.Goals as goal
use Rattle.ct_site.proofs.memory.MemSiteSite.say.Goals.{After-say}

kept : (c : After-say) → AreUpTo (length (said_by c.self-2.inside.log.changes)) c.keep_place.new.places.items
kept c =
    subst (AreUpTo (length (said_by c.self-2.inside.log.changes))) (sym c.keep_place.ensures.items)
    (up_to_with _ c.self-2.inside.hearings.items c.self-2.inside.has_asked (record { taken = c.self-2.inside.taken; said = c.said_count.result }) (omega (arith, c.said_count.ensures.count)) c.self-2.invariant.heard)

heard_is : (c : After-say) → hearings_at c.self-2.inside.script.items (said_by (c.self-2.inside.log.changes ++ Said c.args.bytes.now ∷ [])) c.keep_place.new.places.items ≡ hearings_of (state_of c.self-2.inside)
heard_is c =
    let s = c.self-2.inside in
    hearings_at-push s.script.items s.log.changes (Said c.args.bytes.now) c.keep_place.new.places.items (kept c)
    ∙ ap (hearings_at s.script.items (said_by s.log.changes)) c.keep_place.ensures.items
    ∙ hearings_at-with s.script.items (said_by s.log.changes) s.hearings.items s.has_asked (record { taken = s.taken; said = c.said_count.result }) c.said_count.ensures.count

new_is : (c : After-say)
    → record (state_of c.self-2.inside) {
      log = c.say.new.self.changes;
      rooms = c.say.new.self.rooms;
      written_bytes = c.say.new.self.written_bytes;
      hearings = hearings_at c.self-2.inside.script.items (said_by c.say.new.self.changes) c.keep_place.new.places.items;
      has_asked = false;
    }
    ≡ after_say c.args.self.now c.args.bytes.now
new_is c =
    let s = c.self-2.inside in
    ap (λ (l : LogState). record (state_of s) { log = l.changes; rooms = l.rooms; written_bytes = l.written_bytes; hearings = hearings_at s.script.items (said_by l.changes) c.keep_place.new.places.items; has_asked = false }) c.say.ensures
    ∙ ap (λ (hs : List Hearing). record (state_of s) { log = s.log.changes ++ Said c.args.bytes.now ∷ []; hearings = hs; has_asked = false }) (heard_is c)
    ∙ ap (λ (x : MemState). record x { log = x.log ++ Said c.args.bytes.now ∷ []; hearings = hearings_of x; has_asked = false }) (c.self-2.view_is ∙ c.count_say.ensures.counted)

pub invariant_of-self-2 : goal.invariant_of-self-2
invariant_of-self-2 c =
    let s = c.self-2.inside in
    let log = ap (λ (l : LogState). l.changes) c.say.ensures in
    let rooms = ap (λ (l : LogState). l.rooms) c.say.ensures in
    record {
      taken = c.self-2.invariant.taken;
      image =
          c.self-2.invariant.image ∙ sym (ap (λ (d : DiskState). d.image) (after-push (begun s.first.items) s.log.changes (Said c.args.bytes.now)))
          ∙ ap (λ (cs : List DiskChange). (disk_after (begun s.first.items) cs).image) (sym log);
      within = subst (AreWithin s.first.items) (sym log) (within_after s.first.items s.log.changes (Said c.args.bytes.now) c.self-2.invariant.within tt);
      image_room = rw rooms c.self-2.invariant.image_room;
      image_memory = rw rooms c.self-2.invariant.image_memory;
      heard = subst (λ (cs : List DiskChange). AreUpTo (length (said_by cs)) c.keep_place.new.places.items) (sym log) (up_to_log s.log.changes (Said c.args.bytes.now) c.keep_place.new.places.items (kept c));
      heard_few = omega (arith, ap length log, length-append s.log.changes (Said c.args.bytes.now ∷ []), c.keep_place.ensures.len, c.self-2.invariant.heard_few);
      heard_memory = rw rooms (omega (arith, c.keep_place.ensures.capacity, c.self-2.invariant.heard_memory));
    }

pub returns-clause-says : goal.returns-clause-says
returns-clause-says c =
    let b = c.args.bytes.now in
    rw (take_all (length b) b (omega arith)) (subst (λ (s : MemState). Says b (memory_view c.args.self.now) (memory_view s)) (sym (new_is c)) (says_of c.args.self.now b))

pub returns-clause-done : goal.returns-clause-done
returns-clause-done c = (refl, new_is c)
