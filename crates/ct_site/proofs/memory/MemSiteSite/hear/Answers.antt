-- What was left before is what the buffer holds now, and then what is left now.
use Rattle.std.proofs.Common.{◌≡◌, ◌+◌, ◌-◌, ◌++◌, [], ℕ, List, true, nat_eq, nat_lt, length, take, drop, refl, sym, ap, subst, ◌∙◌, arith, drop-drop}
use Rattle.ct_site.specs.FaultCounts.{raised, raised_if}
use Rattle.ct_site.specs.Disks.{Hears}
use Rattle.ct_site.specs.Hearings.{Hearing, with_present}
use Rattle.ct_site.specs.Histories.{said_by}
use Rattle.ct_site.specs.Memory.{MemState, memory_view, heard, hear_failed}
use Rattle.ct_site.specs.MemoryFields.{state_of}
use Rattle.ct_site.specs.Places.{AreUpTo, hearings_at, hearings_at-with, up_to_with}
use Rattle.ct_site.specs.Changing.{hears_of, hears_failed}
use Rattle.ct_site.proofs.Heard.{heard_prefix, kept_some, few_kept}
use Rattle.ct_site.proofs.memory.MemSiteSite.hear.Goals as goal

pub returns-then-count_hear-clause-hears : goal.returns-then-count_hear-clause-hears
returns-then-count_hear-clause-hears c =
    subst (λ (x : MemState). Hears [] (memory_view c.args.self.now) (memory_view x))
    (sym (ap (λ (x : MemState). record x { has_asked = true; hear_faults = c.count_fault.new.faults }) (c.self.view_is ∙ c.count_hear.ensures.counted) ∙ ap (λ (n : ℕ). record (hear_failed c.args.self.now) { hear_faults = n }) (c.count_fault.ensures.raised ∙ ap (λ (x : MemState). raised x.hear_faults) (c.self.view_is ∙ c.count_hear.ensures.counted))))
    (hears_failed c.args.self.now)

pub keep_place-requires : goal.keep_place-requires
keep_place-requires c = λ some.
    let n = kept_some c.min-count.result some in
    omega (arith, n, c.said_count.ensures.room, c.self.invariant.heard_few, c.self.invariant.heard_memory, c.min-count.ensures)

pub invariant_of-self-2 : goal.invariant_of-self-2
invariant_of-self-2 c =
    let few = few_kept c.self.inside.hearings.items (nat_lt 0 c.min-count.result) (record { taken = c.self.inside.taken; said = c.said_count.result }) c.min-count.result refl in
    record {
      taken = omega (arith, c.min-count.ensures);
      image = c.self.invariant.image;
      within = c.self.invariant.within;
      image_room = c.self.invariant.image_room;
      image_memory = c.self.invariant.image_memory;
      heard = subst (AreUpTo (length (said_by c.self.inside.log.changes))) (sym c.keep_place.ensures.items) (up_to_with _ c.self.inside.hearings.items _ _ (omega (arith, c.said_count.ensures.count)) c.self.invariant.heard);
      heard_few = omega (arith, ap length c.keep_place.ensures.items, few, c.self.invariant.heard_few);
      heard_memory = omega (arith, c.keep_place.ensures.capacity, c.self.invariant.heard_memory);
    }

pub returns-clause-hears : goal.returns-clause-hears
returns-clause-hears c =
    let s = c.self.inside in
    let n = c.min-count.result in
    let ends = c.count_end.new.ends in
    let bytes = take n (c.copy_from_slice.new.self ++ drop n c.args.into.now) in
    let m : s.taken + n - s.taken ≡ n = omega arith in
    let later : drop (s.taken + n) s.script.items ≡ drop n (drop s.taken s.script.items) = sym (drop-drop n s.taken s.script.items) in
    let prefix = heard_prefix s.script.items c.copy_from_slice.new.self c.args.into.now s.taken n (omega arith) (rw (m, c.deref.ensures.value) at c.copy_from_slice.ensures.after) in
    let same = c.self.view_is ∙ c.count_hear.ensures.counted in
    let left : c.args.self.now.left ≡ drop s.taken s.script.items = ap (λ (x : MemState). x.left) (sym same) in
    let kept : hearings_at s.script.items (said_by s.log.changes) c.keep_place.new.places.items ≡ with_present (state_of s).hearings (nat_lt 0 n) (drop s.taken s.script.items) (said_by s.log.changes) =
    ap (hearings_at s.script.items (said_by s.log.changes)) c.keep_place.ensures.items ∙ hearings_at-with s.script.items (said_by s.log.changes) s.hearings.items (nat_lt 0 n) (record { taken = s.taken; said = c.said_count.result }) c.said_count.ensures.count in
    let new_is : record (state_of s) { left = drop (s.taken + n) s.script.items; hearings = hearings_at s.script.items (said_by s.log.changes) c.keep_place.new.places.items; has_asked = nat_eq n 0; ends = ends } ≡ heard c.args.self.now n =
    ap (λ (k : ℕ). record (state_of s) { left = drop (s.taken + n) s.script.items; hearings = hearings_at s.script.items (said_by s.log.changes) c.keep_place.new.places.items; has_asked = nat_eq n 0; ends = k }) c.count_end.ensures
    ∙ ap (λ (l : List ℕ). record (state_of s) { left = l; hearings = hearings_at s.script.items (said_by s.log.changes) c.keep_place.new.places.items; has_asked = nat_eq n 0; ends = raised_if (nat_eq n 0) s.ends }) later
    ∙ ap (λ (hs : List Hearing). record (state_of s) { left = drop n (drop s.taken s.script.items); hearings = hs; has_asked = nat_eq n 0; ends = raised_if (nat_eq n 0) s.ends }) kept
    ∙ ap (λ (x : MemState). record x { left = drop n x.left; hearings = with_present x.hearings (nat_lt 0 n) x.left (said_by x.log); has_asked = nat_eq n 0; ends = raised_if (nat_eq n 0) x.ends }) same in
    subst (λ (x : MemState). Hears bytes (memory_view c.args.self.now) (memory_view x)) (sym new_is)
    (hears_of c.args.self.now bytes n (left ∙ prefix ∙ ap (λ (l : List ℕ). bytes ++ l) (later ∙ ap (λ (l : List ℕ). drop n l) (sym left))))
