-- What the calls of a site in memory make of what is known of it.
use Rattle.std.specs.Prelude.{◌≡◌, ℕ, zero, suc, ◌+◌, ◌^◌, ◌≤◌, ◌==◌, nat_lt, List, [], ◌∷◌, ◌++◌, length, Option, Some, is_some, true, false, Ok, refl}
use Rattle.std.specs.List.{Contains}
use Rattle.std.proofs.Common.{inl, inr, ⊎_elim, sym, ◌∙◌, ap, subst, arith, append-nil}
use Rattle.ct_base.specs.laws.Moments.{grows_itself, adds_nothing_itself}
use Rattle.ct_site.specs.Images.{written, Torn}
use Rattle.ct_site.specs.Pieces.{torn_written}
use Rattle.ct_site.specs.FaultCounts.{raised}
use Rattle.ct_site.specs.Hearings.{Hearing, WasCalled, with_present, present_there, present_adds, present_keeps}
use Rattle.ct_site.specs.Disks.{DiskView, Beside, IsNow, FollowsBy, IsSync, Works, Leaves, Asks, Hears, Says}
use Rattle.ct_site.specs.Writing.{IsWrite}
use Rattle.ct_site.specs.laws.Lengths.{grows_written}
use Rattle.ct_site.specs.Histories.{DiskChange, Wrote, Synced, Said, DiskState, begun, next, disk_after, said_in, said_by, after-push, said_by-push, image_left, timeline, moment_now, left_now, said_now, keeps_push, passes_push}
use Rattle.ct_site.specs.Memory.{MemState, memory_view, image_of, said_of, hearings_of, wrote, after_sync, after_say, heard, hear_failed}

some_same : {x y : List ℕ} → Some x ≡ Some y → x ≡ y
some_same e = cc

-- a crash may leave what a read gives
pub may_stay : (s : MemState) (image : List ℕ) → (memory_view s).image ≡ Some image → (memory_view s).may_leave image
may_stay s image is = subst (memory_view s).may_leave (some_same is) (image_left (begun s.first) s.log refl)

-- the present is a moment, and since now the only one
pub counts_now : (s : MemState) (t : ℕ) (image said : List ℕ) → t ≤ length s.log → IsNow (memory_view s) image said → (memory_view s).time.since t image said
counts_now s t image said le now = moment_now s.first s.log t image said le now.0 (sym (some_same now.1))

pub only_now : (s : MemState) (image said : List ℕ) → (memory_view s).time.since (length s.log) image said → IsNow (memory_view s) image said
only_now s image said m = (left_now s.first s.log image said m, ap Some (sym (said_now s.first s.log image said m)))

-- what is known after one call more that is logged, and this count of syncs
abbrev pub pushed : MemState → ℕ → DiskChange → DiskView
pushed s n c = record {
  image = Some (next (disk_after (begun s.first) s.log) c).image;
  may_leave = (next (disk_after (begun s.first) s.log) c).may_leave;
  beside = record { left = Some s.left; said = Some (said_by s.log ++ said_in c); hearings = Some (with_present s.hearings s.has_asked s.left (said_by s.log ++ said_in c)); ends = s.ends; hear_faults = s.hear_faults; say_faults = s.say_faults };
  time = timeline s.first (s.log ++ c ∷ []);
  faults = s.disk_faults;
  syncs = n;
}

view_pushed : (s : MemState) (n : ℕ) (c : DiskChange) → memory_view (record s { log = s.log ++ c ∷ []; syncs = n }) ≡ pushed s n c
view_pushed s n c =
    let state = after-push (begun s.first) s.log c in
    let said = said_by-push s.log c in
    λ i. record {
      image = Some (state i).image;
      may_leave = (state i).may_leave;
      beside = record { left = Some s.left; said = Some (said i); hearings = Some (with_present s.hearings s.has_asked s.left (said i)); ends = s.ends; hear_faults = s.hear_faults; say_faults = s.say_faults };
      time = timeline s.first (s.log ++ c ∷ []);
      faults = s.disk_faults;
      syncs = n;
    }

works_push : (s : MemState) (n : ℕ) (c : DiskChange) → said_in c ≡ [] → Works {T = Unit {0}} (memory_view s) (pushed s n c) (Ok tt)
works_push s n c nothing = record {
  beside = ap (λ (l : List ℕ). record { left = Some s.left; said = Some l; hearings = Some (with_present s.hearings s.has_asked s.left l); ends = s.ends; hear_faults = s.hear_faults; say_faults = s.say_faults }) (ap (λ (l : List ℕ). said_by s.log ++ l) nothing ∙ append-nil (said_by s.log));
  untold = λ none. absurd (cc none);
  kept = keeps_push s.first s.log c;
  cause = record { later = omega arith; passed = refl; failed = tt };
}

leaves_push : (s : MemState) (n : ℕ) (c : DiskChange) (P : List ℕ → Type 0) → said_in c ≡ [] → ((image : List ℕ) → (next (disk_after (begun s.first) s.log) c).may_leave image → P image) → Leaves (memory_view s) (pushed s n c) P
leaves_push s n c P nothing here = record {
  beside = (works_push s n c nothing).beside;
  time = passes_push s.first s.log c _ (λ image said now told. (here image now, ap Some (sym (told ∙ ap (λ (l : List ℕ). said_by s.log ++ l) nothing ∙ append-nil (said_by s.log)))));
  now = here;
}

-- ---- a write
crash_pushed : (s : MemState) (at : ℕ) (bytes : List ℕ) → at ≤ length (image_of s) → FollowsBy (Torn at (length bytes)) (memory_view s).may_leave (pushed s s.syncs (Wrote at bytes)).may_leave
crash_pushed s at bytes within x (inl is) = (image_of s, image_left (begun s.first) s.log refl, subst (λ (y : List ℕ). Torn at (length bytes) (image_of s) y) (sym is) (torn_written at bytes (image_of s) within))
crash_pushed s at bytes within x (inr torn) = (torn.from, torn.left, torn.torn)

write_works : (s : MemState) (at : ℕ) (bytes : List ℕ) → Works {T = Unit {0}} (memory_view s) (memory_view (wrote s at bytes)) (Ok tt)
write_works s at bytes = subst (λ (v : DiskView). Works {T = Unit {0}} (memory_view s) v (Ok tt)) (sym (view_pushed s s.syncs (Wrote at bytes))) (works_push s s.syncs (Wrote at bytes) refl)

write_leaves : (s : MemState) (at : ℕ) (bytes : List ℕ) → Leaves (memory_view s) (memory_view (wrote s at bytes)) (memory_view (wrote s at bytes)).may_leave
write_leaves s at bytes = subst (λ (v : DiskView). Leaves (memory_view s) v v.may_leave) (sym (view_pushed s s.syncs (Wrote at bytes))) (leaves_push s s.syncs (Wrote at bytes) _ refl (λ image now. now))

write_crash : (s : MemState) (at : ℕ) (bytes : List ℕ) → at ≤ length (image_of s) → FollowsBy (Torn at (length bytes)) (memory_view s).may_leave (memory_view (wrote s at bytes)).may_leave
write_crash s at bytes within = subst (λ (v : DiskView). FollowsBy (Torn at (length bytes)) (memory_view s).may_leave v.may_leave) (sym (view_pushed s s.syncs (Wrote at bytes))) (crash_pushed s at bytes within)

write_image : (s : MemState) (at : ℕ) (bytes : List ℕ) → image_of (wrote s at bytes) ≡ written at bytes (image_of s)
write_image s at bytes = ap (λ (d : DiskState). d.image) (after-push (begun s.first) s.log (Wrote at bytes))

-- all that it does
pub made_write : (s : MemState) (at : ℕ) (bytes : List ℕ) → at ≤ length (image_of s) → at + length bytes ≤ 2 ^ 43 → IsWrite {T = Unit {0}} at bytes (memory_view s) (memory_view (wrote s at bytes)) (Ok tt)
made_write s at bytes within short = record {
  is = ap Some (write_image s at bytes);
  too_far = λ long. absurd (omega (arith, long, short));
  crash = write_crash s at bytes within;
  leaves = write_leaves s at bytes;
  grows = grows_written at bytes (memory_view s) (memory_view (wrote s at bytes)) (record { least = λ image told. subst (λ (l : List ℕ). at ≤ length l) (some_same told) within }) (ap Some (write_image s at bytes));
  syncs = refl;
  works = write_works s at bytes;
}

-- ---- a sync
only_image : (s : MemState) (x : List ℕ) → x ≡ image_of s → (memory_view s).may_leave x
only_image s x is = subst (memory_view s).may_leave (sym is) (image_left (begun s.first) s.log refl)

sync_works : (s : MemState) → Works {T = Unit {0}} (memory_view s) (memory_view (after_sync s)) (Ok tt)
sync_works s = subst (λ (v : DiskView). Works {T = Unit {0}} (memory_view s) v (Ok tt)) (sym (view_pushed s (raised s.syncs) Synced)) (works_push s (raised s.syncs) Synced refl)

sync_leaves : (s : MemState) → Leaves (memory_view s) (memory_view (after_sync s)) (memory_view s).may_leave
sync_leaves s = subst (λ (v : DiskView). Leaves (memory_view s) v (memory_view s).may_leave) (sym (view_pushed s (raised s.syncs) Synced)) (leaves_push s (raised s.syncs) Synced _ refl (only_image s))

sync_image : (s : MemState) → image_of (after_sync s) ≡ image_of s
sync_image s = ap (λ (d : DiskState). d.image) (after-push (begun s.first) s.log Synced)

sync_durable : (s : MemState) (image x : List ℕ) → Some (image_of s) ≡ Some image → (memory_view (after_sync s)).may_leave x → x ≡ image
sync_durable s image x told = subst (λ (d : DiskState). d.may_leave x → x ≡ image) (sym (after-push (begun s.first) s.log Synced)) (λ is. is ∙ some_same told)

sync_crash : (s : MemState) (x : List ℕ) → (memory_view (after_sync s)).may_leave x → (memory_view s).may_leave x
sync_crash s x = subst (λ (d : DiskState). d.may_leave x → (memory_view s).may_leave x) (sym (after-push (begun s.first) s.log Synced)) (only_image s x)

-- all that it does
pub made_sync : (s : MemState) → IsSync {T = Unit {0}} (memory_view s) (memory_view (after_sync s)) (Ok tt)
made_sync s = record {
  durable = λ image told left. sync_durable s image left told;
  image = ap Some (sync_image s);
  crash = sync_crash s;
  leaves = sync_leaves s;
  syncs = refl;
  works = sync_works s;
}

-- ---- hearing and saying
asks_present : (s : MemState) (new : Beside) → new.hearings ≡ Some (with_present s.hearings true s.left (said_of s)) → Asks (memory_view s).beside new
asks_present s new is = record {
  told = ap is_some is;
  keeps = λ h was. subst (λ (o : Option (List Hearing)). WasCalled o h) (sym is) (present_keeps s.hearings s.has_asked s.left (said_of s) h was);
  notes = λ h told here. subst (λ (o : Option (List Hearing)). WasCalled o h) (sym is) (note h here.0 here.1);
  adds = λ h now. ⊎_elim inl (λ e. inr (ap (λ (x : Hearing). Some x.left) (sym e), ap (λ (x : Hearing). Some x.said) (sym e))) (present_adds s.hearings s.has_asked s.left (said_of s) h (subst (λ (o : Option (List Hearing)). WasCalled o h) is now));
}
  where
    note : (h : Hearing) → Some s.left ≡ Some h.left → Some (said_of s) ≡ Some h.said → Contains (with_present s.hearings true s.left (said_of s)) h
    note h left said =
        let same : record { left = s.left; said = said_of s } ≡ h = λ i. record { left = some_same left i; said = some_same said i } in
        subst (Contains (with_present s.hearings true s.left (said_of s))) same (present_there s.hearings s.left (said_of s))

some_taken : (n : ℕ) → nat_lt 0 (suc n) ≡ true
some_taken n = grind arith

not_none : (n : ℕ) → (suc n == 0) ≡ false
not_none n = grind arith

told_heard : (s : MemState) (count : ℕ) → hearings_of (heard s count) ≡ with_present s.hearings true s.left (said_of s)
told_heard s zero = refl
told_heard s (suc n) = rw (some_taken n, not_none n) refl

pub hears_failed : (s : MemState) → Hears [] (memory_view s) (memory_view (hear_failed s))
hears_failed s = record {
  left = refl;
  said = refl;
  asks = asks_present s (memory_view (hear_failed s)).beside refl;
  say_faults = refl;
  same = record { image = refl; crash = λ image now. now; time = adds_nothing_itself (timeline s.first s.log); syncs = refl };
  kept = grows_itself (timeline s.first s.log);
  faults = refl;
}

pub hears_of : (s : MemState) (bytes : List ℕ) (count : ℕ) → s.left ≡ bytes ++ (heard s count).left → Hears bytes (memory_view s) (memory_view (heard s count))
hears_of s bytes count is = record {
  left = ap Some is;
  said = refl;
  asks = asks_present s (memory_view (heard s count)).beside (ap Some (told_heard s count));
  say_faults = refl;
  same = record { image = refl; crash = λ image now. now; time = adds_nothing_itself (timeline s.first s.log); syncs = refl };
  kept = grows_itself (timeline s.first s.log);
  faults = refl;
}

pub says_of : (s : MemState) (bytes : List ℕ) → Says bytes (memory_view s) (memory_view (after_say s bytes))
says_of s bytes = subst (λ (v : DiskView). Says bytes (memory_view s) v) (sym (view_pushed (record s { hearings = hearings_of s; has_asked = false }) s.syncs (Said bytes))) (record {
  said = refl;
  left = refl;
  hearings = refl;
  ends = refl;
  hear_faults = refl;
  image = refl;
  crash = λ image now. now;
  time = passes_push s.first s.log (Said bytes) _ (λ image said now told. (now, record { part = bytes; later = []; split = sym (append-nil bytes); is = ap Some (sym told) }));
  kept = keeps_push s.first s.log (Said bytes);
  faults = refl;
  syncs = refl;
})
