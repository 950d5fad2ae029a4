-- A site in memory: what is known of it, which of its calls fail, and what each call leaves.
use Rattle.std.specs.Prelude.{◌≡◌, ℕ, ◌+◌, ◌^◌, ◌==◌, nat_le, nat_lt, Bool, true, false, ◌||◌, List, [], ◌∷◌, ◌++◌, length, drop, Option, Some, None, codes, refl}
use Rattle.std.specs.List.{list_any}
use Rattle.ct_site.specs.declared.fault_lists.Faults.{Faults}
use Rattle.ct_site.specs.declared.room_sizes.Rooms.{Rooms}
use Rattle.ct_site.specs.FaultCounts.{raised, raised_if}
use Rattle.ct_site.specs.Hearings.{Hearing, with_present}
use Rattle.ct_site.specs.Disks.{DiskView}
use Rattle.ct_site.specs.Histories.{DiskChange, Wrote, Synced, Said, begun, disk_after, said_by, timeline}

pub record MemState : Type 0 where
  -- what is left of the script
  pub left : List ℕ
  -- the image at the beginning, and the calls since then that changed something
  pub first : List ℕ
  pub log : List DiskChange
  -- which calls fail, and how much the site can hold
  pub faults : Faults
  pub rooms : Rooms
  -- how many calls were made, of all kinds and of each, up to 2^64 - 1
  pub calls : ℕ
  pub hear_calls : ℕ
  pub say_calls : ℕ
  pub disk_calls : ℕ
  -- the calls of `hear` before the last byte was heard or said, and whether there was one since
  pub hearings : List Hearing
  pub has_asked : Bool
  -- how many bytes `write_at` took
  pub written_bytes : ℕ
  -- how many calls of each kind failed, up to 2^64 - 1
  pub hear_faults : ℕ
  pub say_faults : ℕ
  pub disk_faults : ℕ
  -- how often `sync` was called, and how often `hear` answered that the script ends, up to 2^64 - 1
  pub syncs : ℕ
  pub ends : ℕ

-- the image as a read gives it, and the bytes said
abbrev pub image_of : MemState → List ℕ
image_of s = (disk_after (begun s.first) s.log).image

abbrev pub said_of : MemState → List ℕ
said_of s = said_by s.log

-- the calls of `hear` so far; one more between which and the last nothing was heard or said is left out
abbrev pub hearings_of : MemState → List Hearing
hearings_of s = with_present s.hearings s.has_asked s.left (said_of s)

-- what a site in memory tells: all
abbrev pub memory_view : MemState → DiskView
memory_view s = record {
  image = Some (image_of s);
  may_leave = (disk_after (begun s.first) s.log).may_leave;
  beside = record { left = Some s.left; said = Some (said_of s); hearings = Some (hearings_of s); ends = s.ends; hear_faults = s.hear_faults; say_faults = s.say_faults };
  time = timeline s.first s.log;
  faults = s.disk_faults;
  syncs = s.syncs;
}

abbrev pub no_faults : Faults
no_faults = record { hear = []; say = []; disk = []; stop = None }

-- a site on which no call was made
abbrev pub fresh : List ℕ → List ℕ → Faults → Rooms → MemState
fresh script image faults rooms = record {
  left = script;
  first = image;
  log = [];
  faults = faults;
  rooms = rooms;
  calls = 0;
  hear_calls = 0;
  say_calls = 0;
  disk_calls = 0;
  hearings = [];
  has_asked = false;
  written_bytes = 0;
  hear_faults = 0;
  say_faults = 0;
  disk_faults = 0;
  syncs = 0;
  ends = 0;
}

-- whether the call after so many calls is listed as one that fails
abbrev pub is_listed : ℕ → List ℕ → Bool
is_listed calls numbers = list_any (λ n. n == raised calls) numbers

-- whether after so many calls all later ones fail
abbrev pub is_past : Option ℕ → ℕ → Bool
is_past None calls = false
is_past (Some last) calls = nat_le last calls

abbrev pub is_stopped : MemState → Bool
is_stopped s = is_past s.faults.stop s.calls

-- whether one more change would pass the room for them
abbrev pub change_passes : MemState → Bool
change_passes s = nat_lt s.rooms.calls (length s.log + 1)

-- whether saying so many bytes would pass a room
abbrev pub say_passes : MemState → ℕ → Bool
say_passes s n = change_passes s || nat_lt s.rooms.said (length (said_of s) + n)

-- whether writing so many bytes at this place would pass a room, or end past 2^43 bytes
abbrev pub write_passes : MemState → ℕ → ℕ → Bool
write_passes s at n =
    change_passes s || (nat_lt s.rooms.written (s.written_bytes + n) || (nat_lt s.rooms.image (at + n) || nat_lt (2 ^ 43) (at + n)))

-- whether the next call fails: of hearing, of saying so many bytes, of telling the size or reading, of writing so many bytes
-- at this place, and of syncing
abbrev pub hear_fails : MemState → Bool
hear_fails s = is_stopped s || is_listed s.hear_calls s.faults.hear

abbrev pub say_faulty : MemState → Bool
say_faulty s = is_stopped s || is_listed s.say_calls s.faults.say

abbrev pub say_fails : MemState → ℕ → Bool
say_fails s n = say_faulty s || say_passes s n

abbrev pub look_fails : MemState → Bool
look_fails s = is_stopped s || is_listed s.disk_calls s.faults.disk

abbrev pub write_fails : MemState → ℕ → ℕ → Bool
write_fails s at n = look_fails s || write_passes s at n

abbrev pub sync_fails : MemState → Bool
sync_fails s = look_fails s || change_passes s

-- the state after a call was counted
abbrev pub hear_counted : MemState → MemState
hear_counted s = record s { calls = raised s.calls; hear_calls = raised s.hear_calls }

abbrev pub say_counted : MemState → MemState
say_counted s = record s { calls = raised s.calls; say_calls = raised s.say_calls }

abbrev pub disk_counted : MemState → MemState
disk_counted s = record s { calls = raised s.calls; disk_calls = raised s.disk_calls }

abbrev pub sync_counted : MemState → MemState
sync_counted s = record s { calls = raised s.calls; disk_calls = raised s.disk_calls; syncs = raised s.syncs }

-- after each call that failed
abbrev pub hear_failed : MemState → MemState
hear_failed s = record s { calls = raised s.calls; hear_calls = raised s.hear_calls; has_asked = true; hear_faults = raised s.hear_faults }

abbrev pub say_failed : MemState → MemState
say_failed s = record s { calls = raised s.calls; say_calls = raised s.say_calls; say_faults = raised s.say_faults }

abbrev pub disk_failed : MemState → MemState
disk_failed s = record s { calls = raised s.calls; disk_calls = raised s.disk_calls; disk_faults = raised s.disk_faults }

abbrev pub sync_failed : MemState → MemState
sync_failed s = record s { calls = raised s.calls; disk_calls = raised s.disk_calls; disk_faults = raised s.disk_faults; syncs = raised s.syncs }

-- after so many bytes of the script were heard
abbrev pub heard : MemState → ℕ → MemState
heard s count = record s {
  calls = raised s.calls;
  hear_calls = raised s.hear_calls;
  left = drop count s.left;
  hearings = with_present s.hearings (nat_lt 0 count) s.left (said_of s);
  has_asked = count == 0;
  ends = raised_if (count == 0) s.ends;
}

-- after these bytes were said
abbrev pub after_say : MemState → List ℕ → MemState
after_say s bytes = record s {
  calls = raised s.calls;
  say_calls = raised s.say_calls;
  log = s.log ++ Said bytes ∷ [];
  hearings = hearings_of s;
  has_asked = false;
}

-- after the size was told, or bytes were read
abbrev pub looked : MemState → MemState
looked s = disk_counted s

-- after these bytes were written at this place
abbrev pub wrote : MemState → ℕ → List ℕ → MemState
wrote s at bytes = record s {
  calls = raised s.calls;
  disk_calls = raised s.disk_calls;
  log = s.log ++ Wrote at bytes ∷ [];
  written_bytes = s.written_bytes + length bytes;
}

abbrev pub after_sync : MemState → MemState
after_sync s = record s { calls = raised s.calls; disk_calls = raised s.disk_calls; log = s.log ++ Synced ∷ []; syncs = raised s.syncs }

-- ---- computed examples, on a site whose second hearing, first saying and third call of the disk fail
abbrev example : MemState
example = fresh (codes "abc") (codes "xy") (record { hear = 2 ∷ []; say = 1 ∷ []; disk = 3 ∷ []; stop = None }) (record { image = 4; said = 2; calls = 2; written = 3 })

hearing : hear_fails example ≡ false
hearing = refl

hearing_again : hear_fails (heard example 2) ≡ true
hearing_again = refl

after_a_fault : hear_failed (heard example 2) ≡ record example {
  left = codes "c";
  calls = 2;
  hear_calls = 2;
  hearings = record { left = codes "abc"; said = [] } ∷ [];
  has_asked = true;
  hear_faults = 1;
}
after_a_fault = refl

-- the second hearing failed, and was tried again after a saying
hearings_told : hearings_of (heard (after_say (hear_failed (heard example 2)) (codes "ok")) 1)
    ≡ record { left = codes "abc"; said = [] } ∷ record { left = codes "c"; said = [] } ∷ record { left = codes "c"; said = codes "ok" } ∷ []
hearings_told = refl

saying : say_fails example 1 ≡ true
saying = refl

saying_past_room : say_fails (say_failed example) 3 ≡ true
saying_past_room = refl

writing : write_fails example 2 2 ≡ false
writing = refl

after_writing : image_of (wrote example 1 (codes "zz")) ≡ codes "xzz"
after_writing = refl

writing_past_room : write_fails example 2 3 ≡ true
writing_past_room = refl

third_call : sync_fails (looked (wrote example 0 (codes "z"))) ≡ true
third_call = refl

synced_once : (memory_view (after_sync example)).syncs ≡ 1
synced_once = refl

end_told_once : (memory_view (heard (heard example 3) 0)).beside.ends ≡ 1
end_told_once = refl

third_change : change_passes (after_sync (after_say example (codes "ok"))) ≡ true
third_change = refl

-- on one that stops after two calls
abbrev stopping : MemState
stopping = record example { faults = record { hear = []; say = []; disk = []; stop = Some 2 } }

second_call_goes : look_fails (heard stopping 2) ≡ false
second_call_goes = refl

third_call_fails : hear_fails (looked (heard stopping 2)) ≡ true
third_call_fails = refl
