-- The fields of a site in memory.
use Rattle.std.specs.Prelude.{◌≡◌, ℕ, ◌≤◌, ◌+◌, ◌++◌, ◌∷◌, [], List, length, drop, vec_len, refl}
use Rattle.std.proofs.Common.{ap}
use Rattle.std.specs.Vec.{vec_capacity}
use Rattle.ct_site.specs.declared.memory.MemSite.TheInside.{Inside}
use Rattle.ct_site.specs.Histories.{DiskChange, begun, disk_after, said_by}
use Rattle.ct_site.specs.Hearings.{Hearing}
use Rattle.ct_site.specs.Places.{AreUpTo, hearings_at, hearings_at-push}
use Rattle.ct_site.specs.Crashes.{AreWithin}
use Rattle.ct_site.specs.Logs.{LogState}
use Rattle.ct_site.specs.Memory.{MemState}

abbrev pub state_of : Inside → MemState
state_of s = record {
  left = drop s.taken s.script.items;
  first = s.first.items;
  log = s.log.changes;
  faults = s.faults;
  rooms = s.log.rooms;
  calls = s.calls;
  hear_calls = s.hear_calls;
  say_calls = s.say_calls;
  disk_calls = s.disk_calls;
  hearings = hearings_at s.script.items (said_by s.log.changes) s.hearings.items;
  has_asked = s.has_asked;
  written_bytes = s.log.written_bytes;
  hear_faults = s.hear_faults;
  say_faults = s.say_faults;
  disk_faults = s.disk_faults;
  syncs = s.syncs;
  ends = s.ends;
}

-- the state with another log
abbrev pub with_log : Inside → LogState → MemState
with_log s l = record (state_of s) {
  log = l.changes;
  rooms = l.rooms;
  written_bytes = l.written_bytes;
  hearings = hearings_at s.script.items (said_by l.changes) s.hearings.items;
}

-- a call more that is logged is that alone, where no more was said at the places that are kept than in the calls before
pub with_log-push : (s : Inside) (c : DiskChange) (written : ℕ) → AreUpTo (length (said_by s.log.changes)) s.hearings.items
    → with_log s (record s.log { changes = s.log.changes ++ c ∷ []; written_bytes = written }) ≡ record (state_of s) { log = s.log.changes ++ c ∷ []; written_bytes = written }
with_log-push s c written within =
    ap (λ (hs : List Hearing). record (state_of s) { log = s.log.changes ++ c ∷ []; written_bytes = written; hearings = hs }) (hearings_at-push s.script.items s.log.changes c s.hearings.items within)

-- The image is that of the log, each write of which began within it; it doesn't pass its room, for which the memory is there.
-- So is the memory for the calls of `hear`, which are kept where a byte was heard or said since.
pub record IsKept (s : Inside) : Type 0 where
  pub taken : s.taken ≤ length s.script.items
  pub image : s.image.items ≡ (disk_after (begun s.first.items) s.log.changes).image
  pub within : AreWithin s.first.items s.log.changes
  pub image_room : vec_len s.image ≤ s.log.rooms.image
  pub image_memory : s.log.rooms.image ≤ vec_capacity s.image
  pub heard : AreUpTo (length (said_by s.log.changes)) s.hearings.items
  pub heard_few : vec_len s.hearings ≤ s.taken + length s.log.changes
  pub heard_memory : length s.script.items + s.log.rooms.calls ≤ vec_capacity s.hearings

-- computed example: what is left of the script begins behind the bytes that were taken
left_of_script : (s : Inside) → (state_of s).left ≡ drop s.taken s.script.items
left_of_script s = refl
