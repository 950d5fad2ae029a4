-- The log of a site in memory: its entries, and the bytes that were written and said in them.
use Rattle.std.specs.Prelude.{◌≡◌, ℕ, ◌+◌, ◌≤◌, List, [], ◌∷◌, ◌++◌, length, take, drop, vec_len, codes, refl}
use Rattle.std.specs.Vec.{vec_capacity}
use Rattle.std.proofs.Common.{ap, sym, ◌∙◌, arith, length-drop, take-add, take_all}
use Rattle.std.proofs.lemmas.List.{take-append-le, drop-append-le, drop-drop}
use Rattle.ct_site.specs.declared.room_sizes.Rooms.{Rooms}
use Rattle.ct_site.specs.declared.logs.Entry.{Entry}
use Rattle.ct_site.specs.declared.logs.Entry.TheVariants.{Write, Sync, Say}
use Rattle.ct_site.specs.declared.logs.Log.TheInside.{Inside}
use Rattle.ct_site.specs.Histories.{DiskChange, Wrote, Synced, Said, said_in, said_by}

-- a log as contracts see it
pub record LogState : Type 0 where
  pub changes : List DiskChange
  pub rooms : Rooms
  pub written_bytes : ℕ

-- how many bytes an entry has of those written, and of those said
abbrev pub bytes_written : Entry → ℕ
bytes_written (Write at count) = count
bytes_written Sync = 0
bytes_written (Say count) = 0

abbrev pub bytes_said : Entry → ℕ
bytes_said (Write at count) = 0
bytes_said Sync = 0
bytes_said (Say count) = count

abbrev pub all_written : List Entry → ℕ
all_written [] = 0
all_written (e ∷ es) = bytes_written e + all_written es

abbrev pub all_said : List Entry → ℕ
all_said [] = 0
all_said (e ∷ es) = bytes_said e + all_said es

-- what an entry stands for, whose bytes are the next ones written, or said
abbrev pub logged_change : Entry → List ℕ → List ℕ → DiskChange
logged_change (Write at count) written said = Wrote at (take count written)
logged_change Sync written said = Synced
logged_change (Say count) written said = Said (take count said)

-- and all of them
abbrev pub changes_of : List Entry → List ℕ → List ℕ → List DiskChange
changes_of [] written said = []
changes_of (e ∷ es) written said = logged_change e written said ∷ changes_of es (drop (bytes_written e) written) (drop (bytes_said e) said)

pub length-changes_of : (es : List Entry) (w s : List ℕ) → length (changes_of es w s) ≡ length es
length-changes_of [] w s = refl
length-changes_of (e ∷ es) w s = let rest = length-changes_of es (drop (bytes_written e) w) (drop (bytes_said e) s) in omega (arith, rest)

-- one entry more
pub changes_of-push : (es : List Entry) (e : Entry) (w s : List ℕ) → changes_of (es ++ e ∷ []) w s ≡ changes_of es w s ++ logged_change e (drop (all_written es) w) (drop (all_said es) s) ∷ []
changes_of-push [] e w s = refl
changes_of-push (d ∷ es) e w s =
    ap (λ (cs : List DiskChange). logged_change d w s ∷ cs) (changes_of-push es e (drop (bytes_written d) w) (drop (bytes_said d) s)
    ∙ ap (λ (c : DiskChange). changes_of es (drop (bytes_written d) w) (drop (bytes_said d) s) ++ c ∷ [])
    (ap (λ (l : List ℕ). logged_change e l (drop (all_said es) (drop (bytes_said d) s))) (drop-drop (all_written es) (bytes_written d) w)
    ∙ ap (λ (l : List ℕ). logged_change e (drop (bytes_written d + all_written es) w) l) (drop-drop (all_said es) (bytes_said d) s)))

-- what was written or said later is nothing to the entries before
change_of-written : (e : Entry) (w b s : List ℕ) → bytes_written e ≤ length w → logged_change e (w ++ b) s ≡ logged_change e w s
change_of-written (Write at count) w b s fits = ap (λ (l : List ℕ). Wrote at l) (take-append-le count w b fits)
change_of-written Sync w b s fits = refl
change_of-written (Say count) w b s fits = refl

change_of-said : (e : Entry) (w s b : List ℕ) → bytes_said e ≤ length s → logged_change e w (s ++ b) ≡ logged_change e w s
change_of-said (Write at count) w s b fits = refl
change_of-said Sync w s b fits = refl
change_of-said (Say count) w s b fits = ap Said (take-append-le count s b fits)

pub changes_of-written : (es : List Entry) (w b s : List ℕ) → all_written es ≤ length w → changes_of es (w ++ b) s ≡ changes_of es w s
changes_of-written [] w b s fits = refl
changes_of-written (e ∷ es) w b s fits =
    ap (λ (c : DiskChange). c ∷ changes_of es (drop (bytes_written e) (w ++ b)) (drop (bytes_said e) s)) (change_of-written e w b s (omega (arith, fits)))
    ∙ ap (λ (cs : List DiskChange). logged_change e w s ∷ cs) (ap (λ (l : List ℕ). changes_of es l (drop (bytes_said e) s)) (drop-append-le (bytes_written e) w b (omega (arith, fits)))
    ∙ changes_of-written es (drop (bytes_written e) w) b (drop (bytes_said e) s) (omega (arith, fits, length-drop (bytes_written e) w)))

pub changes_of-said : (es : List Entry) (w s b : List ℕ) → all_said es ≤ length s → changes_of es w (s ++ b) ≡ changes_of es w s
changes_of-said [] w s b fits = refl
changes_of-said (e ∷ es) w s b fits =
    ap (λ (c : DiskChange). c ∷ changes_of es (drop (bytes_written e) w) (drop (bytes_said e) (s ++ b))) (change_of-said e w s b (omega (arith, fits)))
    ∙ ap (λ (cs : List DiskChange). logged_change e w s ∷ cs) (ap (λ (l : List ℕ). changes_of es (drop (bytes_written e) w) l) (drop-append-le (bytes_said e) s b (omega (arith, fits)))
    ∙ changes_of-said es (drop (bytes_written e) w) (drop (bytes_said e) s) b (omega (arith, fits, length-drop (bytes_said e) s)))

-- what the entries said is the beginning of what was said
said_one : (e : Entry) (w s : List ℕ) → said_in (logged_change e w s) ≡ take (bytes_said e) s
said_one (Write at count) w s = refl
said_one Sync w s = refl
said_one (Say count) w s = refl

pub said_by-changes_of : (es : List Entry) (w s : List ℕ) → said_by (changes_of es w s) ≡ take (all_said es) s
said_by-changes_of [] w s = refl
said_by-changes_of (e ∷ es) w s =
    ap (λ (l : List ℕ). l ++ said_by (changes_of es (drop (bytes_written e) w) (drop (bytes_said e) s))) (said_one e w s)
    ∙ ap (λ (l : List ℕ). take (bytes_said e) s ++ l) (said_by-changes_of es (drop (bytes_written e) w) (drop (bytes_said e) s))
    ∙ sym (take-add (bytes_said e) (all_said es) s)

pub all_written-push : (es : List Entry) (e : Entry) → all_written (es ++ e ∷ []) ≡ all_written es + bytes_written e
all_written-push [] e = omega arith
all_written-push (d ∷ es) e = let rest = all_written-push es e in omega (arith, rest)

pub all_said-push : (es : List Entry) (e : Entry) → all_said (es ++ e ∷ []) ≡ all_said es + bytes_said e
all_said-push [] e = omega arith
all_said-push (d ∷ es) e = let rest = all_said-push es e in omega (arith, rest)

-- ---- in memory
abbrev pub log_of : Inside → LogState
log_of l = record { changes = changes_of l.entries.items l.written.items l.said.items; rooms = l.rooms; written_bytes = vec_len l.written }

-- The bytes are those of the entries, nothing passes its room, and the memory for every room is there.
pub record IsLog (l : Inside) : Type 0 where
  pub written : all_written l.entries.items ≡ length l.written.items
  pub said : all_said l.entries.items ≡ length l.said.items
  pub calls_room : vec_len l.entries ≤ l.rooms.calls
  pub calls_memory : l.rooms.calls ≤ vec_capacity l.entries
  pub written_room : vec_len l.written ≤ l.rooms.written
  pub written_memory : l.rooms.written ≤ vec_capacity l.written
  pub said_room : vec_len l.said ≤ l.rooms.said
  pub said_memory : l.rooms.said ≤ vec_capacity l.said

pub said_is : (l : Inside) → IsLog l → said_by (log_of l).changes ≡ l.said.items
said_is l room = said_by-changes_of l.entries.items l.written.items l.said.items ∙ take_all (all_said l.entries.items) l.said.items (omega (arith, room.said))

-- ---- computed examples
two_calls : changes_of (Write 3 2 ∷ Say 2 ∷ Write 0 1 ∷ []) (codes "XYZ") (codes "ok") ≡ Wrote 3 (codes "XY") ∷ Said (codes "ok") ∷ Wrote 0 (codes "Z") ∷ []
two_calls = refl
