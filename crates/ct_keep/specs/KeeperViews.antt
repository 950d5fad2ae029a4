-- What is known of a keeper, and what its calls make of that.
use Rattle.std.specs.Prelude.{ℕ, ◌≡◌, ◌⊎◌, ◌+◌, ◌-◌, ◌^◌, ◌<◌, ◌≤◌, ◌==◌, ◌||◌, min, Bool, true, false, List, [], ◌∷◌, length, Option, Some, None, Result, Ok, Err, refl}
use Rattle.std.specs.Bool.{if◌then◌else◌}
use Rattle.std.specs.Result.{IfOk}
use Rattle.std.proofs.Common.{arith}
use base.Fml.{GName}
use Rattle.ct_base.specs.Told.{IsSaid, with_prefix, with_suffix, SaysPart}
use Rattle.ct_base.specs.Moments.{Timeline, Passes, AddsNothing}
use Rattle.ct_site.specs.FaultCounts.{raised}
use Rattle.ct_site.specs.Disks.{Asks, Beside}
use Rattle.ct_keep.specs.declared.keepers.KeepFault.{KeepFault}
use Rattle.ct_keep.specs.declared.keepers.KeepFault.TheVariants.{Memory, Disk, Full}
use Rattle.ct_keep.specs.Content.{Content, IsEntry, weight}
use Rattle.ct_keep.specs.Changes.{AnyEntry}

-- How often entries of some kinds were asked for or handed out, how often a commit was refused for want of room, and how often one
-- was called, however it ended; each up to 2 ^ 64 - 1.
pub record Counts : Type 0 where
  pub texts : ℕ
  pub rows : ℕ
  pub rules : ℕ
  pub fulls : ℕ
  pub commits : ℕ

-- What never changes.
pub record Fixed : Type 0 where
  -- how many bytes may be said in all, where that is told
  pub say_room : Option ℕ
  -- how much its content may weigh
  pub limit : ℕ
  -- the reference to the site that it stands over, if it stands over one
  pub lender : Option GName

pub record KeeperView : Type 1 where
  -- it may be read and changed: none of its calls has answered Disk
  pub ready : Type 0
  -- what it holds, where it is told
  pub content : Option Content
  -- the script, the bytes said, and their counts of faults
  pub beside : Beside
  -- at each moment, the content that would be recovered, if any, and the bytes said by then
  pub time : Timeline (Option Content)
  -- what a stop now would leave, and the bytes said
  pub now : Option Content → List ℕ → Type 0
  pub counts : Counts
  pub disk_faults : ℕ
  -- how often the disk was synced, up to 2 ^ 64 - 1
  pub disk_syncs : ℕ
  -- which entries it may hold, beside the bounds on each; no call changes this
  pub well : List ℕ → List ℕ → Type 0
  pub fixed : Fixed

-- It may hold whatever it might before.
pub record TakesAsBefore (old new : KeeperView) : Type 0 where
  pub takes : (key value : List ℕ) → old.well key value → new.well key value

-- It may be read and changed, and takes each entry within the bounds that `shape` tells of.
pub record Accepts (shape : List ℕ → List ℕ → Type 0) (k : KeeperView) : Type 0 where
  pub ready : k.ready
  pub takes : (key value : List ℕ) → IsEntry key value → shape key value → k.well key value

-- It may be read and changed, and takes every entry within the bounds.
abbrev pub AcceptsChanges : KeeperView → Type 0
AcceptsChanges k = Accepts AnyEntry k

-- how a call failed, if it did
abbrev pub fault_of : {T : Type 0} → Result T KeepFault → Option KeepFault
fault_of (Ok x) = None
fault_of (Err fault) = Some fault

-- The count of faults of the disk after a call that so failed: it rises by one where the disk failed, and is else as it was.
abbrev pub disk_faults_after : Option KeepFault → ℕ → ℕ
disk_faults_after (Some Disk) n = raised n
disk_faults_after (Some Memory) n = n
disk_faults_after (Some Full) n = n
disk_faults_after None n = n

-- what holds unless the disk failed
abbrev pub UnlessDisk : Option KeepFault → Type 0 → Type 0
UnlessDisk None P = P
UnlessDisk (Some Memory) P = P
UnlessDisk (Some Full) P = P
UnlessDisk (Some Disk) P = Unit {0}

-- What each call but hear and say keeps, whatever is told.
pub record SameButContent (old new : KeeperView) (fault : Option KeepFault) : Type 0 where
  pub ready : UnlessDisk fault new.ready
  pub beside : new.beside ≡ old.beside
  pub well : TakesAsBefore old new
  pub fixed : new.fixed ≡ old.fixed
  pub later : old.disk_faults ≤ new.disk_faults
  -- a fault of the disk is answered, and nothing else is: none is passed over
  pub cause : new.disk_faults ≡ disk_faults_after fault old.disk_faults

-- A stop between two calls leaves what it holds.
pub record IsDurable (k : KeeperView) : Type 0 where
  pub here : (m : Content) → k.content ≡ Some m → (stopped : Option Content) (said : List ℕ) → k.now stopped said → (stopped ≡ Some m) × IsSaid k.beside.said said

-- A call, or some calls, only read. They commit nothing, so they don't find the store full, and sync nothing.
pub record ReadsKeeper (old new : KeeperView) (fault : Option KeepFault) : Type 0 where
  pub not_full : fault ≡ Some Full → ⊥
  pub kept : SameButContent old new fault
  pub content : UnlessDisk fault (new.content ≡ old.content)
  pub time : AddsNothing old.time new.time
  pub now : (stopped : Option Content) (said : List ℕ) → new.now stopped said → old.now stopped said
  pub fulls : new.counts.fulls ≡ old.counts.fulls
  pub commits : new.counts.commits ≡ old.counts.commits
  pub syncs : new.disk_syncs ≡ old.disk_syncs

-- A call with this result only read, by the view of a keeper before and after it.
abbrev pub OnlyReads : {K T : Type 0} → (K → KeeperView) → K → K → Result T KeepFault → Type 0
OnlyReads view old new result = ReadsKeeper (view old) (view new) (fault_of result)

-- what holds of the content, where that is told
abbrev pub Told : {K : Type 0} → (K → KeeperView) → K → (Content → Type 0) → Type 0
Told view k holds = (m : Content) → (view k).content ≡ Some m → holds m

-- What a call gave of the content, where that is told, unless it failed.
abbrev pub Finds : {K T : Type 0} → (K → KeeperView) → K → Result T KeepFault → (Content → T → Type 0) → Type 0
Finds view old result gives = Told view old (λ m. IfOk result (gives m))

-- ---- counts

-- one more, where it is counted
abbrev pub counted : Bool → ℕ → ℕ
counted here n = if here then min (n + 1) (2 ^ 64 - 1) else n

abbrev pub is_kind : ℕ → List ℕ → Bool
is_kind kind [] = false
is_kind kind (b ∷ bs) = b == kind

abbrev pub is_kind_of : ℕ → Option (List ℕ) → Bool
is_kind_of kind None = false
is_kind_of kind (Some key) = is_kind kind key

abbrev pub is_either : ℕ → List ℕ → Option (List ℕ) → Bool
is_either kind asked handed = is_kind kind asked || is_kind_of kind handed

-- The counts after a look-up that asked for this key and handed out the entry of that one. Texts are of kind 0x03, posting rows of 0x24 and 0x25, rules of 0x2a.
abbrev pub looked_up : List ℕ → Option (List ℕ) → Counts → Counts
looked_up asked handed c = record {
  texts = counted (is_either 0x03 asked handed) c.texts;
  rows = counted (is_either 0x24 asked handed || is_either 0x25 asked handed) c.rows;
  rules = counted (is_either 0x2a asked handed) c.rules;
  fulls = c.fulls;
  commits = c.commits;
}

abbrev pub is_full : Option KeepFault → Bool
is_full (Some Full) = true
is_full fault = false

-- the counts after a commit that ended so
abbrev pub committed : Option KeepFault → Counts → Counts
committed fault c = record {
  texts = c.texts;
  rows = c.rows;
  rules = c.rules;
  fulls = counted (is_full fault) c.fulls;
  commits = counted true c.commits;
}

-- No commit was called, and the disk wasn't synced.
abbrev pub NoCommit : KeeperView → KeeperView → Type 0
NoCommit old new = (new.counts.commits ≡ old.counts.commits) × (new.disk_syncs ≡ old.disk_syncs)

-- One commit was called, and the disk was synced four times at most.
abbrev pub OneCommit : KeeperView → KeeperView → Type 0
OneCommit old new = (new.counts.commits ≡ counted true old.counts.commits) × (new.disk_syncs ≤ old.disk_syncs + 4)

abbrev pub AtMostOneCommit : KeeperView → KeeperView → Type 0
AtMostOneCommit old new = NoCommit old new ⊎ OneCommit old new

-- ---- commits

-- There is no room to go from the one content to the other: the second is over the limit, and heavier than the first.
pub record PassesLimit (limit : ℕ) (m next : Content) : Type 0 where
  pub over : limit < weight next
  pub heavier : weight m < weight next

-- There is: the second is within the limit, or no heavier.
abbrev pub KeepsLimit : ℕ → Content → Content → Type 0
KeepsLimit limit m next = (weight next ≤ limit) ⊎ (weight next ≤ weight m)

-- the content after a call that was to make it this
abbrev pub Came : Option KeepFault → Content → Content → Option Content → Type 0
Came None old next content = content ≡ Some next
Came (Some Memory) old next content = content ≡ Some old
Came (Some Full) old next content = content ≡ Some old
Came (Some Disk) old next content = Unit {0}

-- what a stop leaves in such a call
abbrev pub IsLeft : Option KeepFault → Content → Content → Option Content → Type 0
IsLeft None old next stopped = (stopped ≡ Some old) ⊎ (stopped ≡ Some next)
IsLeft (Some Disk) old next stopped = (stopped ≡ Some old) ⊎ (stopped ≡ Some next)
IsLeft (Some Memory) old next stopped = stopped ≡ Some old
IsLeft (Some Full) old next stopped = stopped ≡ Some old

-- From this content to that by at most one commit.
pub record Goes (m next : Content) (old new : KeeperView) (fault : Option KeepFault) : Type 0 where
  pub content : Came fault m next new.content
  pub time : Passes old.time new.time (λ stopped said. IsLeft fault m next stopped × IsSaid old.beside.said said)
  pub now : (stopped : Option Content) (said : List ℕ) → new.now stopped said → IsLeft fault m next stopped × IsSaid old.beside.said said

-- why a commit was answered so: Full exactly where there is no room, unless memory or the disk failed
abbrev pub AnswersCommit : Option KeepFault → ℕ → Content → Content → Type 0
AnswersCommit None limit m next = KeepsLimit limit m next
AnswersCommit (Some Full) limit m next = PassesLimit limit m next
AnswersCommit (Some Memory) limit m next = Unit {0}
AnswersCommit (Some Disk) limit m next = Unit {0}

-- ---- hearing and saying

-- what hearing and saying keep
pub record SameStore (old new : KeeperView) : Type 0 where
  pub ready : old.ready → new.ready
  pub well : TakesAsBefore old new
  pub fixed : new.fixed ≡ old.fixed
  pub content : new.content ≡ old.content
  pub counts : new.counts ≡ old.counts
  pub disk_faults : new.disk_faults ≡ old.disk_faults
  pub disk_syncs : new.disk_syncs ≡ old.disk_syncs

-- Bytes of the script were heard by one call, and nothing else was done, but that the end may have been told.
pub record KeeperHears (heard : List ℕ) (old new : KeeperView) : Type 0 where
  pub apart : SameStore old new
  pub left : old.beside.left ≡ with_prefix heard new.beside.left
  pub said : new.beside.said ≡ old.beside.said
  pub asks : Asks old.beside new.beside
  pub say_faults : new.beside.say_faults ≡ old.beside.say_faults
  pub time : AddsNothing old.time new.time

-- Bytes were said, and nothing else was done.
pub record KeeperSays (told : List ℕ) (old new : KeeperView) : Type 0 where
  pub apart : SameStore old new
  pub said : new.beside.said ≡ with_suffix old.beside.said told
  pub left : new.beside.left ≡ old.beside.left
  pub hearings : new.beside.hearings ≡ old.beside.hearings
  pub ends : new.beside.ends ≡ old.beside.ends
  pub hear_faults : new.beside.hear_faults ≡ old.beside.hear_faults
  pub time : old.ready → (m : Content) → old.content ≡ Some m → Passes old.time new.time (λ stopped said. (stopped ≡ Some m) × SaysPart old.beside.said told said)

-- Where it is told what was said and how many bytes may be said in all, to say these too would be too many.
pub record PassesRoom (room : Option ℕ) (told : Option (List ℕ)) (bytes : List ℕ) : Type 0 where
  pub passes : (most : ℕ) (said : List ℕ) → room ≡ Some most → told ≡ Some said → most < length said + length bytes

-- computed examples: a text that is asked for, a posting row that is handed out where a document was asked for, and a count at its end
abbrev nothing_yet : Counts
nothing_yet = record { texts = 0; rows = 0; rules = 0; fulls = 0; commits = 0 }

one_text : looked_up (0x03 ∷ 1 ∷ []) None nothing_yet ≡ record { texts = 1; rows = 0; rules = 0; fulls = 0; commits = 0 }
one_text = refl

one_row : looked_up (0x22 ∷ []) (Some (0x24 ∷ 1 ∷ [])) nothing_yet ≡ record { texts = 0; rows = 1; rules = 0; fulls = 0; commits = 0 }
one_row = refl

-- a commit that was refused for want of room was called too
one_commit : committed (Some Full) nothing_yet ≡ record { texts = 0; rows = 0; rules = 0; fulls = 1; commits = 1 }
one_commit = refl

-- one commit after five syncs, which synced the disk four times more
four_syncs : (k : KeeperView) → OneCommit (record k { counts = nothing_yet; disk_syncs = 5 }) (record k { counts = committed None nothing_yet; disk_syncs = 9 })
four_syncs k = (refl, omega arith)

disk_failed : disk_faults_after (Some Disk) 4 ≡ 5
disk_failed = refl

disk_left : disk_faults_after (Some Full) 4 ≡ 4
disk_left = refl

at_its_end : counted true (2 ^ 64 - 1) ≡ 2 ^ 64 - 1
at_its_end = refl
