-- What the function of a statement returns, against its effect; and the plan that is carried out.
use Rattle.std.specs.Prelude.{ℕ, ◌≡◌, ◌<◌, ◌≤◌, ◌⊎◌, true, false, List, Option, Some, None, Result, Ok, Err, Vec, IfOk, [], codes, refl}
use Rattle.std.specs.declared.alloc.Global.{Global}
use Rattle.std.proofs.Common.{arith}
use Rattle.ct_keep.specs.Content.{Content, after, changes_weight, weight}
use Rattle.ct_keep.specs.declared.keepers.KeepFault.{KeepFault}
use Rattle.ct_keep.specs.declared.keepers.KeepFault.TheVariants.{Memory, Disk, Full as NoRoom}
use Rattle.ct_keep.specs.KeeperViews.{AtMostOneCommit, KeeperView, SameButContent, ReadsKeeper, Goes, AnswersCommit, IsDurable, fault_of, counted, is_full}
use Rattle.db_cond.specs.Faults.{Refusal, WrongValues, refusal_line}
use Rattle.db_cond.specs.declared.faults.Fault.TheVariants.{WrongValues as WrongValuesFault}
use Rattle.db_state.specs.States.{StoreState, StandsForState}
use Rattle.db_state.specs.Effects.{Effect, Refused, state_by, reply_by, is_done}
use Rattle.db_state.specs.Entries.{Achieves, Makes}
use Rattle.db_state.specs.Shapes.{AreStoreChanges}
use Rattle.db_state.specs.Lines.{call_done}
use Rattle.db_state.specs.Room.{room}
use Rattle.db_cond.specs.Refused.{refusal_of}
use Rattle.db_state.specs.declared.plans.Plan.{Plan}
use Rattle.db_state.specs.declared.plans.Plan.TheVariants.{Refused as PlanRefused, Done as PlanDone}

-- Where nothing failed, the next content stands for the state by the effect, and where room was wanting so does the one that was to come.
-- Where memory was wanting, there is no other content than the old one; and where the disk failed, the one that may have come stands for
-- the state before or after.
abbrev pub StandsBy : Option KeepFault → StoreState → Effect → Content → Content → Type 0
StandsBy None m effect c next = StandsForState next (state_by m effect)
StandsBy (Some Memory) m effect c next = next ≡ c
StandsBy (Some NoRoom) m effect c next = StandsForState next (state_by m effect)
StandsBy (Some Disk) m effect c next = StandsForState next m ⊎ StandsForState next (state_by m effect)

-- What the fault leaves of the rows of postings, the numbers of documents, and the places.
abbrev pub MakesBy : Option KeepFault → Effect → Content → Content → Type 0
MakesBy None effect c next = Makes effect c next
MakesBy (Some Memory) effect c next = Unit {0}
MakesBy (Some NoRoom) effect c next = Makes effect c next
MakesBy (Some Disk) effect c next = (next ≡ c) ⊎ Makes effect c next

-- From a content that stands for the state m to the next one by at most one commit, which failed so if it did.
pub record Moves (m : StoreState) (effect : Effect) (c : Content) (old new : KeeperView) (fault : Option KeepFault) : Type 0 where
  pub next : Content
  pub stands : StandsBy fault m effect c next
  pub makes : MakesBy fault effect c next
  pub goes : Goes c next old new fault
  -- the limit binds: want of room was answered only where the next content passes the limit, and success only where it doesn't
  pub limited : AnswersCommit fault old.fixed.limit c next
  -- a refusal leaves the content as it was
  pub same : is_done effect ≡ false → next ≡ c

-- There is no room for it: the effect is no refusal, and its state needs more room than the store has.
pub record HasNoPlace (m : StoreState) (effect : Effect) (limit : ℕ) : Type 0 where
  pub done : is_done effect ≡ true
  pub over : limit < room (state_by m effect)

-- What the function of a statement returned, against the statement's effect.
pub record GivesEffect (m : StoreState) (effect : Effect) (c : Content) (old new : KeeperView) (result : Result (Vec ℕ Global) KeepFault) : Type 0 where
  pub moves : Moves m effect c old new (fault_of result)
  pub reply : IfOk result (λ reply. reply.items ≡ reply_by effect)
  pub full : fault_of result ≡ Some NoRoom → HasNoPlace m effect old.fixed.limit

-- from this content to some other by at most one commit, which failed so if it did
pub record Commits (c : Content) (old new : KeeperView) (fault : Option KeepFault) : Type 0 where
  pub next : Content
  pub goes : Goes c next old new fault

-- the same from the content that is told, where one is
abbrev pub CommitsOnce : KeeperView → KeeperView → Option KeepFault → Type 0
CommitsOnce old new fault = (c : Content) → old.content ≡ Some c → Commits c old new fault

-- The content stays as it is, where it is told, and a crash leaves it at each moment.
abbrev pub ContentStays : KeeperView → KeeperView → Type 0
ContentStays old new = (c : Content) → old.content ≡ Some c → Goes c c old new None

-- The lines by which a statement says that its change is made: one for each number of rows, or the same for all.
abbrev pub DoneLines : Type 0
DoneLines = ℕ → List ℕ

abbrev pub line_for_all : List ℕ → DoneLines
line_for_all line n = line

-- The reply says that the change is made, by at most one commit.
pub record IsMade (done : DoneLines) (reply : List ℕ) (old new : KeeperView) : Type 0 where
  pub rows : ℕ
  pub says : reply ≡ done rows
  pub commits : CommitsOnce old new None

-- The reply is the line of a refusal, and nothing was done but reading. That the store is full is no refusal.
pub record IsRefused (reply : List ℕ) (old new : KeeperView) : Type 0 where
  pub refusal : Refusal
  pub says : reply ≡ refusal_line refusal
  pub reads : ReadsKeeper old new None

-- What the function of a statement returned that says by one of these lines that its change is made.
abbrev pub Returns : DoneLines → KeeperView → KeeperView → Result (Vec ℕ Global) KeepFault → Type 0
Returns done old new (Ok reply) = IsMade done reply.items old new ⊎ IsRefused reply.items old new
Returns done old new (Err Memory) = ContentStays old new
Returns done old new (Err NoRoom) = ContentStays old new
Returns done old new (Err Disk) = CommitsOnce old new (Some Disk)

-- what the function of a statement returned, by its lines: with none it only read
abbrev pub ReturnsBy : Option DoneLines → KeeperView → KeeperView → Result (Vec ℕ Global) KeepFault → Type 0
ReturnsBy None old new result = ReadsKeeper old new (fault_of result)
ReturnsBy (Some done) old new result = Returns done old new result

-- the reply of this effect, unless the call failed
abbrev pub GivesReply : Result (Vec ℕ Global) KeepFault → Effect → Type 0
GivesReply result effect = IfOk result (λ reply. reply.items ≡ reply_by effect)

-- What a commit of this batch with this reply gave, of each state and each effect by which it may have been made.
abbrev pub CommitGives : List (List ℕ × Option (List ℕ)) → List ℕ → KeeperView → KeeperView → Result (Vec ℕ Global) KeepFault → Type 0
CommitGives batch reply old new result =
    (m : StoreState) (effect : Effect) (c : Content) → old.content ≡ Some c → Achieves effect reply c (after batch c) → GivesEffect m effect c old new result

-- ---- the function of a statement

-- What it returned, by the statement's effect in each state, and by the lines by which the statement says that its change is made (None where it changes nothing).
-- It is all that `execute` needs of a statement: of a content that stands for a state, and of any content.
pub record Fulfils (effect : StoreState → Effect) (lines : Option DoneLines) (old new : KeeperView) (result : Result (Vec ℕ Global) KeepFault) : Type 0 where
  pub kept : SameButContent old new (fault_of result)
  pub fulls : new.counts.fulls ≡ counted (is_full (fault_of result)) old.counts.fulls
  pub once : AtMostOneCommit old new
  pub gives : IsDurable old → (m : StoreState) (c : Content) → old.content ≡ Some c → StandsForState c m → GivesEffect m (effect m) c old new result
  pub tells : IsDurable old → ReturnsBy lines old new result

-- What a statement with this effect comes to over the content c: the line of its refusal, or a batch that makes of c what the effect leads to, with this line.
abbrev pub IsPlan : Effect → List ℕ → Content → Plan → Type 0
IsPlan effect line c (PlanRefused fault) = effect ≡ Refused (refusal_of fault)
IsPlan effect line c (PlanDone batch) = (done : Effect) × (effect ≡ done) × Achieves done line c (after batch c)

-- Whatever the content is, the batch of a plan puts entries that a store has.
abbrev pub IsStorePlan : Plan → Type 0
IsStorePlan (PlanRefused fault) = Unit {0}
IsStorePlan (PlanDone batch) = AreStoreChanges batch

-- What a plan makes of a content is no heavier.
abbrev pub IsNoHeavier : Content → Plan → Type 0
IsNoHeavier c (PlanRefused fault) = Unit {0}
IsNoHeavier c (PlanDone batch) = weight (after batch c) ≤ weight c

-- A plan only takes entries away: its batch puts nothing. Then it is so over each content.
abbrev pub IsRemoval : Plan → Type 0
IsRemoval (PlanRefused fault) = Unit {0}
IsRemoval (PlanDone batch) = changes_weight batch ≡ 0

-- A plan is that of the statement over each state that the content stands for.
pub record IsPlanOf (effect : StoreState → Effect) (line : List ℕ) (old : KeeperView) (plan : Plan) : Type 0 where
  pub made : (m : StoreState) (c : Content) → old.content ≡ Some c → StandsForState c m → IsPlan (effect m) line c plan

-- What a call that carries out a plan returned: of each statement whose plan it is.
abbrev pub CarriesOut : {K : Type 0} → (K → KeeperView) → K → K → Result (Vec ℕ Global) KeepFault → Plan → List ℕ → Type 0
CarriesOut view old new result plan line = (effect : StoreState → Effect) → IsPlanOf effect line (view old) plan → Fulfils effect (Some (line_for_all line)) (view old) (view new) result

-- What the function of a statement returned, by the view of the keeper before and after it.
abbrev pub Replies : {K : Type 0} → (K → KeeperView) → K → K → Result (Vec ℕ Global) KeepFault → (StoreState → Effect) → Option DoneLines → Type 0
Replies view old new result effect lines = Fulfils effect lines (view old) (view new) result

-- The call gave a plan of the statement, unless it failed.
abbrev pub Plans : {K : Type 0} → (K → KeeperView) → K → Result Plan KeepFault → (StoreState → Effect) → List ℕ → Type 0
Plans view old result effect line = IfOk result (IsPlanOf effect line (view old))

-- The call gave the plan of this effect over each state of which this holds, unless it failed.
abbrev pub PlansWhere : {E : Type 0} → Result Plan E → (StoreState → Type 0) → (StoreState → Effect) → Type 0
PlansWhere result holds effect = (m : StoreState) (c : Content) → StandsForState c m → holds m → IfOk result (IsPlan (effect m) call_done c)

-- computed examples: the plan of a statement that is refused, and the reply that an effect gives
a_refusal : (c : Content) → IsPlan (Refused WrongValues) [] c (PlanRefused WrongValuesFault)
a_refusal c = refl

one_line_for_all : line_for_all (codes "Table created.\n") 7 ≡ codes "Table created.\n"
one_line_for_all = refl

nothing_put : (c : Content) → IsRemoval (PlanDone []) × IsNoHeavier c (PlanDone [])
nothing_put c = (refl, omega arith)

its_content : (m : StoreState) (c : Content) → StandsBy (Some Memory) m (Refused WrongValues) c c
its_content m c = refl
