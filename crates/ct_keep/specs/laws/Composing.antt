-- What calls of a keeper make together: each of its relations of one call after another.
use Rattle.std.specs.Prelude.{ℕ, ◌≡◌, List, [], ◌++◌, Option, Some, None, refl}
use Rattle.std.proofs.Common.{sym, ap, subst, inl, ◌∙◌, arith, length-append}
use Rattle.ct_base.specs.Told.{IsSaid, with_suffix, SaysPart}
use Rattle.ct_base.specs.laws.Told.{with_suffix-nil, with_suffix_twice, says_prefix, says_suffix}
use Rattle.ct_base.specs.laws.Moments.{passes_none, passes_more, passes_then, passes_nothing, adds_nothing_itself, adds_nothing_then}
use Rattle.ct_site.specs.Disks.{Beside}
use Rattle.ct_keep.specs.declared.keepers.KeepFault.{KeepFault}
use Rattle.ct_keep.specs.declared.keepers.KeepFault.TheVariants.{Memory, Disk, Full}
use Rattle.ct_keep.specs.Content.{Content}
use Rattle.ct_keep.specs.Changes.{AreWell}
use Rattle.ct_keep.specs.laws.Changes.{well_weaker}
use Rattle.ct_keep.specs.KeeperViews.{KeeperView, Accepts, TakesAsBefore, Fixed, SameButContent, ReadsKeeper, Goes, AnswersCommit, Came, IsLeft, IsDurable, SameStore, KeeperSays, PassesRoom, UnlessDisk, disk_faults_after, AtMostOneCommit}

-- ---- what never changes, by its fields

pub same_limit : {f g : Fixed} → g ≡ f → g.limit ≡ f.limit
same_limit e = ap (λ (x : Fixed). x.limit) e

pub same_say_room : {f g : Fixed} → g ≡ f → g.say_room ≡ f.say_room
same_say_room e = ap (λ (x : Fixed). x.say_room) e

pub same_lender : {f g : Fixed} → g ≡ f → g.lender ≡ f.lender
same_lender e = ap (λ (x : Fixed). x.lender) e

pub takes_same : (k : KeeperView) → TakesAsBefore k k
takes_same k = record { takes = λ key value is. is }

pub takes_then : (old mid new : KeeperView) → TakesAsBefore old mid → TakesAsBefore mid new → TakesAsBefore old new
takes_then old mid new first second = record { takes = λ key value is. second.takes key value (first.takes key value is) }

-- ---- what every call keeps

pub kept_all : (k : KeeperView) → k.ready → SameButContent k k None
kept_all k ready = record { ready = ready; beside = refl; well = takes_same k; fixed = refl; later = omega arith; cause = refl }

-- a call that succeeded, and then another
pub kept_then : (old mid new : KeeperView) (fault : Option KeepFault) → SameButContent old mid None → SameButContent mid new fault → SameButContent old new fault
kept_then old mid new fault first second = record {
  ready = second.ready;
  beside = second.beside ∙ first.beside;
  well = takes_then old mid new first.well second.well;
  fixed = second.fixed ∙ first.fixed;
  later = omega (arith, first.later, second.later);
  cause = second.cause ∙ ap (disk_faults_after fault) first.cause;
}

-- calls that succeeded, and then no memory
pub kept_short : (old new : KeeperView) → SameButContent old new None → SameButContent old new (Some Memory)
kept_short old new kept = record { ready = kept.ready; beside = kept.beside; well = kept.well; fixed = kept.fixed; later = kept.later; cause = kept.cause }

-- ---- reads

pub reads_none : (k : KeeperView) → k.ready → ReadsKeeper k k None
reads_none k ready = record { not_full = λ e. cc; kept = kept_all k ready; content = refl; time = adds_nothing_itself k.time; now = λ stopped said now. now; fulls = refl; commits = refl; syncs = refl }

-- reads that succeeded, and then others
pub reads_on : (old mid new : KeeperView) (fault : Option KeepFault) → ReadsKeeper old mid None → ReadsKeeper mid new fault → ReadsKeeper old new fault
reads_on old mid new fault first second = record {
  not_full = second.not_full;
  kept = kept_then old mid new fault first.kept second.kept;
  content = same fault second.content;
  time = adds_nothing_then old.time mid.time new.time first.time second.time;
  now = λ stopped said now. first.now stopped said (second.now stopped said now);
  fulls = second.fulls ∙ first.fulls;
  commits = second.commits ∙ first.commits;
  syncs = second.syncs ∙ first.syncs;
}
  where
    same : (fault : Option KeepFault) → UnlessDisk fault (new.content ≡ mid.content) → UnlessDisk fault (new.content ≡ old.content)
    same None c = c ∙ first.content
    same (Some Memory) c = c ∙ first.content
    same (Some Full) c = c ∙ first.content
    same (Some Disk) c = c

-- reads that succeeded, and then no memory
pub reads_short : (old new : KeeperView) → ReadsKeeper old new None → ReadsKeeper old new (Some Memory)
reads_short old new reads = record { not_full = λ e. cc; kept = kept_short old new reads.kept; content = reads.content; time = reads.time; now = reads.now; fulls = reads.fulls; commits = reads.commits; syncs = reads.syncs }

-- what is held after them
pub reads_hold : (old new : KeeperView) (m : Content) → ReadsKeeper old new None → old.content ≡ Some m → new.content ≡ Some m
reads_hold old new m reads holds = reads.content ∙ holds

-- what a batch needs after them
pub reads_well : (old new : KeeperView) (batch : List (List ℕ × Option (List ℕ))) → ReadsKeeper old new None → AreWell old.well batch → AreWell new.well batch
reads_well old new batch reads are = well_weaker old.well new.well (λ key value entry is. reads.kept.well.takes key value is) batch are

-- what may be changed before a call may be changed after it
pub accepts_still : {shape : List ℕ → List ℕ → Type 0} (old new : KeeperView) → new.ready → TakesAsBefore old new → Accepts shape old → Accepts shape new
accepts_still old new ready well accepts = record { ready = ready; takes = λ key value entry is. well.takes key value (accepts.takes key value entry is) }

-- and after reads
pub accepts_on : {shape : List ℕ → List ℕ → Type 0} (old new : KeeperView) → Accepts shape old → ReadsKeeper old new None → Accepts shape new
accepts_on old new accepts reads = accepts_still old new reads.kept.ready reads.kept.well accepts

-- ---- reads, and then at most one commit

pub reads_then : (m next : Content) (old mid new : KeeperView) (fault : Option KeepFault) → ReadsKeeper old mid None → Goes m next mid new fault → Goes m next old new fault
reads_then m next old mid new fault reads goes = record {
  content = goes.content;
  time = passes_then old.time mid.time new.time _ (passes_nothing old.time mid.time _ reads.time)
      (passes_more mid.time new.time _ _ goes.time (λ stopped said p. (p.0, before said p.1)));
  now = λ stopped said now. let p = goes.now stopped said now in (p.0, before said p.1);
}
  where
    before : (said : List ℕ) → IsSaid mid.beside.said said → IsSaid old.beside.said said
    before said is = ap (λ (b : Beside). b.said) (sym reads.kept.beside) ∙ is

-- reads alone, which succeeded
pub reads_only : (m : Content) (old new : KeeperView) → IsDurable old → old.content ≡ Some m → ReadsKeeper old new None → Goes m m old new None
reads_only m old new settled holds reads = record {
  content = reads.content ∙ holds;
  time = passes_nothing old.time new.time _ reads.time;
  now = λ stopped said now. let p = settled.here m holds stopped said (reads.now stopped said now) in (inl p.0, p.1);
}

-- or which failed
pub reads_failed : (m next : Content) (old new : KeeperView) (fault : KeepFault) → IsDurable old → old.content ≡ Some m → ReadsKeeper old new (Some fault) → Goes m next old new (Some fault)
reads_failed m next old new fault settled holds reads = record {
  content = came fault reads.content;
  time = passes_nothing old.time new.time _ reads.time;
  now = λ stopped said now. let p = settled.here m holds stopped said (reads.now stopped said now) in (left fault stopped p.0, p.1);
}
  where
    came : (fault : KeepFault) → UnlessDisk (Some fault) (new.content ≡ old.content) → Came (Some fault) m next new.content
    came Memory c = c ∙ holds
    came Full c = c ∙ holds
    came Disk c = c

    left : (fault : KeepFault) (stopped : Option Content) → stopped ≡ Some m → IsLeft (Some fault) m next stopped
    left Memory stopped is = is
    left Full stopped is = is
    left Disk stopped is = inl is

-- a commit, and then reads that succeeded
pub goes_on : (m next : Content) (old mid new : KeeperView) → Goes m next old mid None → ReadsKeeper mid new None → Goes m next old new None
goes_on m next old mid new goes reads = record {
  content = reads.content ∙ goes.content;
  time = passes_then old.time mid.time new.time _ goes.time (passes_nothing mid.time new.time _ reads.time);
  now = λ stopped said now. goes.now stopped said (reads.now stopped said now);
}

-- the answer of the commit, by the limit before the reads
pub answers_then : (m next : Content) (old mid : KeeperView) (fault : Option KeepFault) → ReadsKeeper old mid None → AnswersCommit fault mid.fixed.limit m next → AnswersCommit fault old.fixed.limit m next
answers_then m next old mid fault reads answers = subst (λ (limit : ℕ). AnswersCommit fault limit m next) (same_limit reads.kept.fixed) answers

-- where the reads failed, no commit was tried
pub answers_failed : (fault : KeepFault) (limit : ℕ) (m next : Content) → (fault ≡ Full → ⊥) → AnswersCommit (Some fault) limit m next
answers_failed Memory limit m next not_full = tt
answers_failed Disk limit m next not_full = tt
answers_failed Full limit m next not_full = absurd (not_full refl)

-- reads alone call no commit
pub commits_read : (old new : KeeperView) (fault : Option KeepFault) → ReadsKeeper old new fault → AtMostOneCommit old new
commits_read old new fault reads = inl (reads.commits, reads.syncs)

-- ---- hearing and saying

pub apart_all : (k : KeeperView) → SameStore k k
apart_all k = record { ready = λ ready. ready; well = takes_same k; fixed = refl; content = refl; counts = refl; disk_faults = refl; disk_syncs = refl }

pub apart_then : (old mid new : KeeperView) → SameStore old mid → SameStore mid new → SameStore old new
apart_then old mid new first second = record {
  ready = λ ready. second.ready (first.ready ready);
  well = takes_then old mid new first.well second.well;
  fixed = second.fixed ∙ first.fixed;
  content = second.content ∙ first.content;
  counts = second.counts ∙ first.counts;
  disk_faults = second.disk_faults ∙ first.disk_faults;
  disk_syncs = second.disk_syncs ∙ first.disk_syncs;
}

pub says_none : (k : KeeperView) → KeeperSays [] k k
says_none k = record { apart = apart_all k; said = sym (with_suffix-nil k.beside.said); left = refl; hearings = refl; ends = refl; hear_faults = refl; time = λ ready m holds. passes_none k.time _ }

-- one piece said, and then another
pub says_then : (old mid new : KeeperView) (a b : List ℕ) → KeeperSays a old mid → KeeperSays b mid new → KeeperSays (a ++ b) old new
says_then old mid new a b first second = record {
  apart = apart_then old mid new first.apart second.apart;
  said = second.said ∙ ap (λ (told : Option (List ℕ)). with_suffix told b) first.said ∙ with_suffix_twice old.beside.said a b;
  left = second.left ∙ first.left;
  hearings = second.hearings ∙ first.hearings;
  ends = second.ends ∙ first.ends;
  hear_faults = second.hear_faults ∙ first.hear_faults;
  time = λ ready m holds.
      passes_then old.time mid.time new.time _
      (passes_more old.time mid.time _ _ (first.time ready m holds) (λ stopped said p. (p.0, says_prefix old.beside.said a b said p.1)))
      (passes_more mid.time new.time _ _ (second.time (first.apart.ready ready) m (first.apart.content ∙ holds)) (λ stopped said p. (p.0, says_suffix old.beside.said a b said (subst (λ (told : Option (List ℕ)). SaysPart told b said) first.said p.1))));
}

-- ---- the room for what is said

-- some bytes that were said, and then others that are too many
pub passes_behind : (room : Option ℕ) (told : Option (List ℕ)) (a b : List ℕ) → PassesRoom room (with_suffix told a) b → PassesRoom room told (a ++ b)
passes_behind room told a b p = record {
  passes = λ most said is was.
      let more = p.passes most (said ++ a) is (ap (λ (o : Option (List ℕ)). with_suffix o a) was) in
      omega (arith, more, length-append said a, length-append a b);
}

-- the same by other names
pub passes_as : (room room' : Option ℕ) (told told' : Option (List ℕ)) (bytes bytes' : List ℕ) → PassesRoom room told bytes → room' ≡ room → told' ≡ told → bytes' ≡ bytes → PassesRoom room' told' bytes'
passes_as room room' told told' bytes bytes' p r t b = rw (r, t, b) p
