-- What the ways out of the function of a statement tell over any content.
use Rattle.std.proofs.Common.{◌≡◌, ℕ, Some, None, Ok, Err, Vec, refl, Option, Result, sym, subst, inl, inr}
use Rattle.std.specs.declared.alloc.Global.{Global}
use Rattle.ct_keep.specs.Content.{Content}
use Rattle.ct_keep.specs.declared.keepers.KeepFault.TheVariants.{Memory, Full as NoRoom, Disk}
use Rattle.ct_keep.specs.KeeperViews.{KeeperView, SameButContent, ReadsKeeper, Goes, IsDurable, fault_of}
use Rattle.db_state.specs.Plans.{DoneLines, line_for_all, CommitsOnce, ContentStays, Returns, ReturnsBy}
use Rattle.ct_base.specs.laws.Moments.{passes_more}
use Rattle.ct_keep.specs.declared.keepers.KeepFault.{KeepFault}
use Rattle.ct_keep.specs.laws.Composing.{reads_on, reads_hold, reads_then, reads_only, reads_failed}

-- what is kept unless the disk failed
pub kept_memory : (old new : KeeperView) → SameButContent old new (Some Memory) → SameButContent old new None
kept_memory old new kept = record { ready = kept.ready; beside = kept.beside; well = kept.well; fixed = kept.fixed; later = kept.later; cause = kept.cause }

pub kept_full : (old new : KeeperView) → SameButContent old new (Some NoRoom) → SameButContent old new None
kept_full old new kept = record { ready = kept.ready; beside = kept.beside; well = kept.well; fixed = kept.fixed; later = kept.later; cause = kept.cause }

-- ---- before a commit

-- reads that ended for want of memory or of room are reads
pub reads_memory : (old new : KeeperView) → ReadsKeeper old new (Some Memory) → ReadsKeeper old new None
reads_memory old new reads = record { not_full = λ e. cc; kept = kept_memory old new reads.kept; content = reads.content; time = reads.time; now = reads.now; fulls = reads.fulls; commits = reads.commits; syncs = reads.syncs }

-- they leave the content
pub stays_read : (old new : KeeperView) → IsDurable old → ReadsKeeper old new None → ContentStays old new
stays_read old new settled reads = λ c holds. reads_only c old new settled holds reads

pub returns_failed : (done : DoneLines) (old new : KeeperView) (fault : KeepFault) → IsDurable old → ReadsKeeper old new (Some fault) → Returns done old new (Err fault)
returns_failed done old new Memory settled reads = stays_read old new settled (reads_memory old new reads)
returns_failed done old new NoRoom settled reads = absurd (reads.not_full refl)
returns_failed done old new Disk settled reads = λ c holds. record { next = c; goes = reads_failed c c old new Disk settled holds reads }

-- ---- a commit

came_failed : (c next : Content) (old new : KeeperView) → Goes c next old new (Some Memory) → Goes c c old new None
came_failed c next old new goes = record {
  content = goes.content;
  time = passes_more old.time new.time _ _ goes.time (λ stopped said p. (inl p.0, p.1));
  now = λ stopped said now. let p = goes.now stopped said now in (inl p.0, p.1);
}

came_full : (c next : Content) (old new : KeeperView) → Goes c next old new (Some NoRoom) → Goes c c old new None
came_full c next old new goes = record {
  content = goes.content;
  time = passes_more old.time new.time _ _ goes.time (λ stopped said p. (inl p.0, p.1));
  now = λ stopped said now. let p = goes.now stopped said now in (inl p.0, p.1);
}

pub returns_uncommitted : (done : DoneLines) (old new : KeeperView) (next : Content → Content) (result : Result (Vec ℕ Global) KeepFault) (fault : KeepFault) → ((c : Content) → old.content ≡ Some c → Goes c (next c) old new (Some fault))
    → (x : KeepFault) × (result ≡ Err x) × (x ≡ fault) → Returns done old new result
returns_uncommitted done old new next result fault goes p =
    subst (Returns done old new) (sym p.1)
    (subst (λ (x : KeepFault). Returns done old new (Err x)) (sym p.2) (failed fault goes))
  where
    failed : (fault : KeepFault) → ((c : Content) → old.content ≡ Some c → Goes c (next c) old new (Some fault)) → Returns done old new (Err fault)
    failed Memory goes = λ c holds. came_failed c (next c) old new (goes c holds)
    failed NoRoom goes = λ c holds. came_full c (next c) old new (goes c holds)
    failed Disk goes = λ c holds. record { next = next c; goes = goes c holds }

pub returns_committed : (old new : KeeperView) (next : Content → Content) (reply : Vec ℕ Global) → ((c : Content) → old.content ≡ Some c → Goes c (next c) old new None) → Returns (line_for_all reply.items) old new (Ok reply)
returns_committed old new next reply goes = inl (record { rows = 0; says = refl; commits = λ c holds. record { next = next c; goes = goes c holds } })

-- ---- reads, and then more

stays_then : (old mid new : KeeperView) → ReadsKeeper old mid None → ContentStays mid new → ContentStays old new
stays_then old mid new reads stays = λ c holds. reads_then c c old mid new None reads (stays c (reads_hold old mid c reads holds))

commits_then : (old mid new : KeeperView) (fault : Option KeepFault) → ReadsKeeper old mid None → CommitsOnce mid new fault → CommitsOnce old new fault
commits_then old mid new fault reads commits = λ c holds.
    let x = commits c (reads_hold old mid c reads holds) in
    record { next = x.next; goes = reads_then c x.next old mid new fault reads x.goes }

pub returns_then : (done : DoneLines) (old mid new : KeeperView) (result : Result (Vec ℕ Global) KeepFault) → ReadsKeeper old mid None → Returns done mid new result → Returns done old new result
returns_then done old mid new (Ok reply) reads (inl made) = inl (record { rows = made.rows; says = made.says; commits = commits_then old mid new None reads made.commits })
returns_then done old mid new (Ok reply) reads (inr refused) = inr (record { refusal = refused.refusal; says = refused.says; reads = reads_on old mid new None reads refused.reads })
returns_then done old mid new (Err Memory) reads stays = stays_then old mid new reads stays
returns_then done old mid new (Err NoRoom) reads stays = stays_then old mid new reads stays
returns_then done old mid new (Err Disk) reads commits = commits_then old mid new (Some Disk) reads commits

-- ---- by the line that a statement has

pub looks_none : (line : Option DoneLines) (old new : KeeperView) (result : Result (Vec ℕ Global) KeepFault) → line ≡ None → ReturnsBy line old new result → ReadsKeeper old new (fault_of result)
looks_none None old new result is looks = looks
looks_none (Some done) old new result is returns = cc

pub returns_some : (line : Option DoneLines) (done : DoneLines) (old new : KeeperView) (result : Result (Vec ℕ Global) KeepFault) → line ≡ Some done → ReturnsBy line old new result → Returns done old new result
returns_some None done old new result is looks = cc
returns_some (Some line) done old new result is returns = let same : line ≡ done = cc in subst (λ (l : DoneLines). Returns l old new result) same returns
