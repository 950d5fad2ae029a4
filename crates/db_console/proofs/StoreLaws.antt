-- A run over the store of a site, from what loading and serving did.
use Rattle.std.specs.Prelude.{Err, ◌++◌, ◌==◌, length}
use Rattle.std.proofs.Common.{◌≡◌, ◌⊎◌, ◌+◌, ◌-◌, ◌≤◌, ℕ, suc, Bool, true, false, List, [], Option, Some, refl, sym, ap, subst, inl, inr, ◌∙◌, arith, length-append}
use base.Fml.{GName}
use Rattle.ct_base.specs.Told.{IsSaid}
use Rattle.ct_base.specs.laws.Told.{with_suffix-nil}
use Rattle.ct_base.specs.Moments.{Passes}
use Rattle.ct_base.specs.laws.Moments.{passes_more, passes_then}
use Rattle.ct_base.specs.Causes.{Rose}
use Rattle.ct_site.specs.FaultCounts.{rose_raised}
use Rattle.ct_site.specs.Disks.{DiskView, Beside, Leaves}
use Rattle.ct_keep.specs.Content.{Content}
use Rattle.ct_keep.specs.Changes.{HoldsWell}
use Rattle.ct_keep.specs.laws.Composing.{same_lender, same_limit}
use Rattle.ct_keep.specs.KeeperViews.{KeeperView, Counts, counted}
use Rattle.ct_keep.specs.KeeperStates.{no_counts}
use Rattle.pg_journal.specs.declared.faults.LoadFault.{LoadFault}
use Rattle.pg_journal.specs.declared.faults.LoadFault.TheVariants.{Memory, Disk, NotAStore}
use Rattle.pg_journal.specs.Looking.{Loads}
use Rattle.pg_journal.specs.Recovered.{IsStore, IsUnborn}
use Rattle.pg_directory.specs.Holding.{RecoversTo}
use Rattle.pg_heap.specs.Heaps.{HeapState, HeapStands}
use Rattle.pg_heap.specs.laws.Recovering.{held_told}
use Rattle.pg_journal.specs.Syncs.{SyncsAtMost}
use Rattle.pg_keeper.specs.Loading.{AlikeOrOneMap, HasNoStore, NeedsNoDirectory, OnlyLoads}
use Rattle.pg_keeper.specs.Paged.{told_content}
use Rattle.pg_keeper.specs.laws.Loading.{load_passes, no_two_stores}
use Rattle.db_engine.specs.Runs.{Turn, AllAllowed}
use Rattle.db_looks.specs.laws.Composing.{over_before}
use Rattle.db_state.specs.Shapes.{IsStoreEntry}
use Rattle.db_state.specs.States.{StandsForState}
use Rattle.db_console.specs.Worlds.{World, IsMoment}
use Rattle.db_console.proofs.WorldLaws.{commits_before}
use Rattle.db_console.specs.Asking.{AskedThen, Calls}
use Rattle.db_console.specs.Views.{Shows, ToldEndOnce}
use Rattle.db_console.specs.Table.{Because, Ends, Outcome, TellsPast, Completes, status_of, fault_of_ending}
use Rattle.db_console.specs.Stores.{LoadSyncs, SiteFaultsBy, ServedHeap, TellsOfStore, opening_view, store_view, status_of_load}
use Rattle.db_console.specs.declared.endings.Ending.{Ending}
use Rattle.db_console.specs.declared.endings.Ending.TheVariants.{Done, HearFault, SayFault, NoMemory, DiskFault, PastLimit}

-- ---- before a run, a store was loaded

-- Nothing was heard or said, and what a crash leaves is what was held.
pub record Opens (old new : KeeperView) : Type 0 where
  pub beside : new.beside ≡ old.beside
  pub fixed : new.fixed ≡ old.fixed
  pub counts : new.counts ≡ old.counts
  pub faults : new.disk_faults ≡ old.disk_faults
  pub syncs : new.disk_syncs ≡ old.disk_syncs
  pub content : new.content ≡ old.content
  pub time : (m : Content) → old.content ≡ Some m → Passes old.time new.time (λ stopped said. (stopped ≡ Some m) × IsSaid old.beside.said said)

told_before : (ended : Bool) (old mid : KeeperView) → mid.beside ≡ old.beside → counted ended mid.beside.ends ≡ counted ended old.beside.ends
told_before ended old mid same = ap (λ (b : Beside). counted ended b.ends) same

once_before : (old mid new : KeeperView) → mid.beside ≡ old.beside → ToldEndOnce mid.beside new.beside → ToldEndOnce old.beside new.beside
once_before old mid new same once = record { ended = once.ended; told = once.told ∙ told_before once.ended old mid same; here = once.here }

because_before : (most : ℕ) (taken : List ℕ) (old mid new : KeeperView) (ending : Ending) → mid.beside ≡ old.beside → Because most taken mid new ending → Because most taken old new ending
because_before most taken old mid new Done same b = (b.0, b.1, b.2 ∙ told_before true old mid same)
because_before most taken old mid new HearFault same b = (b.0, b.1 ∙ told_before false old mid same)
because_before most taken old mid new SayFault same b = (b.0, once_before old mid new same b.1)
because_before most taken old mid new NoMemory same b = (b.0, b.1 ∙ same)
because_before most taken old mid new DiskFault same b = (b.0, once_before old mid new same b.1)
because_before most taken old mid new PastLimit same b = (b.0, b.1 ∙ told_before false old mid same)

-- what was held before the first turn
moment_none : (limit : ℕ) (was : World) (turns : List Turn) (old : KeeperView) (stopped : Option Content) (said : List ℕ) → (w : Shows old was) → (stopped ≡ Some was.content) × IsSaid old.beside.said said → IsMoment limit was turns stopped said
moment_none limit was turns old stopped said w p = record {
  done = [];
  later = turns;
  split = refl;
  leaves = record { content = was.content; is = p.0; stands = w.stands };
  says = record { part = []; later = []; split = refl; is = with_suffix-nil was.said ∙ sym w.said ∙ p.1 };
}

pub outcome_before : (limit most : ℕ) (old mid new : KeeperView) (ending : Ending) → Opens old mid → Outcome limit most mid new ending → Outcome limit most old new ending
outcome_before limit most old mid new ending opens o = record {
  taken = o.taken;
  prefix = ap (λ (b : Beside). b.left) (sym opens.beside) ∙ o.prefix;
  faults = record {
    hear = o.faults.hear ∙ ap (λ (b : Beside). counted (status_of ending == 3) b.hear_faults) opens.beside;
    say = o.faults.say ∙ ap (λ (b : Beside). counted (status_of ending == 4) b.say_faults) opens.beside;
    disk = o.faults.disk ∙ ap (counted (status_of ending == 6)) opens.faults;
  };
  fixed = o.fixed ∙ opens.fixed;
  because = because_before most o.taken old mid new ending opens.beside o.because;
  ready = o.ready;
  course = λ was w.
      let c = o.course was (record { said = ap (λ (b : Beside). b.said) opens.beside ∙ w.said; holds = opens.content ∙ w.holds; stands = w.stands }) in
      record {
        turns = c.turns;
        allowed = subst (λ (n : ℕ). AllAllowed limit n was.state c.turns) (same_limit opens.fixed) c.allowed;
        ends = subst (λ (n : ℕ). Ends limit n most o.taken was c.turns new ending) (same_limit opens.fixed) c.ends;
        moments = passes_then old.time mid.time new.time _ (passes_more old.time mid.time _ _ (opens.time was.content w.holds) (λ stopped said p. moment_none limit was c.turns old stopped said w p)) c.moments;
        now = c.now;
        commits = commits_before c.turns old mid new opens.counts opens.syncs c.commits;
        looks = over_before StandsForState _ old mid new (fault_of_ending ending) opens.counts opens.content c.looks;
        asked = subst (λ (b : Beside). Calls b.hearings new.beside.hearings (AskedThen b.left o.taken limit was c.turns)) opens.beside c.asked;
      };
}

-- a disk that stands for a heap tells what it holds
pub told_loaded : (disk : DiskView) (heap : HeapState) (s : HeapStands disk heap) (m : Content) → s.held ≡ m → told_content disk.image ≡ Some m
told_loaded disk heap s m same =
    let told = s.holds.stands.settled.told in
    ap told_content told ∙ ap Some (held_told disk heap s s.holds.stands.image told ∙ same)

-- a store that was loaded
pub opens_loaded : (old new : DiskView) (opened : ℕ) (image : List ℕ) (m : Content) (heap : HeapState) (store : ℕ) (name : GName) → RecoversTo image (Some m) → told_content new.image ≡ Some m → Leaves old new (AlikeOrOneMap IsStoreEntry image)
    → new.beside ≡ old.beside → new.faults ≡ old.faults → Opens (opening_view (Some m) (record old { syncs = opened }) heap store name) (opening_view (told_content new.image) (record new { syncs = opened }) heap store name)
opens_loaded old new opened image m heap store name is told leaves beside faults = record {
  beside = beside;
  fixed = refl;
  counts = refl;
  faults = faults;
  syncs = refl;
  content = told;
  time = λ n holds. passes_more _ _ _ _ (load_passes IsStoreEntry old new image (Some m) is leaves) (λ stopped said p. (p.0 ∙ holds, p.1));
}

-- ---- what is served over a heap

pub same_name : (a b : GName) → Some a ≡ Some b → a ≡ b
same_name a b e = cc

pub served_over : (limit most store weight : ℕ) (old new : DiskView) (name last : GName) (heap later : HeapState) (counts : Counts) (ending : Ending)
    → Outcome limit most (store_view old heap store no_counts name) (store_view new later weight counts last) ending → ServedHeap limit most store 0 (told_content old.image) old new ending
served_over limit most store weight old new name last heap later counts ending o = record {
  opened = old.syncs;
  loads = omega arith;
  name = name;
  heap = heap;
  later = later;
  counts = counts;
  outcome =
      subst (λ (n : GName). Outcome limit most (store_view old heap store no_counts name) (store_view new later store counts n) ending) (same_name last name (same_lender o.fixed))
      (subst (λ (w : ℕ). Outcome limit most (store_view old heap store no_counts name) (store_view new later w counts last) ending) (same_limit o.fixed) o);
}

pub served_before : (limit most store loading : ℕ) (old mid new : DiskView) (image : List ℕ) (m : Content) (ending : Ending) → RecoversTo image (Some m) → told_content mid.image ≡ Some m → Leaves old mid (AlikeOrOneMap IsStoreEntry image)
    → mid.beside ≡ old.beside → mid.faults ≡ old.faults → mid.syncs ≤ old.syncs + loading → ServedHeap limit most store 0 (told_content mid.image) mid new ending → ServedHeap limit most store loading (Some m) old new ending
served_before limit most store loading old mid new image m ending is told leaves beside faults few s = record {
  opened = s.opened;
  loads = omega (arith, few, s.loads);
  name = s.name;
  heap = s.heap;
  later = s.later;
  counts = s.counts;
  outcome = outcome_before limit most _ _ _ ending (opens_loaded old mid s.opened image m s.heap store s.name is told leaves beside faults) s.outcome;
}

-- how many syncs loading took
pub load_syncs : (image : List ℕ) (old mid : DiskView) → SyncsAtMost 8 old mid → (NeedsNoDirectory IsStoreEntry image → OnlyLoads image old mid) → LoadSyncs image (mid.syncs - old.syncs)
load_syncs image old mid most needless = record {
  most = omega (arith, most);
  needless = λ needs. let few = (needless needs).syncs in omega (arith, few);
}

-- ---- statuses

pub not_two : (ending : Ending) → status_of ending ≡ 2 → ⊥
not_two Done is = omega (arith, is)
not_two HearFault is = omega (arith, is)
not_two SayFault is = omega (arith, is)
not_two NoMemory is = omega (arith, is)
not_two DiskFault is = omega (arith, is)
not_two PastLimit is = omega (arith, is)

pub not_seven : (ending : Ending) → status_of ending ≡ 7 → ⊥
not_seven Done is = omega (arith, is)
not_seven HearFault is = omega (arith, is)
not_seven SayFault is = omega (arith, is)
not_seven NoMemory is = omega (arith, is)
not_seven DiskFault is = omega (arith, is)
not_seven PastLimit is = omega (arith, is)

pub load_not_two : (fault : LoadFault) → status_of_load fault ≡ 2 → ⊥
load_not_two Memory is = omega (arith, is)
load_not_two Disk is = omega (arith, is)
load_not_two NotAStore is = omega (arith, is)

-- a store that can be loaded isn't refused
pub load_status : (fault : LoadFault) → (fault ≡ NotAStore → ⊥) → (status_of_load fault ≡ 5) ⊎ (status_of_load fault ≡ 6)
load_status Memory other = inl refl
load_status Disk other = inr refl
load_status NotAStore other = absurd (other refl)

-- what the status of a load tells of the file
pub load_tells : (image : List ℕ) (fault : LoadFault) → (fault ≡ NotAStore → HasNoStore IsStoreEntry image) → (fault ≡ Memory → IsUnborn image ⊎ IsStore image) → TellsOfStore image (status_of_load fault)
load_tells image Memory refused known = record { refused = λ is. let wrong : ⊥ = omega (arith, is) in absurd wrong; foreign = λ none. inl refl; unmarked = λ none. absurd (none (known refl)) }
load_tells image Disk refused known = record { refused = λ is. let wrong : ⊥ = omega (arith, is) in absurd wrong; foreign = λ none. inr (inl refl); unmarked = λ none. inl refl }
load_tells image NotAStore refused known = record { refused = λ is. refused refl; foreign = λ none. inr (inr refl); unmarked = λ none. inr refl }

-- and that of serving over it
pub serve_tells : (image : List ℕ) (m : Content) (ending : Ending) (status : ℕ) → status ≡ status_of ending → RecoversTo image (Some m) → HoldsWell IsStoreEntry m → IsUnborn image ⊎ IsStore image → TellsOfStore image status
serve_tells image m ending status is holds well known = record {
  refused = λ seven. absurd (not_seven ending (sym is ∙ seven));
  foreign = λ none. absurd (no_two_stores IsStoreEntry image m holds well none);
  unmarked = λ none. absurd (none known);
}

-- ---- faults

pub faults_before : (status : ℕ) (old mid new : DiskView) → mid.beside ≡ old.beside → mid.faults ≡ old.faults → SiteFaultsBy status mid new → SiteFaultsBy status old new
faults_before status old mid new beside faults f = record {
  hear = f.hear ∙ ap (λ (b : Beside). counted (status == 3) b.hear_faults) beside;
  say = f.say ∙ ap (λ (b : Beside). counted (status == 4) b.say_faults) beside;
  disk = f.disk ∙ ap (counted (status == 6)) faults;
}

pub faults_of_load : {T : Type 0} (fault : LoadFault) (old new : DiskView) → Loads {T = T} old new (Err fault) → SiteFaultsBy (status_of_load fault) old new
faults_of_load Memory old new l = record { hear = ap (λ (b : Beside). b.hear_faults) l.beside; say = ap (λ (b : Beside). b.say_faults) l.beside; disk = l.cause }
faults_of_load Disk old new l = record { hear = ap (λ (b : Beside). b.hear_faults) l.beside; say = ap (λ (b : Beside). b.say_faults) l.beside; disk = l.cause }
faults_of_load NotAStore old new l = record { hear = ap (λ (b : Beside). b.hear_faults) l.beside; say = ap (λ (b : Beside). b.say_faults) l.beside; disk = l.cause }

-- ---- where the script is told

-- nothing was taken
pub past_none : (most : ℕ) (fault : LoadFault) (old new : Beside) → new ≡ old → TellsPast most (status_of_load fault) old new
past_none most fault old new same = record { tells = λ taken left was now. (λ is. absurd (not_eight fault is), λ long. absurd (no taken left (sym was ∙ ap (λ (b : Beside). b.left) (sym same) ∙ now) long)) }
  where
    not_eight : (fault : LoadFault) → status_of_load fault ≡ 8 → ⊥
    not_eight Memory is = omega (arith, is)
    not_eight Disk is = omega (arith, is)
    not_eight NotAStore is = omega (arith, is)

    no : (taken left : List ℕ) → Some (taken ++ left) ≡ Some left → length taken ≡ suc most → ⊥
    no taken left e long =
        let one : taken ++ left ≡ left = cc in
        let same_length = ap (λ (l : List ℕ). length l) one in
        omega (arith, same_length, length-append taken left, long)

pub past_before : (most status : ℕ) (old mid new : Beside) → mid ≡ old → TellsPast most status mid new → TellsPast most status old new
past_before most status old mid new same t = subst (λ (b : Beside). TellsPast most status b new) same t

pub completes_before : (most status : ℕ) (old mid new : DiskView) → mid.beside ≡ old.beside → mid.faults ≡ old.faults
    → Completes most status mid.beside new.beside (¬ Rose mid.faults new.faults) → Completes most status old.beside new.beside (¬ Rose old.faults new.faults)
completes_before most status old mid new beside faults c =
    subst (λ (n : ℕ). Completes most status old.beside new.beside (¬ Rose n new.faults)) faults
    (subst (λ (b : Beside). Completes most status b new.beside (¬ Rose mid.faults new.faults)) beside c)

-- a store that wasn't loaded: there was no memory, or the disk failed
pub completes_none : {T : Type 0} (most : ℕ) (fault : LoadFault) (old new : DiskView) → (fault ≡ NotAStore → ⊥) → Loads {T = T} old new (Err fault) → Completes most (status_of_load fault) old.beside new.beside (¬ Rose old.faults new.faults)
completes_none most Memory old new other l = record { completes = λ script told short hear say quiet. inr refl }
completes_none most Disk old new other l = record { completes = λ script told short hear say quiet. absurd (quiet (rose_raised old.faults new.faults l.cause)) }
completes_none most NotAStore old new other l = absurd (other refl)
