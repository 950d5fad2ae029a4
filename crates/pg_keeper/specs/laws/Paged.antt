-- Laws of a keeper over the disk of a site.
use Rattle.std.specs.Prelude.{ℕ, ◌≡◌, ◌⊎◌, ◌≤◌, List, Option, Some, None, Result, Ok, Err, refl, IfOk}
use Rattle.ct_keep.specs.KeeperViews.{fault_of, AnswersCommit, KeeperView, Counts, IsDurable, Goes, ReadsKeeper, SameButContent, KeeperHears, KeeperSays, UnlessDisk, looked_up}
use Rattle.std.proofs.Common.{sym, ap, subst, inl, inr, ⊎_elim, ◌∙◌}
use base.Fml.{GName}
use Rattle.ct_base.specs.Moments.{Timeline, Passes, AddsNothing}
use Rattle.ct_base.specs.laws.Moments.{passes_nothing}
use Rattle.ct_base.specs.Told.{IsSaid}
use Rattle.ct_site.specs.Disks.{Beside, DiskView, IsNow, IsSame, Leaves, Hears, Says}
use Rattle.ct_keep.specs.declared.keepers.KeepFault.{KeepFault}
use Rattle.ct_keep.specs.declared.keepers.KeepFault.TheVariants.{Memory, Disk, Full}
use Rattle.ct_keep.specs.Content.{Content, Change, after}
use Rattle.ct_keep.specs.Changes.{AreWell, HoldsWell}
use Rattle.ct_keep.specs.Counting.{IsOwner, count_under, prefix_count}
use Rattle.ct_keep.specs.laws.Changes.{holds_after}
use Rattle.pg_cache.specs.Caches.{Mirrors}
use Rattle.pg_cache.specs.laws.Caches.{one_pages}
use Rattle.pg_journal.specs.Standing.{DiskStands}
use Rattle.pg_directory.specs.Holding.{RecoversTo}
use Rattle.pg_directory.specs.ToldMap.{told_map}
use Rattle.pg_change.specs.Commits.{ReadsPages}
use Rattle.pg_heap.specs.Applying.{Applies, IsEitherMap, IsUnchanged}
use Rattle.pg_heap.specs.Heaps.{HeapState, HeapStands, IsReady, IsAsBefore}
use Rattle.pg_heap.specs.Recovering.{recovered}
use Rattle.pg_heap.specs.laws.Recovering.{one_recovery, recovered_passes, held_told, left_recovers, one_held, stands_recovers}
use Rattle.pg_keeper.specs.Paged.{IsUsable, told_content, LeavesNow, paged_view}

-- ---- where a content is told, an image is, and the disk stands for pages that hold it

pub record IsTold (told : Option (List ℕ)) (m : Content) : Type 0 where
  pub image : List ℕ
  pub is : told ≡ Some image
  pub one : told_map image ≡ m

pub told_of : (told : Option (List ℕ)) (m : Content) → told_content told ≡ Some m → IsTold told m
told_of None m is = absurd (let wrong : None ≡ Some m = is in cc)
told_of (Some image) m is = record { image = image; is = refl; one = let both : Some (told_map image) ≡ Some m = is in cc }

pub record HoldsTold (disk : DiskView) (heap : HeapState) (m : Content) : Type 0 where
  pub image : List ℕ
  pub told : disk.image ≡ Some image
  pub stands : HeapStands disk heap
  pub one : stands.held ≡ m

pub held_of : (disk : DiskView) (heap : HeapState) (well : List ℕ → List ℕ → Type 0) (m : Content) → IsUsable disk heap well → told_content disk.image ≡ Some m → HoldsTold disk heap m
held_of disk heap well m ready holds =
    let t = told_of disk.image m holds in
    let s = ready.ready.stands t.image t.is in
    record { image = t.image; told = t.is; stands = s; one = sym (held_told disk heap s t.image t.is) ∙ t.one }

-- what is said of the map of the heap holds of the content that is told
pub as_told : {T : Type 0} (disk : DiskView) (heap : HeapState) (well : List ℕ → List ℕ → Type 0) (P : Content → T → Type 0) (result : Result T KeepFault) → IsUsable disk heap well → ((s : HeapStands disk heap) → IfOk result (P s.held))
    → (m : Content) → told_content disk.image ≡ Some m → IfOk result (P m)
as_told disk heap well P result ready given m holds = let h = held_of disk heap well m ready holds in subst (λ (n : Content). IfOk result (P n)) h.one (given h.stands)

-- the counts by owners are those of the content
pub counts_told : (disk : DiskView) (heap : HeapState) (well : List ℕ → List ℕ → Type 0) (owner : List ℕ) (n : ℕ) → IsUsable disk heap well → IsOwner owner → n ≡ prefix_count owner heap.counts
    → (m : Content) → told_content disk.image ≡ Some m → n ≡ count_under owner m
counts_told disk heap well owner n ready is count m holds = let h = held_of disk heap well m ready holds in count ∙ h.stands.counted.each owner is ∙ ap (count_under owner) h.one

module _ (disk : DiskView) (heap : HeapState) (well : List ℕ → List ℕ → Type 0) (limit : ℕ) (counts : Counts) (lender : GName) where
  pub paged_durable : IsUsable disk heap well → IsDurable (paged_view disk heap well limit counts lender)
  paged_durable ready = record {
    here = λ m holds stopped said n.
        let h = held_of disk heap well m ready holds in
        (one_recovery n.image stopped (Some h.stands.held) n.is (left_recovers disk heap h.stands n.image n.left.0) ∙ ap Some h.one, n.left.1);
  }

  pub paged_holds : IsUsable disk heap well → (m : Content) → told_content disk.image ≡ Some m → HoldsWell well m
  paged_holds ready m holds = let h = held_of disk heap well m ready holds in subst (HoldsWell well) h.one (ready.entries h.stands)

  pub paged_now : ((image said : List ℕ) → disk.time.since disk.time.clock image said → IsNow disk image said)
      → (stopped : Option Content) (said : List ℕ) → (recovered disk.time).since disk.time.clock stopped said → LeavesNow disk stopped said
  paged_now only stopped said (image, now, is) = record { image = image; left = only image said now; is = is }

  pub paged_counts_now : ((t : ℕ) (image said : List ℕ) → t ≤ disk.time.clock → IsNow disk image said → disk.time.since t image said)
      → (t : ℕ) (stopped : Option Content) (said : List ℕ) → t ≤ disk.time.clock → LeavesNow disk stopped said → (recovered disk.time).since t stopped said
  paged_counts_now counts t stopped said le now = (now.image, counts t now.image said le now.left, now.is)

  pub paged_may_stay : ((image : List ℕ) → disk.image ≡ Some image → disk.may_leave image) → IsUsable disk heap well
      → (m : Content) (said : List ℕ) → told_content disk.image ≡ Some m → IsSaid disk.beside.said said → LeavesNow disk (Some m) said
  paged_may_stay stay ready m said holds was =
      let h = held_of disk heap well m ready holds in
      record { image = h.image; left = (stay h.image h.told, was); is = subst (λ (n : Content). RecoversTo h.image (Some n)) h.one (stands_recovers disk heap h.stands h.image h.told) }

-- ---- a disk that tells what it told, and of which a crash leaves nothing new

stands_unchanged : (old new : DiskView) (homes : ℕ) (pages : List (List ℕ)) → new.image ≡ old.image → ((image : List ℕ) → new.may_leave image → old.may_leave image) → DiskStands old homes pages → DiskStands new homes pages
stands_unchanged old new homes pages same crash st = record {
  image = st.image;
  settled = record { told = same ∙ st.settled.told; only = λ image left. st.settled.only image (crash image left) };
  shut = st.shut;
}

heap_unchanged : (old new : DiskView) (heap : HeapState) → new.image ≡ old.image → ((image : List ℕ) → new.may_leave image → old.may_leave image) → HeapStands old heap → HeapStands new heap
heap_unchanged old new heap same crash s = record {
  pages = s.pages;
  held = s.held;
  holds = record { stands = stands_unchanged old new heap.homes _ same crash s.holds.stands; are = s.holds.are; count = s.holds.count };
  layout = s.layout;
  directory = s.directory;
  free = s.free;
  weighs = s.weighs;
  counted = s.counted;
}

ready_unchanged : (old new : DiskView) (heap : HeapState) → new.image ≡ old.image → ((image : List ℕ) → new.may_leave image → old.may_leave image) → IsReady old heap → IsReady new heap
ready_unchanged old new heap same crash ready = record {
  cache = record {
    stands = λ image told. let s = ready.cache.stands image (sym same ∙ told) in (s.0, stands_unchanged old new heap.homes s.0 same crash s.1);
    mirrors = λ pages st.
        let s = ready.cache.stands st.image (sym same ∙ st.settled.told) in
        subst (Mirrors heap.cache) (sym (one_pages old new heap.homes s.0 pages same s.1 st)) (ready.cache.mirrors s.0 s.1);
  };
  stands = λ image told. heap_unchanged old new heap same crash (ready.stands image (sym same ∙ told));
}

-- its entries are those that were there
pub entries_unchanged : (old new : DiskView) (heap heap' : HeapState) (well : List ℕ → List ℕ → Type 0) → IsReady old heap → ((s : HeapStands old heap) → HoldsWell well s.held) → new.image ≡ old.image → (t : HeapStands new heap') → HoldsWell well t.held
entries_unchanged old new heap heap' well ready entries same t =
    let s = ready.stands t.holds.stands.image (sym same ∙ t.holds.stands.settled.told) in
    subst (HoldsWell well) (sym (one_held old new heap heap' s t same)) (entries s)

pub usable_unchanged : (old new : DiskView) (heap : HeapState) (well : List ℕ → List ℕ → Type 0) → new.image ≡ old.image → ((image : List ℕ) → new.may_leave image → old.may_leave image) → IsUsable old heap well → IsUsable new heap well
usable_unchanged old new heap well same crash ready = record {
  ready = ready_unchanged old new heap same crash ready.ready;
  directed = ready.directed;
  entries = entries_unchanged old new heap heap well ready.ready ready.entries same;
}

-- a heap with the same top and the same places
usable_with : (old new : DiskView) (heap heap' : HeapState) (well : List ℕ → List ℕ → Type 0) → IsSame old new → IsReady new heap' → heap'.top ≡ heap.top → heap'.places ≡ heap.places → IsUsable old heap well → IsUsable new heap' well
usable_with old new heap heap' well same is top places ready = record {
  ready = is;
  directed = λ none. places ∙ ready.directed (sym top ∙ none);
  entries = entries_unchanged old new heap heap' well ready.ready ready.entries same.image;
}

-- other pages may be kept in memory
pub usable_before : (old new : DiskView) (heap heap' : HeapState) (well : List ℕ → List ℕ → Type 0) → IsSame old new → IsReady new heap' → IsAsBefore heap heap' → IsUsable old heap well → IsUsable new heap' well
usable_before old new heap heap' well same is before = usable_with old new heap heap' well same is (ap (λ (h : HeapState). h.top) before.is) (ap (λ (h : HeapState). h.places) before.is)

-- and the counts may be kept otherwise
pub usable_still : (old new : DiskView) (heap heap' : HeapState) (well : List ℕ → List ℕ → Type 0) → IsSame old new → IsReady new heap' → IsUnchanged heap heap' → IsUsable old heap well → IsUsable new heap' well
usable_still old new heap heap' well same is still = usable_with old new heap heap' well same is (ap (λ (h : HeapState). h.top) still.is) (ap (λ (h : HeapState). h.places) still.is)

-- ---- hearing and saying

-- no moment of the disk came, so none of what it recovers to
pub adds_recovered : (old new : Timeline (List ℕ)) → AddsNothing old new → AddsNothing (recovered old) (recovered new)
adds_recovered old new same = record { same = λ t stopped said (image, now, is). (image, same.same t image said now, is) }

module _ (old new : DiskView) (heap : HeapState) (well : List ℕ → List ℕ → Type 0) (limit : ℕ) (counts : Counts) (lender : GName) where
  pub paged_hears : (heard : List ℕ) → Hears heard old new → KeeperHears heard (paged_view old heap well limit counts lender) (paged_view new heap well limit counts lender)
  paged_hears heard hears = record {
    apart = record {
      ready = usable_unchanged old new heap well hears.same.image hears.same.crash;
      well = record { takes = λ key value is. is };
      fixed = refl;
      content = ap told_content hears.same.image;
      counts = refl;
      disk_faults = hears.faults;
      disk_syncs = hears.same.syncs;
    };
    left = hears.left;
    said = hears.said;
    asks = hears.asks;
    say_faults = hears.say_faults;
    time = adds_recovered old.time new.time hears.same.time;
  }

  pub paged_says : (told : List ℕ) → Says told old new → KeeperSays told (paged_view old heap well limit counts lender) (paged_view new heap well limit counts lender)
  paged_says told says = record {
    apart = record {
      ready = usable_unchanged old new heap well says.image says.crash;
      well = record { takes = λ key value is. is };
      fixed = refl;
      content = ap told_content says.image;
      counts = refl;
      disk_faults = says.faults;
      disk_syncs = says.syncs;
    };
    said = says.said;
    left = says.left;
    hearings = says.hearings;
    ends = says.ends;
    hear_faults = says.hear_faults;
    time = λ ready m holds.
        let h = held_of old heap well m ready holds in
        record {
          adds = λ time stopped said (image, now, is).
              ⊎_elim (λ was. inl (image, was, is))
              (λ p. inr (one_recovery image stopped (Some h.stands.held) is (left_recovers old heap h.stands image p.0) ∙ ap Some h.one, p.1))
              (says.time.adds time image said now);
        };
  }

-- ---- look-ups

-- a look-up, after which the disk is as it was to a reader, and the heap but for the pages that are kept in memory
pub looked : {T : Type 0} (old new : DiskView) (heap heap' : HeapState) (well : List ℕ → List ℕ → Type 0) (limit : ℕ) (counts counts' : Counts) (lender : GName) (asked : List ℕ) (handed : Option (List ℕ)) (result : Result T KeepFault)
    → IsUsable old heap well → IsReady new heap' → IsAsBefore heap heap' → ReadsPages old new result → (result ≡ Err Full → ⊥) → counts' ≡ looked_up asked handed counts
    → ReadsKeeper (paged_view old heap well limit counts lender) (paged_view new heap' well limit counts' lender) (fault_of result)
looked old new heap heap' well limit counts counts' lender asked handed result ready is before reads full counted = record {
  not_full = never_full result full;
  kept = record {
    ready = unless_disk (fault_of result) (usable_before old new heap heap' well reads.same is before ready);
    beside = reads.beside;
    well = record { takes = λ key value is. is };
    fixed = refl;
    later = reads.later;
    cause = reads.faults;
  };
  content = unless_disk (fault_of result) (ap told_content reads.same.image);
  time = adds_recovered old.time new.time reads.same.time;
  now = λ stopped said n. record { image = n.image; left = (reads.same.crash n.image n.left.0, subst (λ (b : Beside). IsSaid b.said said) reads.beside n.left.1); is = n.is };
  fulls = ap (λ (c : Counts). c.fulls) counted;
  commits = ap (λ (c : Counts). c.commits) counted;
  syncs = reads.same.syncs;
}
  where
    unless_disk : {P : Type 0} (fault : Option KeepFault) → P → UnlessDisk fault P
    unless_disk None p = p
    unless_disk (Some Memory) p = p
    unless_disk (Some Full) p = p
    unless_disk (Some Disk) p = tt

    never_full : {T : Type 0} (result : Result T KeepFault) → (result ≡ Err Full → ⊥) → fault_of result ≡ Some Full → ⊥
    never_full (Ok x) full e = cc e
    never_full (Err Memory) full e = cc e
    never_full (Err Full) full e = full refl
    never_full (Err Disk) full e = cc e

-- ---- a commit

left_one : (m next : Content) (image : List ℕ) (stopped : Option Content) → IsEitherMap m next image → RecoversTo image stopped → (stopped ≡ Some m) ⊎ (stopped ≡ Some next)
left_one m next image stopped either is = ⊎_elim (λ r. inl (one_recovery image stopped (Some m) is r)) (λ r. inr (one_recovery image stopped (Some next) is r)) either

-- what came of a commit of pages, as the keeper has it: the moments of the disk are those of the old map and of the new one
module _ (old new : DiskView) (heap heap' : HeapState) (well : List ℕ → List ℕ → Type 0) (limit : ℕ) (counts counts' : Counts) (lender : GName) (batch : List Change) (held : Content) where
  abbrev was : KeeperView
  was = paged_view old heap well limit counts lender

  abbrev is_now : KeeperView
  is_now = paged_view new heap' well limit counts' lender

  moments : Leaves old new (IsEitherMap held (after batch held)) → Passes was.time is_now.time (λ stopped said. ((stopped ≡ Some held) ⊎ (stopped ≡ Some (after batch held))) × IsSaid old.beside.said said)
  moments leaves = recovered_passes old.time new.time (IsEitherMap held (after batch held)) (λ stopped. (stopped ≡ Some held) ⊎ (stopped ≡ Some (after batch held))) old.beside.said leaves.time
      (λ image stopped either is. left_one held (after batch held) image stopped either is)

  now_left : new.beside ≡ old.beside → Leaves old new (IsEitherMap held (after batch held)) → (stopped : Option Content) (said : List ℕ) → LeavesNow new stopped said
      → ((stopped ≡ Some held) ⊎ (stopped ≡ Some (after batch held))) × IsSaid old.beside.said said
  now_left beside leaves stopped said n =
      (left_one held (after batch held) n.image stopped (leaves.now n.image n.left.0) n.is, subst (λ b. IsSaid b said) (ap (λ b. b.said) beside) n.left.1)

  -- it was done
  pub committed_goes : (m : Content) → held ≡ m → (t : HeapStands new heap') → t.held ≡ after batch held → new.beside ≡ old.beside → Leaves old new (IsEitherMap held (after batch held)) → Goes m (after batch m) was is_now None
  committed_goes m one t made beside leaves =
      let told = t.holds.stands.settled.told in
      subst (λ (n : Content). Goes n (after batch n) was is_now None) one (record {
        content = ap told_content told ∙ ap Some (held_told new heap' t t.holds.stands.image told ∙ made);
        time = moments leaves;
        now = now_left beside leaves;
      })

  -- the disk failed
  pub failed_goes : (m : Content) → held ≡ m → new.beside ≡ old.beside → Leaves old new (IsEitherMap held (after batch held)) → Goes m (after batch m) was is_now (Some Disk)
  failed_goes m one beside leaves = subst (λ (n : Content). Goes n (after batch n) was is_now (Some Disk)) one (record { content = tt; time = moments leaves; now = now_left beside leaves })

-- nothing was done, for want of memory or room
module _ (old new : DiskView) (heap heap' : HeapState) (well : List ℕ → List ℕ → Type 0) (limit : ℕ) (counts counts' : Counts) (lender : GName) (m next : Content) where
  abbrev stood : KeeperView
  stood = paged_view old heap well limit counts lender

  abbrev stands_now : KeeperView
  stands_now = paged_view new heap' well limit counts' lender

  same_content : IsSame old new → told_content old.image ≡ Some m → told_content new.image ≡ Some m
  same_content same holds = ap told_content same.image ∙ holds

  same_moments : IsSame old new → Passes stood.time stands_now.time (λ stopped said. (stopped ≡ Some m) × IsSaid old.beside.said said)
  same_moments same = passes_nothing stood.time stands_now.time _ (adds_recovered old.time new.time same.time)

  left_same : IsSame old new → new.beside ≡ old.beside → told_content old.image ≡ Some m → IsUsable old heap well → (stopped : Option Content) (said : List ℕ) → LeavesNow new stopped said → (stopped ≡ Some m) × IsSaid old.beside.said said
  left_same same beside holds ready stopped said n =
      (paged_durable old heap well limit counts lender ready).here m holds stopped said
      (record { image = n.image; left = (same.crash n.image n.left.0, subst (λ (b : Beside). IsSaid b.said said) beside n.left.1); is = n.is })

  pub stayed_goes : IsSame old new → new.beside ≡ old.beside → told_content old.image ≡ Some m → IsUsable old heap well → Goes m next stood stands_now (Some Memory)
  stayed_goes same beside holds ready = record { content = same_content same holds; time = same_moments same; now = left_same same beside holds ready }

  pub refused_goes : IsSame old new → new.beside ≡ old.beside → told_content old.image ≡ Some m → IsUsable old heap well → Goes m next stood stands_now (Some Full)
  refused_goes same beside holds ready = record { content = same_content same holds; time = same_moments same; now = left_same same beside holds ready }

-- each entry is one that the keeper may hold, also of a map that came of the one before
pub entries_moved : (old new : DiskView) (heap heap' : HeapState) (well : List ℕ → List ℕ → Type 0) (next : Content → Content) → IsReady old heap → (old.image ≡ None → new.image ≡ None) → ((s : HeapStands old heap) → HoldsWell well (next s.held))
    → ((s : HeapStands old heap) → (t : HeapStands new heap') × (t.held ≡ next s.held)) → (t : HeapStands new heap') → HoldsWell well t.held
entries_moved old new heap heap' well next ready untold entries makes t = of old.image refl
  where
    of : (told : Option (List ℕ)) → old.image ≡ told → HoldsWell well t.held
    of None is = absurd (let no : None ≡ Some t.holds.stands.image = sym (untold is) ∙ t.holds.stands.settled.told in cc)
    of (Some image) is =
        let s = ready.stands image is in
        let n = makes s in
        subst (HoldsWell well) (sym (one_held new new heap' heap' n.0 t refl ∙ n.1)) (entries s)

module _ (old new : DiskView) (heap heap' : HeapState) (well : List ℕ → List ℕ → Type 0) (limit : ℕ) (counts counts' : Counts) (lender : GName) (batch : List Change) where
  pub ready_applied : {T : Type 0} (result : Result T KeepFault) → IsUsable old heap well → AreWell well batch → Applies batch old new heap heap' result → UnlessDisk (fault_of result) (IsUsable new heap' well)
  ready_applied (Ok x) ready are a = record { ready = a.ready; directed = a.directed; entries = entries_moved old new heap heap' well (after batch) ready.ready a.commits.untold (λ s. holds_after well s.held batch (ready.entries s) are) a.stands }
  ready_applied (Err Memory) ready are a = usable_still old new heap heap' well a.unwritten a.ready a.err ready
  ready_applied (Err Full) ready are a = usable_still old new heap heap' well a.unwritten a.ready a.err ready
  ready_applied (Err Disk) ready are a = tt

  pub kept_applied : {T : Type 0} (result : Result T KeepFault) → IsUsable old heap well → AreWell well batch → Applies batch old new heap heap' result
      → SameButContent (paged_view old heap well limit counts lender) (paged_view new heap' well limit counts' lender) (fault_of result)
  kept_applied result ready are a = record {
    ready = ready_applied result ready are a;
    beside = a.commits.beside;
    well = record { takes = λ key value is. is };
    fixed = refl;
    later = a.commits.later;
    cause = a.commits.faults;
  }

  pub goes_applied : {T : Type 0} (result : Result T KeepFault) → IsUsable old heap well → Applies batch old new heap heap' result → (m : Content) → told_content old.image ≡ Some m
      → Goes m (after batch m) (paged_view old heap well limit counts lender) (paged_view new heap' well limit counts' lender) (fault_of result)
  goes_applied (Ok x) ready a m holds =
      let h = held_of old heap well m ready holds in
      let t = a.stands h.stands in
      committed_goes old new heap heap' well limit counts counts' lender batch h.stands.held m h.one t.0 t.1 a.commits.beside (a.moments h.stands)
  goes_applied (Err Memory) ready a m holds = stayed_goes old new heap heap' well limit counts counts' lender m (after batch m) a.unwritten a.commits.beside holds ready
  goes_applied (Err Full) ready a m holds = refused_goes old new heap heap' well limit counts counts' lender m (after batch m) a.unwritten a.commits.beside holds ready
  goes_applied (Err Disk) ready a m holds =
      let h = held_of old heap well m ready holds in
      failed_goes old new heap heap' well limit counts counts' lender batch h.stands.held m h.one a.commits.beside (a.moments h.stands)

  -- why it was answered so, where the content is told
  pub answers_told : (fault : Option KeepFault) → IsUsable old heap well → ((s : HeapStands old heap) → AnswersCommit fault limit s.held (after batch s.held)) → (m : Content) → told_content old.image ≡ Some m → AnswersCommit fault limit m (after batch m)
  answers_told fault ready answers m holds = let h = held_of old heap well m ready holds in subst (λ (n : Content). AnswersCommit fault limit n (after batch n)) h.one (answers h.stands)
