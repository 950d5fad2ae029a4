-- A batch that is planned, from the answers of the calls that plan it.
use Rattle.std.specs.Prelude.{IfOk, IfSome}
use Rattle.std.proofs.Common.{◌≡◌, ◌≤◌, ℕ, ◌+◌, List, length, Option, Some, None, Result, Ok, Err, sym, subst, arith}
use Rattle.ct_site.specs.Disks.{DiskView}
use Rattle.ct_keep.specs.declared.keepers.KeepFault.{KeepFault}
use Rattle.ct_keep.specs.Content.{Content, Change}
use Rattle.pg_map.specs.Done.{IsDone}
use Rattle.pg_map.specs.Kinds.{Each}
use Rattle.pg_batch.specs.BatchPages.{changed_pages, put_pages}
use Rattle.pg_directory.specs.declared.entries.Child.{Child}
use Rattle.pg_directory.specs.declared.entries.EntryAt.{EntryAt}
use Rattle.pg_directory.specs.Levels.{AreLeaves}
use Rattle.pg_directory.specs.Looking.{DiskHolds}
use Rattle.pg_directory.specs.Trees.{StorePage, key_at, HasString, Rise}
use Rattle.pg_leaves.specs.Editing.{edits_of, Rising}
use Rattle.pg_leaves.specs.Relisting.{IsRelisted}
use Rattle.pg_leaves.specs.declared.edits.Edit.{Edit}
use Rattle.pg_leaves.specs.declared.relisting.Relisted.{Relisted}
use Rattle.pg_plan.specs.Changes.{StandAt}
use Rattle.pg_plan.specs.Drafts.{Drafted}
use Rattle.pg_plan.specs.FreePlaces.{NeedsPages}
use Rattle.pg_change.specs.Planning.{HasFewPages, NeedsFew}

-- what is said of a batch that was planned, if it was
pub each_found : {T : Type 0} (result : Result (Option T) KeepFault) (P Q : T → Type 0) → ((x : T) → P x → Q x) → IfOk result (λ found. IfSome found P) → IfOk result (λ found. IfSome found Q)
each_found (Ok (Some x)) P Q of was = of x was
each_found (Ok None) P Q of was = tt
each_found (Err fault) P Q of was = tt

-- what was found
pub some_found : {T : Type 0} (found : Option T) (x : T) (P : T → Type 0) → IfSome found P → found ≡ Some x → P x
some_found (Some y) x P has is = let same : y ≡ x = cc in subst P same has
some_found None x P has is = absurd (cc is)

-- leaves and edits that were lent
pub relisted_is : (disk : DiskView) (homes top : ℕ) (pages : List StorePage) (es : List EntryAt) (lent cs : List Child) (lent_edits us : List Edit) (r : Relisted) → lent ≡ cs → lent_edits ≡ us
    → ((top : ℕ) (pages : List StorePage) (es : List EntryAt) → DiskHolds disk homes top pages → AreLeaves pages lent es → Each (HasString pages) es → Rise (key_at pages) es → Rising (edits_of lent_edits) → IsRelisted pages lent es (edits_of lent_edits) r)
    → DiskHolds disk homes top pages → AreLeaves pages cs es → Each (HasString pages) es → Rise (key_at pages) es → Rising (edits_of us) → IsRelisted pages cs es (edits_of us) r
relisted_is disk homes top pages es lent cs lent_edits us r same_leaves same_edits from holds are strings order rising =
    subst (λ (c : List Child). IsRelisted pages c es (edits_of us) r) same_leaves
    (subst (λ (u : List Edit). IsRelisted pages lent es (edits_of u) r) same_edits
    (from top pages es holds (subst (λ (c : List Child). AreLeaves pages c es) (sym same_leaves) are) strings order (subst (λ (u : List Edit). Rising (edits_of u)) (sym same_edits) rising)))

-- a draft after the entries were planned, and then the directory
pub few_pages : (old mid new : Drafted) (count noted given homes changes : ℕ) (ws : List Change) (places : List ℕ) → count ≡ length mid.now → noted ≡ length mid.touched → given ≡ homes → changes ≡ length ws
    → NeedsPages old.now mid.now (put_pages ws) → ((m : Content) → IsDone old.now m → StandAt old.now ws places → length mid.touched ≤ length old.touched + changed_pages ws m)
    → NeedsFew new count noted given changes → HasFewPages old new homes ws places
few_pages old mid new count noted given homes changes ws places is_count is_noted is_homes all needs touches few = record {
  pages = let a = needs.all in let p = few.pages in omega (arith, is_count, is_homes, all, a, p);
  notes = λ m done stand. let t = touches m done stand in let n = few.notes in omega (arith, is_noted, is_homes, all, t, n);
}
