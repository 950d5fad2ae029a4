-- What hearing, answering and saying keep.
use Rattle.std.specs.Result.{IfOk}
use Rattle.std.proofs.lemmas.List.{take-append-le}
use Rattle.std.proofs.Common.{◌≡◌, ◌≤◌, ◌++◌, [], length, take, ℕ, List, Bool, true, false, Option, Some, None, Result, Ok, Err, is_err, refl, ap, subst, arith, ◌∙◌}
use Rattle.std.specs.Prelude.{◌==◌}
use Rattle.ct_base.specs.Told.{took}
use Rattle.ct_site.specs.FaultCounts.{CountsFaults, ends_after}
use Rattle.ct_site.specs.Disks.{Beside}
use Rattle.ct_keep.specs.declared.keepers.KeepFault.{KeepFault}
use Rattle.ct_keep.specs.declared.keepers.KeepFault.TheVariants.{Disk as DiskFailed}
use Rattle.ct_keep.specs.laws.Composing.{accepts_still, takes_same, takes_then}
use Rattle.ct_keep.specs.KeeperViews.{KeeperView, KeeperHears, SameButContent, counted}
use Rattle.db_state.specs.Shapes.{AcceptsStatements}
use Rattle.db_console.specs.declared.saying.AnswerFault.{AnswerFault}
use Rattle.db_console.specs.declared.saying.AnswerFault.TheVariants.{Disk}
use Rattle.db_console.specs.Views.{FaultsAre, NoFault, Heard, Spoke, HearsNothing, FailsBy, is_say, is_disk, tells_end}

-- ---- counts of faults

pub faults_none : (k : KeeperView) → NoFault k k
faults_none k = record { hear = refl; say = refl; disk = refl }

-- none, and then these
pub faults_then : (hear say disk : Bool) (a b c : KeeperView) → NoFault a b → FaultsAre hear say disk b c → FaultsAre hear say disk a c
faults_then hear say disk a b c f g = record {
  hear = g.hear ∙ ap (counted hear) f.hear;
  say = g.say ∙ ap (counted say) f.say;
  disk = g.disk ∙ ap (counted disk) f.disk;
}

pub faults_kept : (a b : KeeperView) → SameButContent a b None → NoFault a b
faults_kept a b k = record { hear = ap (λ (s : Beside). s.hear_faults) k.beside; say = ap (λ (s : Beside). s.say_faults) k.beside; disk = k.cause }

-- a call of `hear` into the first bytes of a buffer, by its result
pub heard_by : {E : Type 0} (result : Result ℕ E) (bytes rest : List ℕ) (a b : KeeperView) → IfOk result (λ count. count ≤ length bytes) → KeeperHears (took result bytes) a b
    → b.beside.ends ≡ ends_after result a.beside.ends → CountsFaults a.beside.hear_faults b.beside.hear_faults result → Heard (is_err result) (tells_end result) (took result (bytes ++ rest)) a b
heard_by (Ok count) bytes rest a b bound hears ends counts = rw (take-append-le count bytes rest bound) (record { hears = hears; counts = counts.passed; end = ends })
heard_by (Err fault) bytes rest a b bound hears ends counts = record { hears = hears; counts = counts.failed; end = ends }

-- it heard some bytes, or answered that the script ends
some_heard : (count : ℕ) → (count ≡ 0 → ⊥) → (count == 0) ≡ false
some_heard count some = grind arith

pub heard_more : (count : ℕ) (bytes : List ℕ) (a b : KeeperView) → (count ≡ 0 → ⊥) → Heard false (count == 0) bytes a b → Heard false false bytes a b
heard_more count bytes a b some heard = subst (λ (ended : Bool). Heard false ended bytes a b) (some_heard count some) heard

pub heard_end : (count : ℕ) (bytes : List ℕ) (a b : KeeperView) → count ≡ 0 → Heard false (count == 0) (take count bytes) a b → Heard false true [] a b
heard_end count bytes a b none heard = subst (λ (n : ℕ). Heard false (n == 0) (take n bytes) a b) none heard

pub faults_heard : (failed ended : Bool) (a b : KeeperView) (bytes : List ℕ) → Heard failed ended bytes a b → FaultsAre failed false false a b
faults_heard failed ended a b bytes h = record { hear = h.counts; say = h.hears.say_faults; disk = h.hears.apart.disk_faults }

pub faults_said : (failed : Bool) (a b : KeeperView) (bytes : List ℕ) → Spoke failed bytes a b → FaultsAre false failed false a b
faults_said failed a b bytes s = record { hear = s.says.hear_faults; say = s.counts; disk = s.says.apart.disk_faults }

-- the disk failed
pub fails_by_disk : (a b : KeeperView) → SameButContent a b (Some DiskFailed) → FailsBy Disk a b
fails_by_disk a b k = record {
  faults = record { hear = ap (λ (s : Beside). s.hear_faults) k.beside; say = ap (λ (s : Beside). s.say_faults) k.beside; disk = k.cause };
}

pub fails_by_then : (fault : AnswerFault) (a b c : KeeperView) → NoFault a b → FailsBy fault b c → FailsBy fault a c
fails_by_then fault a b c f r = record { faults = faults_then false (is_say fault) (is_disk fault) a b c f r.faults }

-- ---- what answering leaves

pub frame_none : (k : KeeperView) → HearsNothing k k
frame_none k = record { left = refl; hearings = refl; ends = refl; well = takes_same k; fixed = refl }

pub frame_then : (a b c : KeeperView) → HearsNothing a b → HearsNothing b c → HearsNothing a c
frame_then a b c f g = record { left = g.left ∙ f.left; hearings = g.hearings ∙ f.hearings; ends = g.ends ∙ f.ends; well = takes_then a b c f.well g.well; fixed = g.fixed ∙ f.fixed }

pub frame_kept : (a b : KeeperView) (fault : Option KeepFault) → SameButContent a b fault → HearsNothing a b
frame_kept a b fault k = record { left = ap (λ (s : Beside). s.left) k.beside; hearings = ap (λ (s : Beside). s.hearings) k.beside; ends = ap (λ (s : Beside). s.ends) k.beside; well = k.well; fixed = k.fixed }

pub frame_said : (failed : Bool) (a b : KeeperView) (bytes : List ℕ) → Spoke failed bytes a b → HearsNothing a b
frame_said failed a b bytes s = record { left = s.says.left; hearings = s.says.hearings; ends = s.says.ends; well = s.says.apart.well; fixed = s.says.apart.fixed }

-- it still takes every entry
pub accepts_again : (a b : KeeperView) → b.ready → HearsNothing a b → AcceptsStatements a → AcceptsStatements b
accepts_again a b ready same accepts = accepts_still a b ready same.well accepts
