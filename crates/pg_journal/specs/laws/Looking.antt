-- Laws of what a load may answer, and of one that writes nothing.
use Rattle.std.specs.Prelude.{◌≡◌, ◌⊎◌, ℕ, List, Result, Ok, Err, refl}
use Rattle.std.proofs.Common.{inr}
use Rattle.ct_site.specs.Disks.{DiskView, IsSame}
use Rattle.ct_site.specs.laws.Calls.{same_then}
use Rattle.pg_journal.specs.declared.faults.LoadFault.{LoadFault}
use Rattle.pg_journal.specs.declared.faults.LoadFault.TheVariants.{Memory, Disk, NotAStore}
use Rattle.pg_journal.specs.Recovered.{IsUnborn, IsStore, gate}
use Rattle.pg_journal.specs.Looking.{AnswersBy, LoadsKnown, WritesNothing}

pub known_by : {T : Type 0} (image : List ℕ) (result : Result T LoadFault) → IsUnborn image ⊎ IsStore image → LoadsKnown image result
known_by image (Ok x) known = known
known_by image (Err Memory) known = known
known_by image (Err Disk) known = tt
known_by image (Err NotAStore) known = tt

-- a fault, handed on
pub known_again : (T U : Type 0) (image : List ℕ) (fault : LoadFault) → LoadsKnown {T = T} image (Err fault) → LoadsKnown {T = U} image (Err fault)
known_again T U image Memory known = known
known_again T U image Disk known = tt
known_again T U image NotAStore known = tt

-- and that of the journal
pub known_fault : (T U : Type 0) (image : List ℕ) (fault : LoadFault) → AnswersBy {T = T} image (Err fault) → LoadsKnown {T = U} image (Err fault)
known_fault T U image Memory answers = inr answers.0
known_fault T U image Disk answers = tt
known_fault T U image NotAStore answers = tt

-- where the gate is open; and where no memory was wanted
pub answers_open : {T : Type 0} (image : List ℕ) (result : Result T LoadFault) → IsStore image → gate image ≡ 1 → AnswersBy image result
answers_open image (Ok x) store is_open = inr store
answers_open image (Err Memory) store is_open = (store, is_open)
answers_open image (Err Disk) store is_open = tt
answers_open image (Err NotAStore) store is_open = tt

pub answers_known : {T : Type 0} (image : List ℕ) (result : Result T LoadFault) → IsUnborn image ⊎ IsStore image → (result ≡ Err Memory → ⊥) → AnswersBy image result
answers_known image (Ok x) known other = known
answers_known image (Err Memory) known other = absurd (other refl)
answers_known image (Err Disk) known other = tt
answers_known image (Err NotAStore) known other = tt

pub nothing_when_same : {T : Type 0} (result : Result T LoadFault) (old new : DiskView) → IsSame old new → WritesNothing result old new
nothing_when_same (Ok x) old new same = tt
nothing_when_same (Err Memory) old new same = same
nothing_when_same (Err Disk) old new same = tt
nothing_when_same (Err NotAStore) old new same = same

-- only looked at, and then loaded
pub nothing_then : {T : Type 0} (result : Result T LoadFault) (old mid new : DiskView) → IsSame old mid → WritesNothing result mid new → WritesNothing result old new
nothing_then (Ok x) old mid new same rest = tt
nothing_then (Err Memory) old mid new same rest = same_then old mid new same rest
nothing_then (Err Disk) old mid new same rest = tt
nothing_then (Err NotAStore) old mid new same rest = same_then old mid new same rest
