-- How calls on indexes fail, against the faults of a keeper.
use Rattle.std.specs.Prelude.{ℕ, ◌≡◌, refl, Option, Some, None, Result, Ok, Err}
use Rattle.ct_keep.specs.declared.keepers.KeepFault.{KeepFault}
use Rattle.ct_keep.specs.declared.keepers.KeepFault.TheVariants.{Memory, Disk}
use Rattle.ix_context.specs.declared.faults.ContextFault.{ContextFault}
use Rattle.ix_context.specs.declared.faults.ContextFault.TheVariants.{Memory as NoMemory, Disk as DiskFailed, TooMany}

-- the fault of the keeper that a fault is, if it is one
abbrev pub keeper_fault : ContextFault → Option KeepFault
keeper_fault NoMemory = Some Memory
keeper_fault DiskFailed = Some Disk
keeper_fault TooMany = None

-- how a call on an index failed by its keeper, if it did
abbrev pub context_fault_of : {T : Type 0} → Result T ContextFault → Option KeepFault
context_fault_of (Ok x) = None
context_fault_of (Err fault) = keeper_fault fault

-- computed examples
the_disk_failed : context_fault_of {T = ℕ} (Err DiskFailed) ≡ Some Disk
the_disk_failed = refl

no_fault_of_the_keeper : context_fault_of {T = ℕ} (Err TooMany) ≡ None
no_fault_of_the_keeper = refl
