-- What a look-up handed out.
use Rattle.std.specs.Prelude.{ℕ, List, Option, Some, None, Result, Ok, Err, Vec, ◌≡◌, refl}
use Rattle.std.specs.Option.{option_map}
use Rattle.std.specs.declared.alloc.Global.{Global}
use Rattle.ct_keep.specs.declared.keepers.KeepFault.{KeepFault}
use Rattle.ct_keep.specs.declared.keepers.KeepFault.TheVariants.{Disk}

-- an entry that was found, as lists of bytes
abbrev pub entry_seen : Option (Vec ℕ Global × Vec ℕ Global) → Option (List ℕ × List ℕ)
entry_seen found = option_map (λ e. (e.0.items, e.1.items)) found

-- the key of the entry that a look-up handed out, if it did
abbrev pub handed : Result (Option (Vec ℕ Global × Vec ℕ Global)) KeepFault → Option (List ℕ)
handed (Ok None) = None
handed (Ok (Some e)) = Some e.0.items
handed (Err fault) = None

-- computed examples: nothing was found, and the look-up failed
nothing_found : handed (Ok None) ≡ None
nothing_found = refl

it_failed : handed (Err Disk) ≡ None
it_failed = refl
