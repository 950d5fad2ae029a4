-- A change as contracts see it.
use Rattle.std.specs.Prelude.{ℕ, List, Option, ◌≡◌, Some, None, Vec, refl}
use Rattle.std.specs.Option.{option_map}
use Rattle.ct_keep.specs.declared.batches.Change.{Change}
use Rattle.std.specs.declared.alloc.Global.{Global}

abbrev pub change_of : Change → List ℕ × Option (List ℕ)
change_of w = (w.key.items, option_map (λ v. v.items) w.value)

-- computed examples: a change that puts an entry, and one that takes it away
put_seen : (key value : Vec ℕ Global) → change_of (record { key = key; value = Some value }) ≡ (key.items, Some value.items)
put_seen key value = refl

removal_seen : (key : Vec ℕ Global) → change_of (record { key = key; value = None }) ≡ (key.items, None)
removal_seen key = refl
