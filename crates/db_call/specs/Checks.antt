-- The checks that come first in each procedure.
use Rattle.std.specs.Prelude.{ℕ, ◌≡◌, Bool, true, false, not, List, Option, Some, None, codes, refl}
use Rattle.std.specs.Bool.{if◌then◌else◌}
use Rattle.std.specs.Option.{option_and_then}
use Rattle.std.specs.FinMap.{get}
use Rattle.ct_entry.specs.Maps.{Names}
use Rattle.db_cond.specs.Faults.{UnknownName, ExistsAlready, WrongValues, BadValue}
use Rattle.db_state.specs.Effects.{Effect, Refused, refuse, refuse_by}

-- what a name has, if it is there
abbrev pub get_named : {X : Type 0} → Names X → Option (List ℕ) → Option X
get_named xs name = option_and_then (get xs) name

-- the name, where something has it, and where nothing has it
abbrev pub taken_name : Bool → Option (List ℕ) → Option (List ℕ)
taken_name there name = if there then name else None

abbrev pub missing_name : Bool → Option (List ℕ) → Option (List ℕ)
missing_name there name = if there then None else name

-- The checks that come first, in their order: of a name that nothing has, of what exists already, and of the number and kinds of the arguments.
abbrev pub check : Option (List ℕ) → Option (List ℕ) → Bool → Effect → Effect
check unknown taken shaped done =
    refuse_by unknown UnknownName
    (refuse_by taken ExistsAlready
    (refuse (not shaped) WrongValues
    done))

-- What follows of two things that the first checks have let pass. Where one is missing, a name is spelt as none, which is a bad value.
abbrev pub of_both : {X Y : Type 0} → Option X → Option Y → (X → Y → Effect) → Effect
of_both None y effect = Refused BadValue
of_both (Some x) None effect = Refused BadValue
of_both (Some x) (Some y) effect = effect x y

-- computed examples: a name that nothing has comes before what exists, and that before the arguments
unknown_first : (done : Effect) → check (missing_name false (Some (codes "th"))) (Some (codes "dog")) false done ≡ Refused (UnknownName (codes "th"))
unknown_first done = refl

then_what_exists : (done : Effect) → check (missing_name true (Some (codes "th"))) (taken_name true (Some (codes "th"))) false done ≡ Refused (ExistsAlready (codes "th"))
then_what_exists done = refl

no_name : (effect : List ℕ → ℕ → Effect) → of_both None (Some 1) effect ≡ Refused BadValue
no_name effect = refl
