-- The checks of a call for an index, which its first argument names.
use Rattle.std.specs.Prelude.{ℕ, Bool, true, false, not, is_some, List, Option, Some, None, codes, ◌≡◌, refl}
use Rattle.std.specs.Option.{option_map}
use Rattle.std.specs.FinMap.{get}
use Rattle.ix_indexes.specs.Indexes.{Index, kinds}
use Rattle.db_names.specs.declared.heads.IndexKind.{IndexKind}
use Rattle.db_names.specs.declared.heads.IndexKind.TheVariants.{Catalogue}
use Rattle.db_cond.specs.Faults.{UnknownName, NoIndexOfKind, WrongValues, BadValue}
use Rattle.db_state.specs.States.{StoreState}
use Rattle.db_state.specs.Effects.{Effect, Refused, refuse, refuse_by}

-- the name, where no index has it
abbrev pub unknown_name : Bool → Option (List ℕ) → Option (List ℕ)
unknown_name true name = None
unknown_name false name = name

-- the kind of the index that has the name
abbrev pub kind_named : StoreState → Option (List ℕ) → Option IndexKind
kind_named m None = None
kind_named m (Some i) = option_map (λ (x : Index). kinds.kind x.body) (get m.indexes i)

-- THE CHECKS in their order: by the name that no index has, if it is one; whether the index that has it is of a kind that the call isn't for; whether the
-- arguments have the number and the types that it wants; and whether one of them is bad.
abbrev pub check_index_call : Option (List ℕ) → Bool → Bool → Bool → Effect → Effect
check_index_call unknown other shaped bad done =
    refuse_by unknown UnknownName
    (refuse other NoIndexOfKind
    (refuse (not shaped) WrongValues
    (refuse bad BadValue
    done)))

-- by the kind of the index that has the name, if one has it
abbrev pub index_call : (Option IndexKind → Bool) → Bool → Bool → Option IndexKind → Option (List ℕ) → Effect → Effect
index_call other shaped bad kind name done = check_index_call (unknown_name (is_some kind) name) (other kind) shaped bad done

-- computed examples: the name that no index has comes before all else, and the kind before the arguments
unknown_and_bad : (other : Option IndexKind → Bool) (done : Effect) → index_call other false true None (Some (codes "nope")) done ≡ Refused (UnknownName (codes "nope"))
unknown_and_bad other done = refl

another_kind : (done : Effect) → index_call is_some false true (Some Catalogue) (Some (codes "ci")) done ≡ Refused NoIndexOfKind
another_kind done = refl

all_is_well : (name : Option (List ℕ)) (done : Effect) → index_call (λ kind. false) true false (Some Catalogue) name done ≡ done
all_is_well name done = refl
