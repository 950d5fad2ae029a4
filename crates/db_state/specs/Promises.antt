-- What the functions of `src/laws.rt` promise of all contents.
use Rattle.std.specs.Prelude.{◌≡◌, ◌≤◌, [], None, Some, refl}
use Rattle.std.specs.Ordering.{nat_cmp}
use Rattle.std.specs.Cmp.Lexicographic.{slice_cmp}
use Rattle.std.specs.FinMap.{get, empty, get-empty}
use Rattle.std.proofs.Common.{ap, ◌∙◌, sym, arith}
use Rattle.ct_keep.specs.Content.{Content, weight}
use Rattle.ct_keep.specs.Changes.{HoldsWell}
use Rattle.ct_entry.specs.Maps.{each_value}
use Rattle.ix_kinds.specs.Statements as statements
use Rattle.ix_indexes.specs.Indexes.{Index, kinds}
use Rattle.db_state.specs.States.{StoreState, empty_state, StandsForState}
use Rattle.db_state.specs.Room.{room}
use Rattle.db_state.specs.Shapes.{IsStoreEntry}

-- an index, and a state, with nothing that is wasted
abbrev pub but_wasted : Index → Index
but_wasted x = statements.unwasted kinds x

abbrev pub but_for_waste : StoreState → StoreState
but_for_waste m = record m { indexes = each_value but_wasted m.indexes }

-- A content stands for at most one state but for what is wasted, of which a state has a bound alone.
abbrev pub OneState : Type 0
OneState = (c : Content) (m n : StoreState) → StandsForState c m → StandsForState c n → but_for_waste m ≡ but_for_waste n

-- Each entry of a content that stands for a state is one that a store has, and within the bounds. So the shape of a store (`StoreShape`),
-- which looks at each entry by itself, finds none in it that is ill shaped.
abbrev pub StoresAreWell : Type 0
StoresAreWell = (c : Content) (m : StoreState) → StandsForState c m → HoldsWell IsStoreEntry c

-- A content weighs at most the room of a state that it stands for.
abbrev pub StoresAreWithinRoom : Type 0
StoresAreWithinRoom = (c : Content) (m : StoreState) → StandsForState c m → weight c ≤ room m

-- computed examples: the state of a new store has no table; so what stands for it stands for no state with one
no_table : empty_state.tables ≡ empty
no_table = refl

no_other : OneState → (c : Content) (m : StoreState) → StandsForState c empty_state → StandsForState c m → m.tables ≡ empty
no_other one c m new stands = ap (λ (n : StoreState). n.tables) (one c m empty_state stands new) ∙ no_table

-- the empty content has no entry that a store doesn't have; and what stands for a state has none without a key
no_entry : HoldsWell IsStoreEntry empty
no_entry = record { each = λ key value is. let wrong : None ≡ Some value = sym (get-empty (slice_cmp nat_cmp) key) ∙ is in absurd cc }

no_empty_key : StoresAreWell → (c : Content) (m : StoreState) → get c [] ≡ Some [] → StandsForState c m → ⊥
no_empty_key well c m has stands = let some = ((well c m stands).each [] [] has).0.some in omega (arith, some)
