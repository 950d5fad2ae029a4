-- The places of keys against the map that the pages hold.
use Rattle.std.specs.Prelude.{map, is_some}
use Rattle.std.proofs.Common.{◌≡◌, inl, inr, ℕ, List, [], ◌∷◌, Option, Some, None, refl, sym, ap, ◌∙◌}
use Rattle.std.specs.FinMap.{get}
use Rattle.ct_keep.specs.Content.{Content, Change}
use Rattle.pg_map.specs.Holding.{IsLayout}
use Rattle.pg_map.specs.Kinds.{Each}
use Rattle.pg_directory.specs.declared.entries.EntryAt.{EntryAt}
use Rattle.pg_directory.specs.Listing.{entry_at}
use Rattle.pg_directory.specs.Trees.{StorePage, IsPage, kind_of}
use Rattle.pg_directory.specs.Holding.{HasTop}
use Rattle.pg_directory.specs.OpenStore.{ArePlaces}
use Rattle.pg_directory.specs.laws.Counting.{all_named}
use Rattle.pg_directory.specs.laws.Listing.{none_in, has_entry, somewhere}
use Rattle.pg_batch.specs.Counts.{WereThere}
use Rattle.pg_batch.specs.Places.{IsKeyPlace, AreKeyPlaces, FindsAll}

-- ---- what finds each entry

-- a directory of all entries does
pub finds_top : (pages : List StorePage) (top : ℕ) → HasTop pages top → FindsAll pages top
finds_top pages top has = inr (has.entries, has.is)

-- where there is no entry nothing has to
pub finds_nothing : (pages : List StorePage) (top : ℕ) → top ≡ 0 → ArePlaces pages [] → FindsAll pages top
finds_nothing pages top zero_top places = inl (zero_top, λ e has. none_in e (all_named pages [] places.strings places.order places.all e has))

-- ---- places and entries

module _ (pages : List StorePage) (m : Content) (are : Each IsPage pages) (layout : IsLayout (map kind_of pages) m) where
  -- a key without a place has no entry
  pub none_there : (key : List ℕ) → IsKeyPlace pages key None → get m key ≡ None
  none_there key none = of (get m key) refl
    where
      of : (o : Option (List ℕ)) → get m key ≡ o → get m key ≡ None
      of None got = got
      of (Some value) got = let s = somewhere pages m are layout key value got in absurd (none s.place s.has s.is)

  -- one with a place has the entry that stands there
  pub one_there : (key : List ℕ) (e : EntryAt) → IsKeyPlace pages key (Some e) → get m key ≡ Some (entry_at pages e).1
  one_there key e is = ap (get m) (sym is.1) ∙ (has_entry pages m are layout e is.0).value

  -- just those keys have an entry that have a place
  pub were_there : (ws : List Change) (os : List (Option EntryAt)) → AreKeyPlaces pages ws os → WereThere m ws os
  were_there [] [] places = tt
  were_there [] (o ∷ os) places = places
  were_there (w ∷ ws) [] places = places
  were_there (w ∷ ws) (None ∷ os) places = (sym (ap (λ (o : Option (List ℕ)). is_some o) (none_there w.0 places.0)), were_there ws os places.1)
  were_there (w ∷ ws) (Some e ∷ os) places = (sym (ap (λ (o : Option (List ℕ)). is_some o) (one_there w.0 e places.0)), were_there ws os places.1)
