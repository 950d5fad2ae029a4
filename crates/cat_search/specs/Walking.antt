-- What walks over a sub-index say of rows.
use Rattle.std.specs.Prelude.{ℕ, ℤ, ◌≡◌, ◌≤◌, ◌⊎◌, Bool, true, false, ◌&&◌, ◌||◌, List, [], ◌∷◌, ◌++◌, length, Option, Some, None, pos, codes, refl}
use Rattle.std.specs.Bool.{if◌then◌else◌}
use Rattle.std.specs.Str.{IsUtf8}
use Rattle.ct_keep.specs.Content.{Content}
use Rattle.ct_entry.specs.declared.kinds.Kind.TheVariants as kind
use Rattle.ct_entry.specs.Keys.{prefix_of, counted_bytes, IsRow, IsToken}
use Rattle.ct_entry.specs.Lists.{EachIs}
use Rattle.ct_entry.specs.Each.{is_any_of}
use Rattle.q_tree.specs.declared.flats.Slot.{Slot}
use Rattle.cat_walk.specs.Places.{has_place}
use Rattle.cat_walk.specs.Walks.{Route, Places, stops_at}
use Rattle.cat_search.specs.Words.{may_take}

-- what all keys of a sub-index begin with; the plain one has the number 0
abbrev pub sub_stem : List ℕ → ℕ → List ℕ
sub_stem i sub = prefix_of kind.Catalogue i ++ sub ∷ []

-- a place is that of a row
abbrev pub IsPlaceOf : (ℤ → List ℕ) → List ℕ → Type 0
IsPlaceOf place_of place = (r : ℤ) × IsRow r × (place ≡ place_of r)

-- THE ENTRIES UNDER A STEM ARE THE WORDS OF ROWS, each of which has a place: a word has an entry at the place of a row exactly where it is one of the row's words; and at no other place. These words are texts of 1 to 255 bytes, and no
-- place is empty.
pub record AreWordsOfRows (m : Content) (stem : List ℕ) (place_of : ℤ → List ℕ) (words : ℤ → List (List ℕ)) : Type 0 where
  pub rows : (r : ℤ) → IsRow r → (word : List ℕ) → has_place m stem (counted_bytes word) (place_of r) ≡ is_any_of word (words r)
  pub only : (word place : List ℕ) → has_place m stem (counted_bytes word) place ≡ true → IsPlaceOf place_of place
  pub some : (r : ℤ) → 1 ≤ length (place_of r)
  pub tokens : (r : ℤ) → IsRow r → EachIs IsToken (words r)
  pub texts : (r : ℤ) → IsRow r → EachIs IsUtf8 (words r)

-- A walk stops at the places of the rows whose words pass a test, and at no others.
pub record StopsWhere (has : List ℕ → List ℕ → Bool) (place_of : ℤ → List ℕ) (words : ℤ → List (List ℕ)) (test : List (List ℕ) → Bool) (route : Route) : Type 0 where
  pub rows : (r : ℤ) → IsRow r → stops_at has route (place_of r) ≡ test (words r)
  pub only : (place : List ℕ) → stops_at has route place ≡ true → IsPlaceOf place_of place

-- The same where another test is still to be joined, by AND or by OR.
pub record StopsSoFar (join : Bool → Bool → Bool) (has : List ℕ → List ℕ → Bool) (place_of : ℤ → List ℕ) (words : ℤ → List (List ℕ)) (more all : List (List ℕ) → Bool) (route : Route) : Type 0 where
  pub rows : (r : ℤ) → IsRow r → join (stops_at has route (place_of r)) (more (words r)) ≡ all (words r)
  pub only : (place : List ℕ) → stops_at has route place ≡ true → IsPlaceOf place_of place

-- The second walk is the first one, with a test joined to it.
pub record JoinsTest (join : Bool → Bool → Bool) (has : List ℕ → List ℕ → Bool) (place_of : ℤ → List ℕ) (words : ℤ → List (List ℕ)) (test : List (List ℕ) → Bool) (old new : Route) : Type 0 where
  pub rows : (r : ℤ) → IsRow r → stops_at has new (place_of r) ≡ join (stops_at has old (place_of r)) (test (words r))
  pub only : (place : List ℕ) → stops_at has new place ≡ true → (stops_at has old place ≡ true) ⊎ IsPlaceOf place_of place

-- What a walk, compiled under a stem for such a test, says of the content, whichever places and words its rows have.
abbrev pub IsWalkFor : Content → List ℕ → (List (List ℕ) → Bool) → Route → Type 0
IsWalkFor m stem test route = (place_of : ℤ → List ℕ) (words : ℤ → List (List ℕ)) → AreWordsOfRows m stem place_of words → StopsWhere (has_place m stem) place_of words test route

-- and of a walk to which the test of a slot is joined
abbrev pub JoinsSlot : Content → List ℕ → Slot → Route → Route → Type 0
JoinsSlot m stem slot old new = (place_of : ℤ → List ℕ) (words : ℤ → List (List ℕ)) → AreWordsOfRows m stem place_of words → JoinsTest (◌&&◌) (has_place m stem) place_of words (λ ws. may_take ws slot) old new

-- To a list of places came those of the rows whose words pass a test, and no others, whichever places and words the rows have.
abbrev pub GathersRows : Content → List ℕ → (List (List ℕ) → Bool) → List (List ℕ) → List (List ℕ) → Type 0
GathersRows m stem test old new =
    (place_of : ℤ → List ℕ) (words : ℤ → List (List ℕ)) → AreWordsOfRows m stem place_of words → JoinsTest (◌||◌) (has_place m stem) place_of words test (Places old) (Places new)

-- ---- what a step makes of a place

-- the row that a place spells, where it passes a test
abbrev pub row_if : (ℤ → Bool) → Option ℤ → List ℤ
row_if test None = []
row_if test (Some r) = if test r then r ∷ [] else []

-- computed examples: the keys of the plain sub-index of the index `ci`, and of its first one with values
its_stem : sub_stem (codes "ci") 0 ≡ 0x28 ∷ 2 ∷ 0x63 ∷ 0x69 ∷ 0 ∷ []
its_stem = refl

stem_of_the_first : sub_stem (codes "ci") 1 ≡ 0x28 ∷ 2 ∷ 0x63 ∷ 0x69 ∷ 1 ∷ []
stem_of_the_first = refl

not_passed : row_if (λ r. false) (Some (pos 7)) ≡ []
not_passed = refl
