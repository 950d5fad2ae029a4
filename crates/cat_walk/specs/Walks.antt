-- Where walks stop.
use Rattle.std.specs.Prelude.{ℕ, ◌≡◌, Bool, true, false, ◌&&◌, ◌||◌, not, List, [], ◌∷◌, codes, refl}
use Rattle.ct_entry.specs.Keys.{same_list}
use Rattle.cat_walk.specs.Places.{is_listed, places_rise}
use Rattle.cat_walk.specs.declared.walks.Walk.{Walk}
use Rattle.cat_walk.specs.declared.walks.Walk.TheVariants.{Word as HeldWord, Places as HeldPlaces, Both' as HeldBoth, Without' as HeldWithout}

-- A walk, without the boxes in which code holds its parts.
pub data Route : Type 0 where
  Word : List ℕ → Route
  Places : List (List ℕ) → Route
  Both : Route → Route → Route
  Without : Route → Route → Route

abbrev pub route_of : Walk → Route
route_of (HeldWord word) = Word word
route_of (HeldPlaces places) = Places places
route_of (HeldBoth p a q b) = Both (route_of a) (route_of b)
route_of (HeldWithout p a q b) = Without (route_of a) (route_of b)

-- WHETHER A WALK STOPS at a place, where a test says whether a word has an entry there
abbrev pub stops_at : (List ℕ → List ℕ → Bool) → Route → List ℕ → Bool
stops_at has (Word word) place = has word place
stops_at has (Places places) place = is_listed places place
stops_at has (Both a b) place = stops_at has a place && stops_at has b place
stops_at has (Without a b) place = stops_at has a place && not (stops_at has b place)

-- whether the places rise that stand in a walk
abbrev pub has_rising_places : Route → Bool
has_rising_places (Word word) = true
has_rising_places (Places places) = places_rise places
has_rising_places (Both a b) = has_rising_places a && has_rising_places b
has_rising_places (Without a b) = has_rising_places a && has_rising_places b

-- The second walk stops exactly where the first does.
pub record StopsAlike (has : List ℕ → List ℕ → Bool) (old new : Route) : Type 0 where
  pub at : (place : List ℕ) → stops_at has new place ≡ stops_at has old place

-- To a list of places came those at which a walk stops, and no others.
pub record AddsStops (has : List ℕ → List ℕ → Bool) (route : Route) (old new : List (List ℕ)) : Type 0 where
  pub each : (place : List ℕ) → is_listed new place ≡ (is_listed old place || stops_at has route place)

-- ---- computed examples: at the places 1 and 2 there is `red`, at 2 and 3 `hat`

abbrev red_and_hat : List ℕ → List ℕ → Bool
red_and_hat word place = same_list word (codes "red") && is_listed ((1 ∷ []) ∷ (2 ∷ []) ∷ []) place || same_list word (codes "hat") && is_listed ((2 ∷ []) ∷ (3 ∷ []) ∷ []) place

both_at_2 : stops_at red_and_hat (Both (Word (codes "red")) (Word (codes "hat"))) (2 ∷ []) ≡ true
both_at_2 = refl

not_both_at_1 : stops_at red_and_hat (Both (Word (codes "red")) (Word (codes "hat"))) (1 ∷ []) ≡ false
not_both_at_1 = refl

without_hat_at_1 : stops_at red_and_hat (Without (Word (codes "red")) (Word (codes "hat"))) (1 ∷ []) ≡ true
without_hat_at_1 = refl

without_hat_not_at_2 : stops_at red_and_hat (Without (Word (codes "red")) (Word (codes "hat"))) (2 ∷ []) ≡ false
without_hat_not_at_2 = refl

-- `red`, and one of the places 2 and 5
both_where_it_is_listed : stops_at red_and_hat (Both (Word (codes "red")) (Places ((2 ∷ []) ∷ (5 ∷ []) ∷ []))) (2 ∷ []) ≡ true
both_where_it_is_listed = refl

not_where_it_is_not : stops_at red_and_hat (Both (Word (codes "red")) (Places ((2 ∷ []) ∷ (5 ∷ []) ∷ []))) (1 ∷ []) ≡ false
not_where_it_is_not = refl

places_of_a_part_rise : has_rising_places (Both (Word (codes "red")) (Places ((5 ∷ []) ∷ (2 ∷ []) ∷ []))) ≡ false
places_of_a_part_rise = refl

-- to the place 5 comes the place 2
two_behind_five : AddsStops red_and_hat (Places ((2 ∷ []) ∷ [])) ((5 ∷ []) ∷ []) ((5 ∷ []) ∷ (2 ∷ []) ∷ [])
two_behind_five = record { each = λ place. parts (same_list place (5 ∷ [])) (is_listed ((2 ∷ []) ∷ []) place) }
  where
    parts : (a b : Bool) → (a || b) ≡ ((a || false) || b)
    parts true b = refl
    parts false b = refl
