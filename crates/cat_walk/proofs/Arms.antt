-- What calls for the parts of a walk give for the whole of it.
use Rattle.std.proofs.Common.{◌≡◌, ℕ, Bool, true, List, Option, Some, None, refl, sym, ap, subst, ◌∙◌}
use Rattle.std.specs.Prelude.{◌&&◌, Vec, Result, Ok, Err}
use Rattle.std.specs.Result.{IfOk}
use Rattle.std.specs.declared.alloc.Global.{Global}
use Rattle.std.proofs.lemmas.Bool.{and_parts}
use Rattle.ct_keep.specs.declared.keepers.KeepFault.{KeepFault}
use Rattle.cat_walk.specs.Places.{IsNext, is_listed, next_of}
use Rattle.cat_walk.specs.Walks.{Route, Word, Places, Both, Without, has_rising_places, route_of, stops_at}
use Rattle.cat_walk.specs.declared.walks.Walk.{Walk}

-- what a call gave, where its place was handed over as a slice
pub next_here : (holds : List ℕ → Bool) (place slice : List ℕ) (found given : Option (Vec ℕ Global)) → slice ≡ place → found ≡ given → IsNext holds slice (next_of found) → IsNext holds place (next_of given)
next_here holds place slice found given same is next =
    subst (λ (o : Option (Vec ℕ Global)). IsNext holds place (next_of o)) is (subst (λ (p : List ℕ). IsNext holds p (next_of found)) same next)

-- whether a walk stops at a place that was handed over as a slice
pub test_here : (holds : List ℕ → Bool) (place slice : List ℕ) (found given : Bool) → slice ≡ place → found ≡ given → found ≡ holds slice → holds place ≡ given
test_here holds place slice found given same is test = ap holds (sym same) ∙ sym test ∙ is

-- ---- the route of each arm, over parts that were read out of their boxes

pub places_route : (walk : Route) (places given : List (List ℕ)) → walk ≡ Places places → given ≡ places → walk ≡ Places given
places_route walk places given is same = is ∙ ap Places (sym same)

pub word_route : (walk : Route) (word spelt : List ℕ) → walk ≡ Word word → spelt ≡ word → walk ≡ Word spelt
word_route walk word spelt is same = is ∙ ap Word (sym same)

pub both_route : (walk : Route) (a b x y : Walk) → walk ≡ Both (route_of a) (route_of b) → x ≡ a → y ≡ b → walk ≡ Both (route_of x) (route_of y)
both_route walk a b x y is first second = is ∙ ap (λ (w : Walk). Both (route_of w) (route_of b)) (sym first) ∙ ap (λ (w : Walk). Both (route_of x) (route_of w)) (sym second)

pub without_route : (walk : Route) (a b x y : Walk) → walk ≡ Without (route_of a) (route_of b) → x ≡ a → y ≡ b → walk ≡ Without (route_of x) (route_of y)
without_route walk a b x y is first second = is ∙ ap (λ (w : Walk). Without (route_of w) (route_of b)) (sym first) ∙ ap (λ (w : Walk). Without (route_of x) (route_of w)) (sym second)

-- ---- the places in both parts of a walk rise

module _ (walk : Route) (a b : Walk) (two : has_rising_places walk ≡ (has_rising_places (route_of a) && has_rising_places (route_of b))) (rise : has_rising_places walk ≡ true) where
  pub first_rises : (x : Walk) → x ≡ a → has_rising_places (route_of x) ≡ true
  first_rises x is = ap (λ (w : Walk). has_rising_places (route_of w)) is ∙ (and_parts _ _ (sym two ∙ rise)).0

  pub second_rises : (x : Walk) → x ≡ b → has_rising_places (route_of x) ≡ true
  second_rises x is = ap (λ (w : Walk). has_rising_places (route_of w)) is ∙ (and_parts _ _ (sym two ∙ rise)).1

-- ---- what the call of an arm gives

module _ (has : List ℕ → List ℕ → Bool) (after : List ℕ) where
  same_tests : (f g : List ℕ → Bool) → ((p : List ℕ) → g p ≡ f p) → (o : Option (List ℕ)) → IsNext f after o → IsNext g after o
  same_tests f g same None none = λ p h. same p ∙ none p h
  same_tests f g same (Some x) next = record { behind = next.behind; at = same x ∙ next.at; first = λ p h before. same p ∙ next.first p h before }

  pub arm_next : (walk route : Route) (r : Result (Option (Vec ℕ Global)) KeepFault) → walk ≡ route → IfOk r (λ next. IsNext (stops_at has route) after (next_of next))
      → IfOk r (λ next. IsNext (stops_at has walk) after (next_of next))
  arm_next walk route r is next = subst (λ (w : Route). IfOk r (λ next. IsNext (stops_at has w) after (next_of next))) (sym is) next

  by_test : (f : List ℕ → Bool) (walk route : Route) (r : Result (Option (Vec ℕ Global)) KeepFault) → walk ≡ route → ((p : List ℕ) → stops_at has route p ≡ f p) → IfOk r (λ next. IsNext f after (next_of next))
      → IfOk r (λ next. IsNext (stops_at has walk) after (next_of next))
  by_test f walk route r is same next = arm_next walk route r is (by_result r next)
    where
      by_result : (r : Result (Option (Vec ℕ Global)) KeepFault) → IfOk r (λ next. IsNext f after (next_of next)) → IfOk r (λ next. IsNext (stops_at has route) after (next_of next))
      by_result (Ok found) next = same_tests f (stops_at has route) same (next_of found) next
      by_result (Err fault) next = next

  pub word_next : (walk : Route) (word : List ℕ) (r : Result (Option (Vec ℕ Global)) KeepFault) → walk ≡ Word word → IfOk r (λ next. IsNext (has word) after (next_of next))
      → IfOk r (λ next. IsNext (stops_at has walk) after (next_of next))
  word_next walk word r is next = by_test (has word) walk (Word word) r is (λ p. refl) next

  pub places_next : (walk : Route) (places : List (List ℕ)) (found : Option (Vec ℕ Global)) → walk ≡ Places places → IsNext (is_listed places) after (next_of found) → IsNext (stops_at has walk) after (next_of found)
  places_next walk places found is next = by_test (is_listed places) walk (Places places) (Ok found) is (λ p. refl) next

-- whether a walk stops where one of its places is
pub places_stop : (has : List ℕ → List ℕ → Bool) (walk : Route) (places : List (List ℕ)) (place : List ℕ) (found : Bool) → walk ≡ Places places → found ≡ is_listed places place → found ≡ stops_at has walk place
places_stop has walk places place found is listed = listed ∙ sym (ap (λ (w : Route). stops_at has w place) is)
