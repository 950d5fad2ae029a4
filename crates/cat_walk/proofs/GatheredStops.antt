-- The places at which a walk stops, gathered one after another.
use Rattle.std.proofs.Common.{◌≡◌, ℕ, Bool, true, false, ◌||◌, List, [], ◌∷◌, ◌++◌, None, inl, inr, refl, sym, ap, subst, ◌∙◌}
use Rattle.std.proofs.lemmas.Bool.{or_cases, or_left, or_right}
use Rattle.std.proofs.lemmas.List.Folds.{list_any-append}
use Rattle.ct_base.specs.laws.Bools.{or_false, same_tests}
use Rattle.ct_entry.specs.Keys.{same_list}
use Rattle.ct_entry.specs.laws.Keys.{list_from_same, list_same}
use Rattle.cat_walk.specs.Places.{ArePlacesUpTo, IsFirstAfter, IsNext, comes_before, is_listed}
use Rattle.cat_walk.specs.Walks.{AddsStops, Route, Places, StopsAlike, stops_at}
use Rattle.cat_walk.specs.laws.Orders.{same_place}

-- a place more at the end
listed_more : (place here : List ℕ) (ps : List (List ℕ)) → is_listed (ps ++ here ∷ []) place ≡ (is_listed ps place || same_list place here)
listed_more place here ps = list_any-append (same_list place) ps (here ∷ []) ∙ ap (λ (t : Bool). is_listed ps place || t) (or_false (same_list place here))

-- up to the empty place there is no other
pub none_there : (holds : List ℕ → Bool) (ps : List (List ℕ)) → ps ≡ [] → holds [] ≡ false → ArePlacesUpTo holds [] ps
none_there holds ps none not = subst (ArePlacesUpTo holds []) (sym none) (record { from = λ place h. no_way place h; to = to })
  where
    no_way : (place : List ℕ) → false ≡ true → holds place ≡ true
    no_way place h = cc

    to : (place : List ℕ) → comes_before [] place ≡ false → holds place ≡ true → false ≡ true
    to [] before h = sym not ∙ h
    to (x ∷ xs) before h = sym before

pub one_there : (holds : List ℕ → Bool) (ps : List (List ℕ)) → ps ≡ [] ∷ [] → holds [] ≡ true → ArePlacesUpTo holds [] ps
one_there holds ps one at = subst (ArePlacesUpTo holds []) (sym one) (record { from = from; to = to })
  where
    from : (place : List ℕ) → is_listed ([] ∷ []) place ≡ true → holds place ≡ true
    from [] h = at
    from (x ∷ xs) h = cc

    to : (place : List ℕ) → comes_before [] place ≡ false → holds place ≡ true → is_listed ([] ∷ []) place ≡ true
    to [] before h = refl
    to (x ∷ xs) before h = sym before

-- the next place came to them
pub next_there : (holds : List ℕ → Bool) (last here : List ℕ) (ps more : List (List ℕ)) → ArePlacesUpTo holds last ps → IsFirstAfter holds last here → more ≡ ps ++ here ∷ [] → ArePlacesUpTo holds here more
next_there holds last here ps more are next grown = subst (ArePlacesUpTo holds here) (sym grown) (record { from = from; to = to })
  where
    from : (place : List ℕ) → is_listed (ps ++ here ∷ []) place ≡ true → holds place ≡ true
    from place h = elim (or_cases (is_listed ps place) (same_list place here) (sym (listed_more place here ps) ∙ h)) [
      | inl old ↦ are.from place old
      | inr it ↦ ap holds (list_from_same place here it) ∙ next.at
    ]

    no_way : (place : List ℕ) → false ≡ true → is_listed ps place ≡ true
    no_way place h = cc

    -- up to the next place, without it
    old : (place : List ℕ) → comes_before place here ≡ true → holds place ≡ true → (t : Bool) → comes_before last place ≡ t → is_listed ps place ≡ true
    old place before at true behind = no_way place (sym (next.first place behind before) ∙ at)
    old place before at false behind = are.to place behind at

    parts : (place : List ℕ) → comes_before here place ≡ false → holds place ≡ true → (t : Bool) → comes_before place here ≡ t → (is_listed ps place || same_list place here) ≡ true
    parts place behind at true before = or_left (is_listed ps place) (same_list place here) (old place before at (comes_before last place) refl)
    parts place behind at false before =
        or_right (is_listed ps place) (same_list place here) (subst (λ (q : List ℕ). same_list place q ≡ true) (same_place place here before behind) (list_same place))

    to : (place : List ℕ) → comes_before here place ≡ false → holds place ≡ true → is_listed (ps ++ here ∷ []) place ≡ true
    to place behind at = listed_more place here ps ∙ parts place behind at (comes_before place here) refl

-- where the walk stops nowhere more, these places are all
pub ends_alike : (has : List ℕ → List ℕ → Bool) (route : Route) (last : List ℕ) (ps : List (List ℕ)) → ArePlacesUpTo (stops_at has route) last ps → IsNext (stops_at has route) last None → StopsAlike has route (Places ps)
ends_alike has route last ps are none = record { at = λ place. same_tests (is_listed ps place) (stops_at has route place) (are.from place) (λ h. are.to place (up_to place h (comes_before last place) refl) h) }
  where
    up_to : (place : List ℕ) → stops_at has route place ≡ true → (t : Bool) → comes_before last place ≡ t → comes_before last place ≡ false
    up_to place h true behind = let wrong : false ≡ true = sym (none place behind) ∙ h in cc
    up_to place h false behind = behind

-- and behind others
pub stops_added : (has : List ℕ → List ℕ → Bool) (route : Route) (old stops new : List (List ℕ)) → StopsAlike has route (Places stops) → new ≡ old ++ stops → AddsStops has route old new
stops_added has route old stops new alike grown = record {
  each = λ place. ap (λ (ps : List (List ℕ)). is_listed ps place) grown ∙ list_any-append (same_list place) old stops ∙ ap (λ (t : Bool). is_listed old place || t) (alike.at place);
}

-- the same places in another order
pub list_alike : (has : List ℕ → List ℕ → Bool) (places sorted : List (List ℕ)) (route : Route) → route ≡ Places sorted → ((place : List ℕ) → is_listed sorted place ≡ is_listed places place) → StopsAlike has (Places places) route
list_alike has places sorted route is same = subst (StopsAlike has (Places places)) (sym is) (record { at = same })
