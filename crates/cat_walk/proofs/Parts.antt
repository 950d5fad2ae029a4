-- What the steps of a walk of two parts come to.
use Rattle.std.proofs.Common.{◌≡◌, ℕ, Bool, true, false, ◌&&◌, not, List, None, refl, ap, ◌∙◌}
use Rattle.cat_walk.specs.Places.{IsFirstAfter, IsNext}
use Rattle.cat_walk.specs.Walks.{Route, Both, Without, stops_at}
use Rattle.cat_walk.proofs.Steps.{HoldsNowhere, ends, stops, passes}

and_no : (s : Bool) → (s && false) ≡ false
and_no true = refl
and_no false = refl

module _ (has : List ℕ → List ℕ → Bool) (a b : Route) (after last : List ℕ) where
  -- ---- both stop

  not_first : (p : List ℕ) → stops_at has a p ≡ false → stops_at has (Both a b) p ≡ false
  not_first p e = ap (λ (t : Bool). t && stops_at has b p) e

  not_second : (p : List ℕ) → stops_at has b p ≡ false → stops_at has (Both a b) p ≡ false
  not_second p e = ap (λ (t : Bool). stops_at has a p && t) e ∙ and_no (stops_at has a p)

  at_both : (p : List ℕ) → stops_at has a p ≡ true → stops_at has b p ≡ true → stops_at has (Both a b) p ≡ true
  at_both p first second = ap (λ (t : Bool). t && stops_at has b p) first ∙ second

  pub first_ends : HoldsNowhere (stops_at has (Both a b)) after last → IsNext (stops_at has a) last None → IsNext (stops_at has (Both a b)) after None
  first_ends up_to none = ends (stops_at has a) (stops_at has (Both a b)) not_first after last up_to none

  pub second_ends : HoldsNowhere (stops_at has (Both a b)) after last → IsNext (stops_at has b) last None → IsNext (stops_at has (Both a b)) after None
  second_ends up_to none = ends (stops_at has b) (stops_at has (Both a b)) not_second after last up_to none

  pub first_stops : (x : List ℕ) → HoldsNowhere (stops_at has (Both a b)) after last → IsFirstAfter (stops_at has a) last x → stops_at has b x ≡ true → IsFirstAfter (stops_at has (Both a b)) after x
  first_stops x up_to next also = stops (stops_at has a) (stops_at has (Both a b)) not_first after last up_to x next (at_both x next.at also)

  pub second_stops : (x : List ℕ) → HoldsNowhere (stops_at has (Both a b)) after last → IsFirstAfter (stops_at has b) last x → stops_at has a x ≡ true → IsFirstAfter (stops_at has (Both a b)) after x
  second_stops x up_to next also = stops (stops_at has b) (stops_at has (Both a b)) not_second after last up_to x next (at_both x also next.at)

  pub first_passes : (x : List ℕ) → HoldsNowhere (stops_at has (Both a b)) after last → IsFirstAfter (stops_at has a) last x → stops_at has b x ≡ false → HoldsNowhere (stops_at has (Both a b)) after x
  first_passes x up_to next not_there = passes (stops_at has a) (stops_at has (Both a b)) not_first after last up_to x next (not_second x not_there)

  pub second_passes : (x : List ℕ) → HoldsNowhere (stops_at has (Both a b)) after last → IsFirstAfter (stops_at has b) last x → stops_at has a x ≡ false → HoldsNowhere (stops_at has (Both a b)) after x
  second_passes x up_to next not_there = passes (stops_at has b) (stops_at has (Both a b)) not_second after last up_to x next (not_first x not_there)

  -- ---- the first stops, and not the second

  nowhere_without : (p : List ℕ) → stops_at has a p ≡ false → stops_at has (Without a b) p ≡ false
  nowhere_without p e = ap (λ (t : Bool). t && not (stops_at has b p)) e

  pub without_ends : HoldsNowhere (stops_at has (Without a b)) after last → IsNext (stops_at has a) last None → IsNext (stops_at has (Without a b)) after None
  without_ends up_to none = ends (stops_at has a) (stops_at has (Without a b)) nowhere_without after last up_to none

  pub without_stops : (x : List ℕ) → HoldsNowhere (stops_at has (Without a b)) after last → IsFirstAfter (stops_at has a) last x → stops_at has b x ≡ false → IsFirstAfter (stops_at has (Without a b)) after x
  without_stops x up_to next not_there = stops (stops_at has a) (stops_at has (Without a b)) nowhere_without after last up_to x next
      (ap (λ (t : Bool). t && not (stops_at has b x)) next.at ∙ ap not not_there)

  pub without_passes : (x : List ℕ) → HoldsNowhere (stops_at has (Without a b)) after last → IsFirstAfter (stops_at has a) last x → stops_at has b x ≡ true → HoldsNowhere (stops_at has (Without a b)) after x
  without_passes x up_to next there = passes (stops_at has a) (stops_at has (Without a b)) nowhere_without after last up_to x next
      (ap (λ (t : Bool). stops_at has a x && not t) there ∙ and_no (stops_at has a x))
