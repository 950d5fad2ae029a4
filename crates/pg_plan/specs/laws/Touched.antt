-- Places that count as changed.
use Rattle.std.specs.Prelude.{Bool, true, false}
use Rattle.std.proofs.Common.{◌≡◌, ◌≢◌, ◌⊎◌, ⊎_elim, ◌==◌, ℕ, List, [], ◌∷◌, ◌++◌, refl, sym, subst, ◌∙◌}
use Rattle.std.specs.List.{Contains}
use Rattle.std.proofs.lemmas.Bool.{eq-eqb, eqb-true, false≢true}
use Rattle.std.proofs.lemmas.List.Elements.{Contains-append_left, Contains-push, Contains-push_cases}
use Rattle.pg_plan.specs.Drafts.{EndsWith}
use Rattle.pg_plan.specs.Touched.{TouchesOne}

pub touches_more : (old new : List ℕ) (at : ℕ) → new ≡ old ++ at ∷ [] → TouchesOne old new at
touches_more old new at is = subst (λ (l : List ℕ). TouchesOne old l at) (sym is) (record {
  here = Contains-push old at;
  others = λ i apart. (λ has. ⊎_elim (λ was. was) (λ same. absurd (apart (sym same))) (Contains-push_cases old at i has), λ was. Contains-append_left old (at ∷ []) i was);
})

-- the place that was the last one already
pub touches_last : (old new : List ℕ) (at : ℕ) → EndsWith old at → new ≡ old → TouchesOne old new at
touches_last old new at ends is = subst (λ (l : List ℕ). TouchesOne old l at) (sym is) (record {
  here = subst (λ (l : List ℕ). Contains l at) (sym ends.is) (Contains-push ends.first at);
  others = λ i apart. (λ has. has, λ was. was);
})

-- the place counted as changed before, or not yet
pub touches_then : (old mid new : List ℕ) (at : ℕ) → (mid ≡ old) ⊎ (mid ≡ old ++ at ∷ []) → TouchesOne mid new at → TouchesOne old new at
touches_then old mid new at before now = ⊎_elim
    (λ same. subst (λ (l : List ℕ). TouchesOne l new at) same now)
    (λ more. record {
      here = now.here;
      others = λ i apart.
          let first = (touches_more old mid at more).others i apart in
          let second = now.others i apart in
          (λ has. first.0 (second.0 has), λ was. second.1 (first.1 was));
    })
    before

-- what counted as changed does so still
pub touched_still : (old new : List ℕ) (at i : ℕ) → TouchesOne old new at → Contains old i → Contains new i
touched_still old new at i touches was = of (i == at) (eqb-true i at) (λ e is. false≢true (sym e ∙ eq-eqb i at is))
  where
    of : (b : Bool) → (b ≡ true → i ≡ at) → (b ≡ false → i ≢ at) → Contains new i
    of true yes_ no_ = subst (Contains new) (sym (yes_ refl)) touches.here
    of false yes_ no_ = (touches.others i (no_ refl)).1 was
