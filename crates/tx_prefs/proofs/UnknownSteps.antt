-- The first name that none has, one request after the other.
use Rattle.std.proofs.Common.{◌≡◌, ℕ, ◌-◌, ◌≤◌, Bool, true, false, cond, List, [], ◌∷◌, length, take, drop, get_or, Option, Some, None, refl, sym, ap, ◌∙◌, arith}
use Rattle.std.specs.Prelude.{is_some}
use Rattle.std.proofs.lemmas.List.{take_all}
use Rattle.tx_prefs.specs.declared.kinds.PrefKind.{PrefKind}
use Rattle.tx_prefs.specs.declared.requests.Request.{Request}
use Rattle.tx_prefs.specs.Preferences.{Preferences}
use Rattle.tx_prefs.specs.Requests.{unknown_in, unknown_or}
use Rattle.tx_prefs.specs.Sees.{has_named}

-- a name that none has
pub unknown_is : (kind : PrefKind) (o : Option (List ℕ)) (name : List ℕ) (ps : Preferences) → o ≡ Some name → has_named kind name ps ≡ false → o ≡ unknown_or None kind o ps
unknown_is kind None name ps is none = cc
unknown_is kind (Some other) name ps is none =
    let e : other ≡ name = cc in
    sym (ap (λ (b : Bool). cond b None (Some other)) (ap (λ (n : List ℕ). has_named kind n ps) e ∙ none))

module _ (ps : Preferences) where
  or_own : (other : Option (List ℕ)) (kind : PrefKind) (o : Option (List ℕ)) → is_some (unknown_or None kind o ps) ≡ true → unknown_or None kind o ps ≡ unknown_or other kind o ps
  or_own other kind None some = cc
  or_own other kind (Some name) some = go (has_named kind name ps) some
    where
      go : (b : Bool) → is_some (cond b None (Some name)) ≡ true → cond b None (Some name) ≡ cond b other (Some name)
      go true some = cc
      go false some = refl

  or_other : (other : Option (List ℕ)) (kind : PrefKind) (o : Option (List ℕ)) → is_some (unknown_or None kind o ps) ≡ false → other ≡ unknown_or other kind o ps
  or_other other kind None none = refl
  or_other other kind (Some name) none = go (has_named kind name ps) none
    where
      go : (b : Bool) → is_some (cond b None (Some name)) ≡ false → other ≡ cond b other (Some name)
      go true none = refl
      go false none = cc

  module _ (first : Request) (unknown : Option (List ℕ)) (is : unknown ≡ unknown_or None first.kind first.name ps) where
    -- the first request has one
    pub unknown_first : (rest : List Request) → 1 ≤ length rest → first ≡ get_or rest 0 first → is_some unknown ≡ true → unknown ≡ unknown_in ps rest
    unknown_first [] some own has = absurd (omega (arith, some))
    unknown_first (r ∷ rs) some own has = is ∙ or_own (unknown_in ps rs) first.kind first.name (sym (ap is_some is) ∙ has) ∙ ap (λ (q : Request). unknown_or (unknown_in ps rs) q.kind q.name ps) own

    -- or it has none
    pub unknown_later : (rest : List Request) → 1 ≤ length rest → first ≡ get_or rest 0 first → is_some unknown ≡ false → unknown_in ps (take (length rest - 1) (drop 1 rest)) ≡ unknown_in ps rest
    unknown_later [] some own none = absurd (omega (arith, some))
    unknown_later (r ∷ rs) some own none =
        let back : take (length (r ∷ rs) - 1) rs ≡ rs = take_all (length (r ∷ rs) - 1) rs (omega arith) in
        ap (unknown_in ps) back
        ∙ or_other (unknown_in ps rs) first.kind first.name (sym (ap is_some is) ∙ none)
        ∙ ap (λ (q : Request). unknown_or (unknown_in ps rs) q.kind q.name ps) own
