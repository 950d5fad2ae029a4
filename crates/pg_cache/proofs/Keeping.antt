-- What is kept after each change of a cache.
use Rattle.std.proofs.Common.{◌≡◌, ◌≢◌, ◌⊎◌, inl, inr, ⊎_elim, ℕ, ◌<◌, ◌≤◌, ◌==◌, Bool, true, false, cond, List, [], ◌∷◌, ◌++◌, length, map, take, get_or, set, refl, sym, ap, subst, ◌∙◌, arith}
use Rattle.std.specs.List.{Contains, list_any}
use Rattle.std.proofs.lemmas.Bool.{eqb-true, eq-eqb, false≢true}
use Rattle.std.proofs.lemmas.List.Elements.{All-contains, All-contains_itself, All-set, All-weaker, Contains-get_or, Contains-push_cases}
use Rattle.std.proofs.lemmas.List.Folds.{list_any_at}
use Rattle.std.proofs.lemmas.List.{get_or-map, length-map}
use Rattle.lru.proofs.Splits.{Contains-cons, Contains-nil}
use Rattle.pg_journal.specs.Pages.{Numbered}
use Rattle.pg_cache.specs.Caches.{renewed, Keeps, KeepsNone, HasNoOther, WasKept, Renews}

-- Each page that is kept now was kept before, or is this one.
pub record HasOnlyOf (number : ℕ) (bytes : List ℕ) (old new : List Numbered) : Type 0 where
  pub each : (w : Numbered) → Keeps new w → Keeps old w ⊎ (w ≡ (number, bytes))

-- ---- one place more, or one place changed

set_cases : (l : List Numbered) (at : ℕ) (v w : Numbered) → Contains (set l at v) w → Contains l w ⊎ (w ≡ v)
set_cases l at v w has =
    let itself : v ≡ v = refl in
    All-contains (λ (x : Numbered). Contains l x ⊎ (x ≡ v)) (set l at v) w
    (All-set (λ (x : Numbered). Contains l x ⊎ (x ≡ v)) l at v (inr itself)
    (All-weaker (Contains l) (λ (x : Numbered). Contains l x ⊎ (x ≡ v)) (λ x there. inl there) l (All-contains_itself l))) has

pub keeps_pushed : (l : List Numbered) (v : Numbered) → v.0 ≡ 0 → HasNoOther l (l ++ v ∷ [])
keeps_pushed l v zero_ = record {
  each = λ w has. ⊎_elim
      (λ there. (there, has.1))
      (λ is. let n = ap (λ (x : Numbered). x.0) is in let some = has.1 in absurd (omega (arith, n, some, zero_)))
      (Contains-push_cases l v w has.0);
}

-- a place without a page
pub keeps_emptied : (l : List Numbered) (at : ℕ) (v : Numbered) → v.0 ≡ 0 → HasNoOther l (set l at v)
keeps_emptied l at v zero_ = record {
  each = λ w has. ⊎_elim
      (λ there. (there, has.1))
      (λ is. let n = ap (λ (x : Numbered). x.0) is in let some = has.1 in absurd (omega (arith, n, some, zero_)))
      (set_cases l at v w has.0);
}

-- a place with the page that it has
pub keeps_same : (l : List Numbered) (at : ℕ) (v : Numbered) → at < length l → v ≡ get_or l at v → HasNoOther l (set l at v)
keeps_same l at v less own = record {
  each = λ w has. ⊎_elim
      (λ there. (there, has.1))
      (λ is. (subst (Contains l) (sym is) (at, less, sym own), has.1))
      (set_cases l at v w has.0);
}

-- a place with another page
pub keeps_put : (l : List Numbered) (at n : ℕ) (v : Numbered) → v.0 ≡ n → HasOnlyOf n v.1 l (set l at v)
keeps_put l at n v is = record {
  each = λ w has. ⊎_elim
      (λ there. inl (there, has.1))
      (λ same. inr (same ∙ ap (λ (k : ℕ). (k, v.1)) is))
      (set_cases l at v w has.0);
}

-- one place, without a page
pub keeps_first : (l : List Numbered) (v : Numbered) → v.0 ≡ 0 → KeepsNone (set (take 1 l) 0 v)
keeps_first [] v zero_ = record { none = λ w has. absurd (let less = has.0.1 in omega (arith, less)) }
keeps_first (x ∷ xs) v zero_ = record {
  none = λ w has. ⊎_elim
      (λ is. let n = ap (λ (x : Numbered). x.0) is in let some = has.1 in omega (arith, n, some, zero_))
      (λ more. Contains-nil w more)
      (Contains-cons v [] w has.0);
}

-- ---- pages in place of those that were kept

-- an element that a function made of another one
pub record Made (f : Numbered → Numbered) (l : List Numbered) (w : Numbered) : Type 0 where
  pub of : Numbered
  pub has : Contains l of
  pub is : w ≡ f of

made_of : (f : Numbered → Numbered) (l : List Numbered) (w : Numbered) → Contains (map f l) w → Made f l w
made_of f l w has =
    let count = length-map l f in
    let less : has.0 < length l = let within = has.1 in omega (arith, within, count) in
    record { of = get_or l has.0 (0, []); has = Contains-get_or l has.0 (0, []) less; is = sym has.2 ∙ get_or-map f l has.0 (0, []) w less }

pub each_renewed : (n : ℕ) (bytes : List ℕ) (l new : List Numbered) → new ≡ map (renewed n bytes) l → Renews n bytes l new
each_renewed n bytes l new is = record {
  each = λ w has.
      let m = made_of (renewed n bytes) l w (subst (λ (x : List Numbered). Contains x w) is has.0) in
      of w has.1 m (m.of.0 == n) refl;
}
  where
    of : (w : Numbered) → 1 ≤ w.0 → (m : Made (renewed n bytes) l w) → (b : Bool) → (m.of.0 == n) ≡ b → (Keeps l w × (w.0 ≢ n)) ⊎ ((w ≡ (n, bytes)) × WasKept l n)
    of w some m true is =
        let one : w ≡ (n, bytes) = m.is ∙ ap (λ (b : Bool). cond b (n, bytes) m.of) is in
        let number = eqb-true m.of.0 n is in
        let own = ap (λ (x : Numbered). x.0) one in
        inr (one, record { bytes = m.of.1; has = (subst (Contains l) (ap (λ (k : ℕ). (k, m.of.1)) number) m.has, omega (arith, some, own)) })
    of w some m false is =
        let one : w ≡ m.of = m.is ∙ ap (λ (b : Bool). cond b (n, bytes) m.of) is in
        inl ((subst (Contains l) (sym one) m.has, some), λ same. false≢true (sym is ∙ eq-eqb m.of.0 n (sym (ap (λ (x : Numbered). x.0) one) ∙ same)))

pub none_to_renew : (n : ℕ) (bytes : List ℕ) (l : List Numbered) → list_any (λ (w : Numbered). w.0 == n) l ≡ false → Renews n bytes l l
none_to_renew n bytes l none = record {
  each = λ w has. inl (
    has,
    λ same.
        let at = has.0 in
        false≢true (sym none ∙ list_any_at (λ (v : Numbered). v.0 == n) l at.0 w at.1 (ap (λ (v : Numbered). v.0 == n) at.2 ∙ eq-eqb w.0 n same)),
  );
}
