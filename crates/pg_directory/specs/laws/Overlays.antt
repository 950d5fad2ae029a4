-- What stands in a store whose pages are written one by one: each write sets one page.
use Rattle.std.specs.Prelude.{Bool, cond, map}
use Rattle.std.proofs.Common.{◌≡◌, ◌≢◌, ⊎_elim, ℕ, suc, ◌-◌, ◌≤◌, ◌<◌, ◌==◌, List, [], ◌∷◌, set, refl, sym, ap, subst, ◌∙◌, arith}
use Rattle.std.proofs.lemmas.Bool.{cases_eq, cases_lt, eq-eqb, lt-ltb, le-ltb, ne_eqb}
use Rattle.std.proofs.lemmas.List.{map-set}
use Rattle.pg_directory.specs.Overlays.{with_write}
use Rattle.pg_directory.specs.Trees.{StorePage, IsPage, kind_of}
use Rattle.pg_directory.specs.Written.{PageWrite, write_over, with_writes, AreWrites}
use Rattle.pg_directory.specs.laws.Written.{over_here, over_other}

-- ---- where it comes

comes_before : (w v : PageWrite) (vs : List PageWrite) → w.0 < v.0 → with_write w (v ∷ vs) ≡ w ∷ v ∷ vs
comes_before w v vs less = ap (λ (b : Bool). cond b (w ∷ v ∷ vs) (cond (w.0 == v.0) (w ∷ vs) (v ∷ with_write w vs))) (lt-ltb w.0 v.0 less)

comes_instead : (w v : PageWrite) (vs : List PageWrite) → w.0 ≡ v.0 → with_write w (v ∷ vs) ≡ w ∷ vs
comes_instead w v vs same =
    ap (λ (b : Bool). cond b (w ∷ v ∷ vs) (cond (w.0 == v.0) (w ∷ vs) (v ∷ with_write w vs))) (le-ltb w.0 v.0 (omega (arith, same)))
    ∙ ap (λ (b : Bool). cond b (w ∷ vs) (v ∷ with_write w vs)) (eq-eqb w.0 v.0 same)

comes_behind : (w v : PageWrite) (vs : List PageWrite) → v.0 < w.0 → with_write w (v ∷ vs) ≡ v ∷ with_write w vs
comes_behind w v vs more =
    ap (λ (b : Bool). cond b (w ∷ v ∷ vs) (cond (w.0 == v.0) (w ∷ vs) (v ∷ with_write w vs))) (le-ltb w.0 v.0 (omega (arith, more)))
    ∙ ap (λ (b : Bool). cond b (w ∷ vs) (v ∷ with_write w vs)) (ne_eqb w.0 v.0 (λ e. omega (arith, e, more)))

-- ---- what stands under a number

three : (a b : ℕ) {P : Type 0} → (a < b → P) → (a ≡ b → P) → (b < a → P) → P
three a b less same more = ⊎_elim less (λ high. ⊎_elim (λ is. same (sym is)) (λ other. more (omega (arith, high, other))) (cases_eq b a)) (cases_lt a b)

pub over_with_here : (w : PageWrite) (ws : List PageWrite) (p : StorePage) → write_over (with_write w ws) w.0 p ≡ w.1
over_with_here w [] p = over_here w [] p
over_with_here w (v ∷ vs) p = three w.0 v.0
    (λ less. ap (λ (l : List PageWrite). write_over l w.0 p) (comes_before w v vs less) ∙ over_here w (v ∷ vs) p)
    (λ same. ap (λ (l : List PageWrite). write_over l w.0 p) (comes_instead w v vs same) ∙ over_here w vs p)
    (λ more. ap (λ (l : List PageWrite). write_over l w.0 p) (comes_behind w v vs more) ∙ over_other v (with_write w vs) w.0 p (λ e. omega (arith, e, more)) ∙ over_with_here w vs p)

pub over_with_other : (w : PageWrite) (ws : List PageWrite) (i : ℕ) (p : StorePage) → w.0 ≢ i → write_over (with_write w ws) i p ≡ write_over ws i p
over_with_other w [] i p apart = over_other w [] i p apart
over_with_other w (v ∷ vs) i p apart = three w.0 v.0
    (λ less. ap (λ (l : List PageWrite). write_over l i p) (comes_before w v vs less) ∙ over_other w (v ∷ vs) i p apart)
    (λ same. ap (λ (l : List PageWrite). write_over l i p) (comes_instead w v vs same) ∙ over_other w vs i p apart ∙ sym (over_other v vs i p (λ e. apart (same ∙ e))))
    (λ more. ap (λ (l : List PageWrite). write_over l i p) (comes_behind w v vs more) ∙ ap (λ (q : StorePage). cond (v.0 == i) v.1 q) (over_with_other w vs i p apart))

-- ---- one page more is written

pub writes_with : (low end : ℕ) (w : PageWrite) (ws : List PageWrite) → low ≤ w.0 → w.0 < end → IsPage w.1 → AreWrites low end ws → AreWrites low end (with_write w ws)
writes_with low end w [] least less good are = (least, omega (arith, less), good, tt)
writes_with low end w (v ∷ vs) least less good are = three w.0 v.0
    (λ before. subst_writes low end (sym (comes_before w v vs before)) (least, omega (arith, less), good, (omega (arith, before), are.1, are.2, are.3)))
    (λ same. subst_writes low end (sym (comes_instead w v vs same)) (least, omega (arith, less), good, subst (λ (n : ℕ). AreWrites (suc n) end vs) (sym same) are.3))
    (λ more. subst_writes low end (sym (comes_behind w v vs more)) (are.0, are.1, are.2, writes_with (suc v.0) end w vs (omega (arith, more)) less good are.3))
  where
    subst_writes : (low end : ℕ) {us vs : List PageWrite} → us ≡ vs → AreWrites low end us → AreWrites low end vs
    subst_writes low end e a = subst (AreWrites low end) e a

-- ---- the pages

kept_behind : (w : PageWrite) (ws : List PageWrite) (i : ℕ) (ps : List StorePage) → w.0 < i → with_writes (with_write w ws) i ps ≡ with_writes ws i ps
kept_behind w ws i [] less = refl
kept_behind w ws i (p ∷ ps) less =
    ap (λ (q : StorePage). q ∷ with_writes (with_write w ws) (suc i) ps) (over_with_other w ws i p (λ e. omega (arith, e, less)))
    ∙ ap (λ (l : List StorePage). write_over ws i p ∷ l) (kept_behind w ws (suc i) ps (omega (arith, less)))

pub pages_with : (w : PageWrite) (ws : List PageWrite) (i : ℕ) (ps : List StorePage) → i ≤ w.0 → with_writes (with_write w ws) i ps ≡ set (with_writes ws i ps) (w.0 - i) w.1
pages_with w ws i [] low = refl
pages_with w ws i (p ∷ ps) low = ⊎_elim
    (λ same.
    let z : w.0 - i ≡ 0 = omega (arith, same) in
    ap (λ (n : ℕ). write_over (with_write w ws) n p ∷ with_writes (with_write w ws) (suc i) ps) (sym same)
    ∙ ap (λ (q : StorePage). q ∷ with_writes (with_write w ws) (suc i) ps) (over_with_here w ws p)
    ∙ ap (λ (l : List StorePage). w.1 ∷ l) (kept_behind w ws (suc i) ps (omega (arith, same)))
    ∙ ap (λ (n : ℕ). set (write_over ws i p ∷ with_writes ws (suc i) ps) n w.1) (sym z))
    (λ other.
    let s : w.0 - i ≡ suc (w.0 - suc i) = omega (arith, low, other) in
    ap (λ (q : StorePage). q ∷ with_writes (with_write w ws) (suc i) ps) (over_with_other w ws i p other)
    ∙ ap (λ (l : List StorePage). write_over ws i p ∷ l) (pages_with w ws (suc i) ps (omega (arith, low, other)))
    ∙ ap (λ (n : ℕ). set (write_over ws i p ∷ with_writes ws (suc i) ps) n w.1) (sym s))
    (cases_eq w.0 i)

-- to the map one page is set
pub kinds_with : (w : PageWrite) (ws : List PageWrite) (ps : List StorePage) → 3 ≤ w.0 → map kind_of (with_writes (with_write w ws) 3 ps) ≡ set (map kind_of (with_writes ws 3 ps)) (w.0 - 3) (kind_of w.1)
kinds_with w ws ps low = ap (λ (l : List StorePage). map kind_of l) (pages_with w ws 3 ps low) ∙ map-set kind_of (with_writes ws 3 ps) (w.0 - 3) w.1
