-- How many pages steps of a plan take that are made one after the other.
use Rattle.std.proofs.Common.{◌≤◌, ◌≡◌, ℕ, ◌+◌, ◌^◌, max, List, length, sym, subst, arith}
use Rattle.pg_map.specs.Kinds.{Kind}
use Rattle.pg_plan.specs.Drafts.{Drafted}
use Rattle.pg_plan.specs.FreePlaces.{NeedsPages, used_pages}
use Rattle.pg_plan.specs.PlanSteps.{TakesPages}

pub needs_same : (old new : List Kind) → new ≡ old → NeedsPages old new 0
needs_same old new is = subst (λ (l : List Kind). NeedsPages old l 0) (sym is) (record { used = omega arith; all = omega arith })

pub needs_then : (old mid new : List Kind) (p q : ℕ) → NeedsPages old mid p → NeedsPages mid new q → NeedsPages old new (p + q)
needs_then old mid new p q first second = record { used = of _ _ _ _ _ first.used second.used; all = more _ _ _ _ _ _ _ first.used first.all second.all }
  where
    of : (x y z p q : ℕ) → y ≤ x + p → z ≤ y + q → z ≤ x + (p + q)
    of x y z p q a b = omega (arith, a, b)

    more : (l m n u v p q : ℕ) → v ≤ u + p → m ≤ max l (u + p) → n ≤ max m (v + q) → n ≤ max l (u + (p + q))
    more l m n u v p q a b c = omega (arith, a, b, c)

pub needs_none : (old mid new : List Kind) (q : ℕ) → NeedsPages old mid 0 → NeedsPages mid new q → NeedsPages old new q
needs_none old mid new q first second = record { used = of _ _ _ _ first.used second.used; all = more _ _ _ _ _ _ first.used first.all second.all }
  where
    of : (x y z q : ℕ) → y ≤ x + 0 → z ≤ y + q → z ≤ x + q
    of x y z q a b = omega (arith, a, b)

    more : (l m n u v q : ℕ) → v ≤ u + 0 → m ≤ max l (u + 0) → n ≤ max m (v + q) → n ≤ max l (u + q)
    more l m n u v q a b c = omega (arith, a, b, c)

pub needs_more : (old new : List Kind) (p q : ℕ) → p ≤ q → NeedsPages old new p → NeedsPages old new q
needs_more old new p q less needs = record { used = of _ _ _ _ needs.used less; all = more _ _ _ _ _ needs.all less }
  where
    of : (x y p q : ℕ) → x ≤ y + p → p ≤ q → x ≤ y + q
    of x y p q a b = omega (arith, a, b)

    more : (n l u p q : ℕ) → n ≤ max l (u + p) → p ≤ q → n ≤ max l (u + q)
    more n l u p q a b = omega (arith, a, b)

-- pages that were those before are so still
pub needs_from : (before now new : List Kind) (p : ℕ) → now ≡ before → NeedsPages now new p → NeedsPages before new p
needs_from before now new p is needs = subst (λ (ks : List Kind). NeedsPages ks new p) is needs

pub too_many : (before now new : List Kind) (p : ℕ) → now ≡ before → NeedsPages now new p → 2147483645 ≤ length new → 2 ^ 31 ≤ 3 + max (length before) (used_pages before + p)
too_many before now new p is needs many = of _ _ _ _ (needs_from before now new p is needs).all many
  where
    of : (n l u p : ℕ) → n ≤ max l (u + p) → 2147483645 ≤ n → 2 ^ 31 ≤ 3 + max l (u + p)
    of n l u p a b = omega (arith, a, b)

pub takes_then : (old mid new : Drafted) (p q : ℕ) → TakesPages old mid p → TakesPages mid new q → TakesPages old new (q + p)
takes_then old mid new p q first second = record { needs = subst (NeedsPages old.now new.now) (turn p q) (needs_then old.now mid.now new.now p q first.needs second.needs); touches_are = of _ _ _ _ _ first.touches_are second.touches_are }
  where
    turn : (p q : ℕ) → p + q ≡ q + p
    turn p q = omega arith

    of : (x y z p q : ℕ) → y ≤ x + p → z ≤ y + q → z ≤ x + (q + p)
    of x y z p q a b = omega (arith, a, b)

pub takes_more : (old new : Drafted) (p q : ℕ) → p ≤ q → TakesPages old new p → TakesPages old new q
takes_more old new p q less takes = record { needs = needs_more old.now new.now p q less takes.needs; touches_are = let a = takes.touches_are in omega (arith, a, less) }

pub takes_same : (old new : Drafted) → new ≡ old → TakesPages old new 1
takes_same old new is = subst (λ (d : Drafted). TakesPages old d 1) (sym is) (record { needs = record { used = omega arith; all = omega arith }; touches_are = omega arith })

-- then nothing changed
pub takes_on : (old mid new : Drafted) → TakesPages old mid 1 → new ≡ mid → TakesPages old new 1
takes_on old mid new takes is = subst (λ (d : Drafted). TakesPages old d 1) (sym is) takes
