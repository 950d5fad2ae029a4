-- Bytes of a script that were put into a buffer.
use Rattle.std.proofs.Common.{◌≡◌, ◌≤◌, ◌<◌, ◌+◌, ◌++◌, ◌∷◌, [], ℕ, Bool, true, false, nat_lt, List, length, take, drop, sym, arith, length-append, length-drop, take-take}
use Rattle.ct_site.specs.declared.places.Place.{Place}
use Rattle.ct_site.specs.Places.{with_kept_place}
use Rattle.std.proofs.lemmas.List.{take-append-le, take-append-drop, length-take, drop-drop}

-- the beginning of the buffer is that of what was left
pub heard_prefix : (script new old : List ℕ) (at count : ℕ) → at + count ≤ length script → new ≡ take count (drop at script)
    → drop at script ≡ take count (new ++ drop count old) ++ drop (at + count) script
heard_prefix script new old at count h e =
    let n : count ≤ length new = rw e (simp (length-take, length-drop) (omega arith)) in
    rw (take-append-le count new (drop count old) n, e, take-take count count (drop at script) (omega arith), sym (drop-drop count at script)) (sym (take-append-drop count (drop at script)))

-- a place is kept where bytes were heard, and where it is none is more than were kept
pub kept_some : (n : ℕ) → nat_lt 0 n ≡ true → 0 < n
kept_some n h = grind arith

pub few_kept : (places : List Place) (kept : Bool) (p : Place) (n : ℕ) → kept ≡ nat_lt 0 n → length (with_kept_place places kept p) ≤ length places + n
few_kept places false p n is = omega arith
few_kept places true p n is = let some = kept_some n (sym is) in omega (arith, some, length-append places (p ∷ []))
