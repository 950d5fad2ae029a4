-- The places behind a range.
use Rattle.std.proofs.Common.{◌≡◌, ℕ, zero, suc, Bool, true, false, List, [], ◌∷◌, length, take, refl, ap, subst, ◌∙◌}
use Rattle.std.specs.Prelude.{not, ◌&&◌}
use Rattle.std.specs.declared.cmp.Ordering.{Ordering}
use Rattle.std.specs.declared.cmp.Ordering.TheVariants.{Less, Equal, Greater}
use Rattle.std.specs.Ordering.{nat_cmp, is_lt, ordering_then}
use Rattle.std.specs.Cmp.Lexicographic.{slice_cmp}
use Rattle.std.proofs.lemmas.Bool.{and_parts}
use Rattle.cat_walk.specs.Places.{comes_before, is_between}
use Rattle.cat_walk.specs.laws.Orders.{before_then, same_place}

-- of places in order the beginnings of one length are in order
beginnings_in_order : (count : ℕ) (p q : List ℕ) → comes_before q p ≡ false → comes_before (take count q) (take count p) ≡ false
beginnings_in_order zero p q later = refl
beginnings_in_order (suc count) [] [] later = refl
beginnings_in_order (suc count) (y ∷ p) [] later = absurd (cc)
beginnings_in_order (suc count) [] (x ∷ q) later = refl
beginnings_in_order (suc count) (y ∷ p) (x ∷ q) later = go (nat_cmp x y) later (beginnings_in_order count p q)
  where
    go : (o : Ordering) → is_lt (ordering_then o (slice_cmp nat_cmp q p)) ≡ false → (comes_before q p ≡ false → comes_before (take count q) (take count p) ≡ false)
        → is_lt (ordering_then o (slice_cmp nat_cmp (take count q) (take count p))) ≡ false
    go Less later rest = cc
    go Equal later rest = rest later
    go Greater later rest = refl

-- a bound that comes before a place comes before each behind that
before_later : (high a b : List ℕ) → comes_before high a ≡ true → comes_before b a ≡ false → comes_before high b ≡ true
before_later high a b before later = go (comes_before a b) refl
  where
    go : (t : Bool) → comes_before a b ≡ t → comes_before high b ≡ true
    go true is = before_then high a b before is
    go false is = subst (λ (p : List ℕ). comes_before high p ≡ true) (same_place a b is later) before

pub begins_behind : (low high p : List ℕ) → is_between low high p ≡ true → comes_before low p ≡ true
begins_behind low high p between = (and_parts (comes_before low p) (not (comes_before high (take (length high) p))) between).0

pub none_past : (low high place later : List ℕ) → comes_before high (take (length high) place) ≡ true → comes_before later place ≡ false → is_between low high later ≡ false
none_past low high place later past behind =
    let above = before_later high (take (length high) place) (take (length high) later) past (beginnings_in_order (length high) place later behind) in
    ap (λ (b : Bool). comes_before low later && not b) above ∙ none (comes_before low later)
  where
    none : (b : Bool) → (b && false) ≡ false
    none true = refl
    none false = refl
