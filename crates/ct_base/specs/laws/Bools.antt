-- Truth values.
use Rattle.std.specs.Prelude.{◌≡◌, ◌&&◌, ◌||◌, Bool, true, false, not, refl, T}
use Rattle.std.proofs.Common.{sym, subst}

-- two tests that hold in the same cases are one
pub same_tests : (p q : Bool) → (p ≡ true → q ≡ true) → (q ≡ true → p ≡ true) → p ≡ q
same_tests true true f g = refl
same_tests true false f g = sym (f refl)
same_tests false true f g = g refl
same_tests false false f g = refl

-- a test that holds, in std's two forms
pub true_from_T : (b : Bool) → T b → b ≡ true
true_from_T true h = refl
true_from_T false h = absurd h

pub T_from_true : (b : Bool) → b ≡ true → T b
T_from_true b h = subst T (sym h) tt

-- two tests that both hold, in the form of one
pub T_both : (a b : Bool) → T a → T b → T (a && b)
T_both true b h k = k
T_both false b h k = absurd h

pub T_first : (a b : Bool) → T (a && b) → T a
T_first true b h = tt
T_first false b h = absurd h

pub T_second : (a b : Bool) → T (a && b) → T b
T_second true b h = h
T_second false b h = absurd h

-- of three tests the first two may change places
pub or_swap : (a b c : Bool) → (a || (b || c)) ≡ (b || (a || c))
or_swap true true c = refl
or_swap true false c = refl
or_swap false b c = refl

pub or_false : (a : Bool) → (a || false) ≡ a
or_false true = refl
or_false false = refl

pub or_twice : (a b : Bool) → (a || b) ≡ (a || (a || b))
or_twice true b = refl
or_twice false b = refl

pub and_assoc : (a b c : Bool) → (a && (b && c)) ≡ ((a && b) && c)
and_assoc true b c = refl
and_assoc false b c = refl

-- two tests hold, of which the second is now a weaker one
pub and_weaker : (a b c : Bool) → (b ≡ true → c ≡ true) → (a && b) ≡ true → (a && c) ≡ true
and_weaker true b c weaker is = weaker is
and_weaker false b c weaker is = is

pub not_false : (a : Bool) → not a ≡ false → a ≡ true
not_false true is = refl
not_false false is = sym is
