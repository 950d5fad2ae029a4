-- What comparisons answer.
use Rattle.std.specs.Prelude.{◌≡◌, ℕ, ◌<◌, true, false, refl}
use Rattle.std.proofs.Common.{ap, subst, ◌⊎◌, inl, inr}
use Rattle.std.specs.declared.cmp.Ordering.{Ordering}
use Rattle.std.specs.declared.cmp.Ordering.TheVariants.{Less, Equal, Greater}
use Rattle.std.specs.Ordering.{is_lt, is_eq, nat_cmp, ordering_reverse, ordering_then, MatchOrdering}
use Rattle.std.proofs.lemmas.Cmp.{ranked}

pub less_from_test : (o : Ordering) → is_lt o ≡ true → o ≡ Less
less_from_test Less h = refl
less_from_test Equal h = cc
less_from_test Greater h = cc

pub equal_from_test : (o : Ordering) → is_eq o ≡ true → o ≡ Equal
equal_from_test Less h = cc
equal_from_test Equal h = refl
equal_from_test Greater h = cc

-- what is less doesn't tie
pub no_tie : (o : Ordering) → is_lt o ≡ true → is_eq o ≡ false
no_tie Less h = refl
no_tie Equal h = cc
no_tie Greater h = cc

-- what is less isn't so the other way round, and what is neither less nor ties is
pub not_back : (o r : Ordering) → r ≡ ordering_reverse o → is_lt o ≡ true → is_lt r ≡ false
not_back Less r e h = ap is_lt e
not_back Equal r e h = cc
not_back Greater r e h = cc

pub less_back : (o r : Ordering) → r ≡ ordering_reverse o → is_lt o ≡ false → is_eq o ≡ false → is_lt r ≡ true
less_back Less r e less same = cc
less_back Equal r e less same = cc
less_back Greater r e less same = ap is_lt e

-- less by the first comparison, or by the second where the first ties
pub less_by_parts : (o r : Ordering) → ordering_then o r ≡ Less → (o ≡ Less) ⊎ ((o ≡ Equal) × (r ≡ Less))
less_by_parts Less r e = inl refl
less_by_parts Equal r e = inr (refl, e)
less_by_parts Greater r e = cc

-- numbers from what their comparison answers
pub lt_from_less : (a b : ℕ) → nat_cmp a b ≡ Less → a < b
lt_from_less a b e = subst (λ r. MatchOrdering r (a < b) (a ≡ b) (b < a)) e (ranked a b (nat_cmp a b) refl)

pub eq_from_equal : (a b : ℕ) → nat_cmp a b ≡ Equal → a ≡ b
eq_from_equal a b e = subst (λ r. MatchOrdering r (a < b) (a ≡ b) (b < a)) e (ranked a b (nat_cmp a b) refl)
