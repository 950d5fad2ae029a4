-- What the law of allowances says.
use Rattle.std.specs.Prelude.{◌≡◌, true, refl}
use Rattle.ct_keep.specs.KeeperViews.{Counts}
use Rattle.db_looks.specs.Allowances.{Allowance, nothing_allowed, together, is_bounded, CountsWithin}

pub record AllowancesAdd : Type 0 where
  -- what does nothing is within each allowance
  pub still : (a : Allowance) (c : Counts) → CountsWithin a c c
  -- Two statements, one after the other, look up at most what is allowed to both together. Of the second nothing has to be known unless
  -- something is said of the first: else nothing is said of both.
  pub then_more : (a b : Allowance) (old mid new : Counts) → CountsWithin a old mid → (is_bounded a ≡ true → CountsWithin b mid new) → CountsWithin (together a b) old new
  -- what looks nothing up adds nothing, before or behind; and of three it makes no difference which two are taken together first
  pub nothing_more : (a : Allowance) → together nothing_allowed a ≡ a
  pub more_nothing : (a : Allowance) → together a nothing_allowed ≡ a
  pub of_three : (a b c : Allowance) → together (together a b) c ≡ together a (together b c)

-- computed example
two_nothings : together nothing_allowed nothing_allowed ≡ nothing_allowed
two_nothings = refl
