-- Which long pages were taken, each as one of an entry's value.
use Rattle.std.specs.Prelude.{◌≡◌, ℕ, ◌≤◌, Bool, List, []}
use Rattle.std.proofs.Common.{arith}
use Rattle.pg_map.specs.ChainReading.{taken_times}
use Rattle.pg_map.specs.Holding.{kind_of_page, one_if_long}
use Rattle.pg_map.specs.Kinds.{Kind}

-- each long page was taken
pub record AreAllTaken (kinds : List Kind) (taken : List Bool) : Type 0 where
  pub all : (i : ℕ) → 3 ≤ i → one_if_long (kind_of_page kinds i) ≤ taken_times taken i

-- a long page was not taken
pub record IsOneLeft (kinds : List Kind) (taken : List Bool) : Type 0 where
  pub page : ℕ
  pub low : 3 ≤ page
  pub long : one_if_long (kind_of_page kinds page) ≡ 1
  pub left : taken_times taken page ≡ 0

-- ---- example: where no page is long, all are taken
none_long : AreAllTaken [] []
none_long = record { all = λ i low. omega arith }
