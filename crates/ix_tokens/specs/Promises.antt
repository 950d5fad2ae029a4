-- What the law of look-ups says.
use Rattle.std.specs.Prelude.{ℕ, ◌≡◌, ◌≤◌, ◌+◌, List, refl}
use Rattle.std.proofs.Common.{arith}
use Rattle.ct_keep.specs.Content.{Content}
use Rattle.ct_keep.specs.KeeperViews.{Counts}
use Rattle.ct_keep.specs.Looks.{no_looks}
use Rattle.q_tree.specs.declared.flats.PatternBit.{PatternBit}
use Rattle.ix_tokens.specs.Looking.{key_looks, key_rows, pattern_looks, pattern_rows}

-- look-ups of at most so many rows, and of no text
pub record AreFewLooks (limit : ℕ) (looks : Counts) : Type 0 where
  pub rows : looks.rows ≤ limit
  pub texts : looks.texts ≡ 0

-- Reading the rows of a key takes one look-up more than there are; reading those of a pattern at most 256 more than there are rows whose token
-- begins with its leading literal.
pub record LooksAreBounded : Type 0 where
  pub of_key : (m : Content) (i : List ℕ) (stream : ℕ) (key : List ℕ) → AreFewLooks (1 + key_rows m i stream key) (key_looks m i stream key)
  pub of_pattern : (m : Content) (i : List ℕ) (stream : ℕ) (p : List PatternBit) → AreFewLooks (256 + pattern_rows m i stream p) (pattern_looks m i stream p)

-- computed example: three rows where four are allowed
three_of_four : AreFewLooks 4 (record no_looks { rows = 3 })
three_of_four = record { rows = omega arith; texts = refl }
