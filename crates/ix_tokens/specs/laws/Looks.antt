-- Looking at one after the other.
use Rattle.std.proofs.Common.{arith}
use Rattle.ct_keep.specs.KeeperViews.{Counts}
use Rattle.ct_keep.specs.Looks.{RisesBy}
use Rattle.ix_tokens.specs.Looking.{LooksLeft}

-- wherever it ends, no more was looked at than all
pub looks_end : (rest all old now : Counts) → LooksLeft rest all old now → RisesBy all old now
looks_end rest all old now left = record { texts = omega (arith, left.texts); rows = omega (arith, left.rows); rules = omega (arith, left.rules) }
