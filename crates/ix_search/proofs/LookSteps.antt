-- The steps of looking at one after the other.
use Rattle.std.proofs.Common.{◌≡◌, subst, arith}
use Rattle.ct_keep.specs.KeeperViews.{Counts}
use Rattle.ct_keep.specs.Looks.{plus, RisesBy}
use Rattle.ix_tokens.specs.Looking.{LooksLeft}

-- after a part the rest is left
pub looks_on : (whole one more all old mid new : Counts) → LooksLeft whole all old mid → whole ≡ plus one more → RisesBy one mid new → LooksLeft more all old new
looks_on whole one more all old mid new left is rises =
    let l = subst (λ (c : Counts). LooksLeft c all old mid) is left in
    record { texts = omega (arith, l.texts, rises.texts); rows = omega (arith, l.rows, rises.rows); rules = omega (arith, l.rules, rises.rules) }
