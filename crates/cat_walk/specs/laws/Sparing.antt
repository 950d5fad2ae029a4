-- Calls that look up no text, one after another.
use Rattle.std.proofs.Common.{ℕ, List, None, ◌∙◌, arith}
use Rattle.ct_keep.specs.KeeperViews.{KeeperView, ReadsKeeper}
use Rattle.cat_walk.specs.Looks.{LooksUpNoText}

pub spares_none : (stem : List ℕ) (k : KeeperView) → LooksUpNoText stem k k
spares_none stem k = record { counts = λ of m told. record { texts = omega arith; rows = omega arith } }

pub spares_on : (stem : List ℕ) (old mid new : KeeperView) → ReadsKeeper old mid None → LooksUpNoText stem old mid → LooksUpNoText stem mid new → LooksUpNoText stem old new
spares_on stem old mid new reads first second = record {
  counts = λ of m told.
      let a = first.counts of m told in
      let b = second.counts of m (reads.content ∙ told) in
      record { texts = omega (arith, a.texts, b.texts); rows = omega (arith, a.rows, b.rows) };
}
