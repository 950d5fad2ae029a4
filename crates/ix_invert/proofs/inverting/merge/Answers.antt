use Rattle.std.proofs.Common.{rules}
use Rattle.ix_invert.specs.Inverting.{IsInversion}
use Rattle.ix_invert.specs.laws.Inversions.{inversion-joined}
use Rattle.ix_invert.proofs.inverting.merge.Goals as goal

pub returns : goal.returns
returns c xs ys left right =
    let f : IsInversion xs c.in_ok-whole.whole.items = search rules in
    let b : IsInversion ys c.in_ok-rest.rest.items = search rules in
    inversion-joined xs ys _ _ c.append.new.self.items _ f b c.in_ok-append.ensures.items c.sort.ensures.permutation c.in_ok-sort.ensures.sorted c.sort.ensures.stable
