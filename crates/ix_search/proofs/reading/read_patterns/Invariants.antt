use Rattle.std.proofs.Common.{◌≡◌, drop, Some, None}
use Rattle.ct_keep.specs.Content.{Content}
use Rattle.ct_keep.specs.KeeperViews.{ReadsKeeper}
use Rattle.ix_cursor.specs.Reading.{TokensRise}
use Rattle.ix_tokens.specs.Tokens.{KeyRows, HoldsStream}
use Rattle.ix_tokens.specs.Looking.{LooksLeft}
use Rattle.ix_search.specs.Looking.{patterns_looks}
use Rattle.ix_search.proofs.ReadSteps.{PatternsSoFar}
use Rattle.ix_search.proofs.reading.read_patterns.Given as goal

abbrev pub invariant-loop-pattern : goal.invariant-loop-pattern
invariant-loop-pattern g l = record {
  reads : ReadsKeeper (g.K.Keeper.view l.fn.keeper) (g.K.Keeper.view l.keeper) None;
  looks : (m : Content) → (g.K.Keeper.view l.fn.keeper).content ≡ Some m → LooksLeft (patterns_looks m l.index l.stream (drop l.pattern-index l.patterns)) (patterns_looks m l.index l.stream l.patterns) (g.K.Keeper.view l.fn.keeper).counts (g.K.Keeper.view l.keeper).counts;
  rise : TokensRise l.tokens.items;
  rows : (m : Content) (held : KeyRows) → (g.K.Keeper.view l.fn.keeper).content ≡ Some m → HoldsStream m l.index l.stream held → PatternsSoFar held l.stream l.patterns (drop l.pattern-index l.patterns) l.tokens.items;
}
