use Rattle.std.proofs.Common.{◌≡◌, ◌≤◌, ◌+◌, ◌-◌, None, Some, length}
use Rattle.ct_keep.specs.Content.{Content}
use Rattle.ct_keep.specs.KeeperViews.{ReadsKeeper}
use Rattle.q_match.specs.Literals.{leading_literal}
use Rattle.ix_tokens.specs.Looking.{lengths_looks, pattern_looks, LooksLeft}
use Rattle.ix_tokens.specs.Rising.{EachRises}
use Rattle.ix_tokens.specs.Scanned.{lengths_matches, matches_count}
use Rattle.ix_tokens.specs.Tokens.{KeyRows, HoldsStream}
use Rattle.ix_tokens.proofs.Steps.{AreRowsBelow}
use Rattle.ix_tokens.proofs.reading.rows_of_pattern.Given as goal

abbrev pub invariant-loop-size : goal.invariant-loop-size
invariant-loop-size g l = record {
  reads : ReadsKeeper (g.K.Keeper.view l.fn.keeper) (g.K.Keeper.view l.keeper) None;
  looks : (m : Content) → (g.K.Keeper.view l.fn.keeper).content ≡ Some m → LooksLeft (lengths_looks m l.index l.stream (leading_literal l.pattern) (256 - l.size) l.size) (pattern_looks m l.index l.stream l.pattern) (g.K.Keeper.view l.fn.keeper).counts (g.K.Keeper.view l.keeper).counts;
  rise : EachRises l.tokens.items;
  counted : (m : Content) → (g.K.Keeper.view l.fn.keeper).content ≡ Some m → length l.tokens.items + lengths_matches m l.index l.stream l.pattern (256 - l.size) l.size ≡ matches_count m l.index l.stream l.pattern;
  some : 1 ≤ l.size;
  long : length (leading_literal l.pattern) ≤ l.size;
  rows : (m : Content) (held : KeyRows) → (g.K.Keeper.view l.fn.keeper).content ≡ Some m → HoldsStream m l.index l.stream held → AreRowsBelow held l.stream l.pattern l.size l.tokens.items;
}

abbrev pub decreases-loop-size : goal.decreases-loop-size
decreases-loop-size g l = 256 - l.size
