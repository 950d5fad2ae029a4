use Rattle.std.proofs.Common.{◌≡◌, Some, None}
use Rattle.ct_keep.specs.Content.{Content}
use Rattle.ct_keep.specs.KeeperViews.{ReadsKeeper}
use Rattle.ct_entry.specs.Lists.{EachIs}
use Rattle.ix_cursor.specs.Reading.{SlotFeedsRise}
use Rattle.ix_tokens.specs.Tokens.{KeyRows}
use Rattle.ix_tokens.specs.Looking.{LooksLeft}
use Rattle.ix_search.specs.Reading.{HoldsTokens, CanBeRead}
use Rattle.ix_search.specs.Looking.{slots_looks}
use Rattle.ix_search.proofs.ReadSteps.{SlotsSoFar}
use Rattle.ix_search.proofs.reading.read_slots.Given as goal

abbrev pub invariant-loop-want : goal.invariant-loop-want
invariant-loop-want g l = record {
  reads : ReadsKeeper (g.K.Keeper.view l.fn.keeper) (g.K.Keeper.view l.keeper) None;
  looks : (m : Content) → (g.K.Keeper.view l.fn.keeper).content ≡ Some m → LooksLeft (slots_looks m l.index l.want-iterator.rest.items) (slots_looks m l.index l.fn.wanted.items) (g.K.Keeper.view l.fn.keeper).counts (g.K.Keeper.view l.keeper).counts;
  rise : SlotFeedsRise l.feeds;
  rows : (m : Content) (held : KeyRows) → (g.K.Keeper.view l.fn.keeper).content ≡ Some m → HoldsTokens m l.index held → EachIs CanBeRead l.fn.wanted.items → SlotsSoFar held l.fn.wanted.items l.want-iterator.rest.items l.feeds;
}
