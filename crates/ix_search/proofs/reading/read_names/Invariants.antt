use Rattle.std.proofs.Common.{◌≡◌, Some, None}
use Rattle.ct_base.specs.Names.{IsName}
use Rattle.ct_keep.specs.Content.{Content}
use Rattle.ct_keep.specs.KeeperViews.{ReadsKeeper}
use Rattle.ct_entry.specs.Lists.{EachIs}
use Rattle.ix_cursor.specs.Reading.{SectionFeedsRise}
use Rattle.ix_tokens.specs.Looking.{LooksLeft}
use Rattle.ix_search.specs.Reading.{NameRows, HoldsName, section_feed}
use Rattle.ix_search.specs.Looking.{names_looks}
use Rattle.ix_search.proofs.ReadSteps.{ReadSoFar}
use Rattle.ix_search.proofs.reading.read_names.Given as goal

abbrev pub invariant-loop-name : goal.invariant-loop-name
invariant-loop-name g l = record {
  reads : ReadsKeeper (g.K.Keeper.view l.fn.keeper) (g.K.Keeper.view l.keeper) None;
  named : EachIs IsName l.name-iterator.rest.items → EachIs IsName l.fn.names.items;
  looks : (m : Content) → (g.K.Keeper.view l.fn.keeper).content ≡ Some m → LooksLeft (names_looks m l.index l.name-iterator.rest.items) (names_looks m l.index l.fn.names.items) (g.K.Keeper.view l.fn.keeper).counts (g.K.Keeper.view l.keeper).counts;
  rise : SectionFeedsRise l.feeds;
  rows : (m : Content) (held : NameRows) → (g.K.Keeper.view l.fn.keeper).content ≡ Some m → EachIs (HoldsName m l.index held) l.fn.names.items
      → ReadSoFar (HoldsName m l.index held) (section_feed held) l.fn.names.items l.name-iterator.rest.items l.feeds;
}
