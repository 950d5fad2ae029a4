use Rattle.std.proofs.Common.{◌≡◌, ℕ, List, drop, Some, None}
use Rattle.ct_keep.specs.Content.{Content}
use Rattle.ct_keep.specs.KeeperViews.{ReadsKeeper}
use Rattle.ct_entry.specs.Lists.{EachIs}
use Rattle.ix_posting.specs.Rows.{WordDocument}
use Rattle.ix_cursor.specs.Reading.{TokensRise}
use Rattle.ix_tokens.specs.Tokens.{HoldsKey}
use Rattle.ix_tokens.specs.Looking.{LooksLeft}
use Rattle.ix_search.specs.Looking.{keys_looks}
use Rattle.ix_search.proofs.ReadSteps.{ReadSoFar}
use Rattle.ix_search.proofs.reading.read_keys.Given as goal

abbrev pub invariant-loop-key : goal.invariant-loop-key
invariant-loop-key g l = record {
  reads : ReadsKeeper (g.K.Keeper.view l.fn.keeper) (g.K.Keeper.view l.keeper) None;
  looks : (m : Content) → (g.K.Keeper.view l.fn.keeper).content ≡ Some m → LooksLeft (keys_looks m l.index l.stream (drop l.key-index l.keys)) (keys_looks m l.index l.stream l.keys) (g.K.Keeper.view l.fn.keeper).counts (g.K.Keeper.view l.keeper).counts;
  rise : TokensRise l.tokens.items;
  rows : (m : Content) (held : List ℕ → List (List WordDocument)) → (g.K.Keeper.view l.fn.keeper).content ≡ Some m → EachIs (λ key. HoldsKey m l.index l.stream key (held key)) l.keys
      → ReadSoFar (λ key. HoldsKey m l.index l.stream key (held key)) held l.keys (drop l.key-index l.keys) l.tokens.items;
}
