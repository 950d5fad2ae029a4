use Rattle.std.proofs.Common.{◌≡◌, drop}
use Rattle.ix_search.specs.Wanting.{with_term}
use Rattle.ix_search.proofs.wanting.want_term.Given as goal

abbrev pub invariant-loop-phrase : goal.invariant-loop-phrase
invariant-loop-phrase l = with_term l.stream (drop l.phrase-index l.phrases) l.wanted ≡ with_term l.stream l.phrases l.fn.wanted
