use Rattle.std.proofs.Common.{◌≡◌, drop}
use Rattle.ix_search.specs.Wanting.{with_phrase}
use Rattle.ix_search.proofs.wanting.want_phrase.Given as goal

abbrev pub invariant-loop-slot : goal.invariant-loop-slot
invariant-loop-slot l = with_phrase l.stream (drop l.slot-index l.phrase) l.wanted ≡ with_phrase l.stream l.phrase l.fn.wanted
