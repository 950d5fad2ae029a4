use Rattle.ix_tokens.specs.Rising.{EachRises}
use Rattle.ix_tokens.specs.Scanned.{bytes_of_entries, is_wanted_entry}
use Rattle.ix_tokens.specs.Trying.{IsTried}
use Rattle.ix_tokens.proofs.Steps.{AreTaking}
use Rattle.ix_tokens.proofs.taking.rows_of_entries.Given as goal

abbrev pub invariant-loop-rest : goal.invariant-loop-rest
invariant-loop-rest l = record {
  rise : EachRises l.tokens.items;
  tried : IsTried l.pattern l.literal l.tried;
  taking : AreTaking (is_wanted_entry l.pattern l.literal l.more) (bytes_of_entries l.fn.entries.items) (bytes_of_entries l.rest-iterator.rest.items) l.tokens.items;
}
