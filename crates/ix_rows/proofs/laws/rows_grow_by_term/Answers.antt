use Rattle.ix_rows.specs.laws.Coming.{grown_by_term}
use Rattle.ix_rows.proofs.laws.rows_grow_by_term.Goals as goal

pub returns : goal.returns
returns c = grown_by_term
