use Rattle.std.proofs.Common.{◌≡◌, ◌++◌, map}
use Rattle.ix_search.specs.Hits.{hit_rows}
use Rattle.db_find.specs.Catalogues.{unscored}
use Rattle.db_find.proofs.catalogues.unscored_hits.Given as goal

abbrev pub invariant-loop-key : goal.invariant-loop-key
invariant-loop-key l = hit_rows l.hits.items ++ map (λ r. unscored r.0) l.key-iterator.rest.items ≡ map (λ r. unscored r.0) l.fn.rows.items
