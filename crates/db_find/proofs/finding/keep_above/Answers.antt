use Rattle.std.proofs.Common.{rules}
use Rattle.std.specs.Prelude.{nat_lt}
use Rattle.std.proofs.lemmas.Fn.{filter_same}
use Rattle.ix_search.specs.declared.hits.Hit.{Hit}
use Rattle.db_find.proofs.finding.keep_above.Goals as goal

pub returns : goal.returns
returns c = filter_same _ (λ (h : Hit). nat_lt c.args.above h.score) _ (λ h b f k. search rules) _ _ c.retain.ensures.filtered
