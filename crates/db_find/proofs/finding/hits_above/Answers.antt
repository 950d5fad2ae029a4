use Rattle.std.proofs.Common.{◌≡◌, ℕ, ℤ, map, ap, ◌∙◌}
use Rattle.std.specs.Prelude.{filter, nat_lt}
use Rattle.ix_search.specs.declared.hits.Hit.{Hit}
use Rattle.q_tree.specs.ReducedQueries.{reduced_of}
use Rattle.ix_search.specs.Finding.{found}
use Rattle.ix_context.specs.laws.Limits.{within_limits}
use Rattle.ix_kinds.specs.Rows.{table_at}
use Rattle.ix_kinds.specs.laws.Tables.{table_is}
use Rattle.db_state.specs.laws.Contexts.{holds_index}
use Rattle.db_find.specs.laws.Filtering.{filter_mapped}
use Rattle.db_find.proofs.Scores.{above_filtered}
use Rattle.db_find.proofs.finding.hits_above.Goals as goal

pub returns-clause-found : goal.returns-clause-found
returns-clause-found g c = λ m k x holds stands there.
    let above = c.args.above in
    let q = reduced_of c.args.flat.now in
    let pair : Hit → ℤ × ℕ = λ h. (h.key.0, h.score) in
    let t = table_at m.tables x.table in
    let told = holds_index k m stands c.args.index.now x there in
    let limits = within_limits t x (table_is m.tables x.table told.target.table told.tables.rules told.target.there) told.rules in
    let all : map pair c.in_ok-hits.hits.items ≡ found t x q 0 = c.in_ok-hits.ensures.found k t x holds stands.only told.stands limits told.prefs in
    ap (map pair) c.keep_above.ensures
    ∙ filter_mapped (λ (h : ℤ × ℕ). nat_lt above h.1) pair c.in_ok-hits.hits.items
    ∙ ap (filter (λ (h : ℤ × ℕ). nat_lt above h.1)) all
    ∙ above_filtered t x q above
