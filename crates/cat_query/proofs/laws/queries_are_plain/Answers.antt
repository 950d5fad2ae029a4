use Rattle.std.proofs.Common.{sym, ap, subst, ◌∙◌}
use Rattle.cat_query.specs.PlainTrees.{is_plain_tree}
use Rattle.cat_query.specs.Verdicts.{IsVerdict, Verdict}
use Rattle.cat_query.proofs.Limits.{query_keeps_limits}
use Rattle.cat_query.proofs.PlainTrees.{text_plain}
use Rattle.cat_query.proofs.Verdicts.{verdict_is_true}
use Rattle.cat_query.proofs.laws.queries_are_plain.Goals as goal

pub returns-clause-limits : goal.returns-clause-limits
returns-clause-limits c = λ text t is.
    let own = subst (λ (v : Verdict). IsVerdict text v) is (verdict_is_true text) in
    query_keeps_limits text t own.1 own.0

pub returns-clause-plain : goal.returns-clause-plain
returns-clause-plain c = λ text t is.
    let own = subst (λ (v : Verdict). IsVerdict text v) is (verdict_is_true text) in
    ap is_plain_tree (sym own.1.means) ∙ text_plain own.1.text
