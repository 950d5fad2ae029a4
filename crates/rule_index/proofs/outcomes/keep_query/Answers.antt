use Rattle.std.proofs.Common.{Option, ℕ, Vec, subst, sym}
use Rattle.std.specs.Prelude.{IfOk}
use Rattle.std.specs.Option.{option_map}
use Rattle.std.specs.declared.alloc.Global.{Global}
use Rattle.std.proofs.lemmas.Result.{IfOk-weaker}
use Rattle.q_tree.specs.ReducedQueries.{reduced_of}
use Rattle.q_stored.specs.Storing.{Encodes}
use Rattle.rule_index.specs.Kept.{IsKept}
use Rattle.rule_index.specs.Outcomes.{Outcome}
use Rattle.rule_index.proofs.OutcomeSteps.{faulty_over, kept_query, query_over}
use Rattle.rule_index.proofs.outcomes.keep_query.Goals as goal

pub returns-in-Some-clause-kept : goal.returns-in-Some-clause-kept
returns-in-Some-clause-kept c =
    let q = option_map reduced_of c.args.query in
    let spells = subst (λ (o : Option (Vec ℕ Global)). Encodes q (option_map (λ (v : Vec ℕ Global). v.items) o)) c.in-Some.is c.in_ok-found.ensures.bytes in
    (kept_query q spells.rules, spells)

pub returns-in-None-clause-kept : goal.returns-in-None-clause-kept
returns-in-None-clause-kept c =
    let q = option_map reduced_of c.args.query in
    let over = subst (λ (o : Option (Vec ℕ Global)). Encodes q (option_map (λ (v : Vec ℕ Global). v.items) o)) c.in-None.is c.in_ok-found.ensures.bytes in
    subst (λ (o : Outcome). IfOk c.over_limits.result (λ k. IsKept k o)) (sym (query_over q over)) c.over_limits.ensures

pub returns-in-None-clause-limits : goal.returns-in-None-clause-limits
returns-in-None-clause-limits c =
    let q = option_map reduced_of c.args.query in
    let over = subst (λ (o : Option (Vec ℕ Global)). Encodes q (option_map (λ (v : Vec ℕ Global). v.items) o)) c.in-None.is c.in_ok-found.ensures.bytes in
    IfOk-weaker c.over_limits.result _ _ (λ k is. faulty_over k q over) c.over_limits.ensures
