use Rattle.std.proofs.Common.{◌≡◌, Some, false, subst}
use Rattle.std.specs.Prelude.{IfOk}
use Rattle.q_tree.specs.Trees.{tree_of}
use Rattle.q_reduce.specs.declared.faults.ReduceFault.{ReduceFault}
use Rattle.q_reduce.specs.Faults.{ManyTerms, ManyTokens, faults}
use Rattle.q_reduce.specs.Results.{IsFirst, first_fault, named_pairs}
use Rattle.rule_index.specs.Kept.{IsKept}
use Rattle.rule_index.specs.Outcomes.{Outcome, context}
use Rattle.rule_index.proofs.OutcomeSteps.{first_counts}
use Rattle.rule_index.proofs.outcomes.outcome_of_query.Goals as goal

pub returns-in-Err-ManyTerms : goal.returns-in-Err-ManyTerms
returns-in-Err-ManyTerms c =
    let x = context (named_pairs c.args.thesauri.now) c.args.prefs.now in
    let t = tree_of c.args.query.now in
    let first : first_fault (faults x false t) ≡ Some ManyTerms = subst (λ (f : ReduceFault). IsFirst f (faults x false t)) c.in-Err-ManyTerms.field-0-is c.in-Err-ManyTerms.ensures.reduced in
    subst (λ (o : Outcome). IfOk c.faulty.result (λ k. IsKept k o)) (first_counts x t ManyTerms first) c.faulty.ensures

pub returns-in-Err-ManyTokens : goal.returns-in-Err-ManyTokens
returns-in-Err-ManyTokens c =
    let x = context (named_pairs c.args.thesauri.now) c.args.prefs.now in
    let t = tree_of c.args.query.now in
    let many = ManyTokens c.in-Err-ManyTokens.place in
    let first : first_fault (faults x false t) ≡ Some many = subst (λ (f : ReduceFault). IsFirst f (faults x false t)) c.in-Err-ManyTokens.field-0-is c.in-Err-ManyTokens.ensures.reduced in
    subst (λ (o : Outcome). IfOk c.faulty_at.result (λ k. IsKept k o)) (first_counts x t many first) c.faulty_at.ensures
