use Rattle.std.proofs.Common.{◌<◌, Option, List, ℕ, subst, rules}
use Rattle.ct_entry.specs.Keys.{IsRow}
use Rattle.q_reduce.specs.Results.{named_pairs}
use Rattle.rule_index.specs.Kept.{IsKept}
use Rattle.rule_index.specs.Outcomes.{outcome_seen}
use Rattle.rule_index.specs.Sees.{outcome_in}
use Rattle.rule_index.specs.laws.Keeping.{keeps_rules}
use Rattle.rule_index.specs.laws.Reading.{rule_text_read}
use Rattle.rule_index.proofs.syncing.put_row.Goals as goal

pub put_outcome-requires : goal.put_outcome-requires
put_outcome-requires g c = keeps_rules _ _ c.in_ok-kept.ensures

pub returns-clause-changes : goal.returns-clause-changes
returns-clause-changes g c = λ m ts holds told.
    let few : c.args.target.now.column < 256 = search rules in
    let row : IsRow c.args.row.0 = search rules in
    let read = rule_text_read m ts told c.args.target.now c.args.row.0 few row c.in_ok-text.text (c.in_ok-text.ensures.value m holds) in
    c.in_ok-put_outcome.ensures.changes (outcome_in (named_pairs c.args.thesauri.now) ts c.args.target.now c.args.prefs.now c.args.row.0)
    (subst (λ (t : Option (List ℕ)). IsKept c.in_ok-kept.kept (outcome_seen (named_pairs c.args.thesauri.now) c.args.prefs.now t)) read c.in_ok-kept.ensures)
