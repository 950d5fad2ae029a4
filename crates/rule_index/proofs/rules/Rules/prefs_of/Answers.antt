use Rattle.std.proofs.Common.{◌≡◌, Some, ap, sym, ◌∙◌}
use Rattle.std.proofs.lemmas.Option.{same_Some}
use Rattle.rule_index.specs.declared.entries.RulesEntry.{RulesEntry}
use Rattle.rule_index.specs.laws.Reading.{entry_of, entry_read}
use Rattle.rule_index.proofs.SyncSteps.{none_not}
use Rattle.rule_index.proofs.rules.Rules.prefs_of.Goals as goal

pub returns-in-Some-clause-prefs : goal.returns-in-Some-clause-prefs
returns-in-Some-clause-prefs g c = λ m ts x holds told.
    let same : c.in-Some.entry ≡ entry_of x = same_Some _ _ (sym c.in-Some.is ∙ entry_read m ts c.args.index.now x told _ (c.in_ok-entry.ensures.entry m holds)) in
    ap (λ (e : RulesEntry). Some e.prefs) same

pub returns-in-None-clause-prefs : goal.returns-in-None-clause-prefs
returns-in-None-clause-prefs g c = λ m ts x holds told. absurd (none_not _ _ c.in-None.is (entry_read m ts c.args.index.now x told _ (c.in_ok-entry.ensures.entry m holds)))
