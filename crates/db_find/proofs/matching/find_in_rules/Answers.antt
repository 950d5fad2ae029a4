use Rattle.std.proofs.Common.{◌≡◌, Option, Some, None, true, sym, subst, ◌∙◌}
use Rattle.std.specs.Prelude.{IfSome}
use Rattle.ct_keep.specs.laws.Composing.{reads_hold}
use Rattle.tx_settings.specs.Attributes.{can_be_set}
use Rattle.tx_settings.specs.declared.preferences.Prefs.{Prefs}
use Rattle.rule_index.specs.RuleIndexes.{RuleIndex}
use Rattle.db_find.specs.laws.Looking.{rises_behind, rises_weaker}
use Rattle.db_state.specs.laws.Contexts.{holds_rule_index}
use Rattle.db_find.proofs.matching.find_in_rules.Goals as goal

-- the preferences that were read are those of the index
its_prefs : (x : RuleIndex) (found : Option Prefs) (p : Prefs) → found ≡ Some p → found ≡ Some x.prefs → x.prefs ≡ p
its_prefs x found p is its = let same : Some x.prefs ≡ Some p = sym its ∙ is in cc

pub found_rules-requires-clause-set : goal.found_rules-requires-clause-set
found_rules-requires-clause-set g c = subst (λ (o : Option Prefs). IfSome o (λ p. can_be_set p.lexer ≡ true)) c.in-Some.is c.in_ok-prefs.ensures.set

pub returns-in_default-clause-found : goal.returns-in_default-clause-found
returns-in_default-clause-found g c = λ m k x holds stands there.
    let its = c.in_ok-prefs.ensures.prefs k m.tables x holds (holds_rule_index k m stands c.args.index.now x there) in
    let wrong : None ≡ Some x.prefs = sym c.in_default.is ∙ its in cc

pub returns-clause-found : goal.returns-clause-found
returns-clause-found g c = λ m k x holds stands there.
    let its = c.in_ok-prefs.ensures.prefs k m.tables x holds (holds_rule_index k m stands c.args.index.now x there) in
    c.found_rules.ensures.found m k x (reads_hold _ _ k c.in_ok-prefs.ensures.reads holds) stands there (its_prefs x _ c.in-Some.prefs c.in-Some.is its)

-- ---- the rules that are read

pub returns-in_err-prefs-clause-rules : goal.returns-in_err-prefs-clause-rules
returns-in_err-prefs-clause-rules g c = λ m k x holds stands there. rises_weaker _ _ _ c.prefs_of.ensures.at_most

pub returns-in_default-clause-rules : goal.returns-in_default-clause-rules
returns-in_default-clause-rules g c = λ m k x holds stands there. rises_weaker _ _ _ c.in_ok-prefs.ensures.at_most

pub returns-clause-rules : goal.returns-clause-rules
returns-clause-rules g c = λ m k x holds stands there.
    let its = c.in_ok-prefs.ensures.prefs k m.tables x holds (holds_rule_index k m stands c.args.index.now x there) in
    rises_behind _ _ _ _ c.in_ok-prefs.ensures.at_most
    (c.found_rules.ensures.rules m k x (reads_hold _ _ k c.in_ok-prefs.ensures.reads holds) stands there (its_prefs x _ c.in-Some.prefs c.in-Some.is its))
