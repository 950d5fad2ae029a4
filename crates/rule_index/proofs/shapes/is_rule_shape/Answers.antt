use Rattle.std.proofs.Common.{◌↔◌, sym, subst}
use Rattle.std.specs.Prelude.{IfOk, IsTrue}
use Rattle.ct_entry.specs.declared.kinds.Kind.{Kind}
use Rattle.rule_index.specs.Shapes.{IsRuleShape}
use Rattle.rule_index.proofs.shapes.is_rule_shape.Goals as goal

pub returns-in-Indexes : goal.returns-in-Indexes
returns-in-Indexes c = subst (λ (k : Kind). IfOk c.is_rules_entry.result (λ is. IsTrue is ↔ IsRuleShape k c.args.part.now c.args.value.now)) (sym c.in-Indexes.is) c.is_rules_entry.ensures

pub returns-in-Rules : goal.returns-in-Rules
returns-in-Rules c = subst (λ (k : Kind). IfOk c.is_rule.result (λ is. IsTrue is ↔ IsRuleShape k c.args.part.now c.args.value.now)) (sym c.in-Rules.is) c.is_rule.ensures
