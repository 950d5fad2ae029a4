use Rattle.std.proofs.Common.{◌↔◌, Bool, Some, sym, subst}
use Rattle.std.specs.Prelude.{IsTrue}
use Rattle.ct_entry.specs.declared.kinds.Kind.TheVariants as kind
use Rattle.rule_index.specs.Readings.{IsEntryOf}
use Rattle.rule_index.specs.Shapes.{IsRuleShape}
use Rattle.rule_index.proofs.ShapeSteps.{is_entry, no_entry}
use Rattle.rule_index.proofs.shapes.is_rules_entry.Goals as goal

pub returns-in_default : goal.returns-in_default
returns-in_default c = no_entry c.args.part.now c.args.value.now (subst (IsEntryOf (Some c.args.value.now)) c.in_default.is c.in_ok-_entry.ensures.entry)

pub returns : goal.returns
returns c =
    subst (λ (b : Bool). IsTrue b ↔ IsRuleShape kind.Indexes c.args.part.now c.args.value.now) (sym c.is_empty.ensures)
    (is_entry c.args.part.now c.args.value.now c.in-Some._entry (subst (IsEntryOf (Some c.args.value.now)) c.in-Some.is c.in_ok-_entry.ensures.entry))
