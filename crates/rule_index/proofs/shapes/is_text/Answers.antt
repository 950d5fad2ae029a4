use Rattle.std.proofs.Common.{refl}
use Rattle.std.proofs.lemmas.Str.{is_utf8-from_IsUtf8, IsUtf8-from_is_utf8}
use Rattle.ct_entry.specs.declared.kinds.Kind.TheVariants as kind
use Rattle.rule_index.specs.Shapes.{RuleValueAt}
use Rattle.rule_index.proofs.ShapeSteps.{is_not}
use Rattle.rule_index.proofs.shapes.is_text.Goals as goal

pub returns-in-Ok : goal.returns-in-Ok
returns-in-Ok c = let h = c.in-Ok.ensures.cases in (λ is. is_utf8-from_IsUtf8 c.args.value.now h.1, λ text. refl)

pub returns-in-Err : goal.returns-in-Err
returns-in-Err c = is_not (RuleValueAt kind.RuleFaults c.args.value.now) (λ h. c.in-Err.ensures.cases.0 (IsUtf8-from_is_utf8 c.args.value.now h))
