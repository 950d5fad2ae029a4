-- What is kept of rules.
use Rattle.rule_index.specs.declared.outcomes.Kept.{Kept}
use Rattle.rule_index.specs.declared.outcomes.Kept.TheVariants.{Taken as KeptQuery, Faulty as KeptFault}
use Rattle.rule_index.specs.Kept.{IsKept, KeepsRules}
use Rattle.rule_index.specs.Outcomes.{Outcome}

-- what is kept of a rule may be stored
pub keeps_rules : (k : Kept) (o : Outcome) → IsKept k o → KeepsRules k
keeps_rules (KeptQuery query bytes) o is = is.1
keeps_rules (KeptFault text) o is = is.1
