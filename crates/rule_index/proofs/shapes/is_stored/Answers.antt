use Rattle.std.proofs.Common.{Err, ap, refl}
use Rattle.std.specs.Option.{option_map}
use Rattle.ct_entry.specs.declared.kinds.Kind.TheVariants as kind
use Rattle.q_tree.specs.ReducedQueries.{reduced_of}
use Rattle.rule_index.specs.Shapes.{RuleValueAt}
use Rattle.rule_index.proofs.ShapeSteps.{is_not}
use Rattle.rule_index.proofs.shapes.is_stored.Goals as goal

pub returns-in-Ok : goal.returns-in-Ok
returns-in-Ok c = (λ is. (option_map reduced_of c.in-Ok._query, c.in-Ok.ensures.query), λ has. refl)

pub returns-in-Err-BadQuery : goal.returns-in-Err-BadQuery
returns-in-Err-BadQuery c =
    is_not (RuleValueAt kind.Rules c.args.value.now)
    (λ has. c.in-Err-BadQuery.ensures.bad (ap Err c.in-Err-BadQuery.field-0-is) has.0 has.1)
