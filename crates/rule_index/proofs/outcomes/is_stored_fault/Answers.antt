use Rattle.std.specs.Str.{IsUtf8}
use Rattle.std.proofs.Common.{rules}
use Rattle.rule_index.proofs.OutcomeSteps.{by_length}
use Rattle.rule_index.proofs.outcomes.is_stored_fault.Goals as goal

pub returns : goal.returns
returns c =
    let utf8 : IsUtf8 c.args.text.now = search rules in
    by_length c.args.text.now utf8 _ (search rules)
