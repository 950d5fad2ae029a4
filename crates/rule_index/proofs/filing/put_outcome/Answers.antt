use Rattle.std.proofs.Common.{rules}
use Rattle.ct_entry.specs.Keys.{IsRow}
use Rattle.rule_index.specs.laws.KeptShapes.{kept_shaped}
use Rattle.rule_index.proofs.filing.put_outcome.Goals as goal

pub returns-clause-shaped : goal.returns-clause-shaped
returns-clause-shaped c =
    let row : IsRow c.args.row.0 = search rules in
    kept_shaped c.args.index.now c.args.row.0 c.args.kept c.as_str-named.ensures.name row c.requires c.put_kept.result c.args.changes.now c.put_kept.new.changes c.put_kept.ensures
