use Rattle.std.proofs.Common.{rules}
use Rattle.std.proofs.lemmas.Result.{on_ok_weaker}
use Rattle.ct_entry.specs.Changes.{spell}
use Rattle.ct_entry.specs.Keys.{IsRow}
use Rattle.cat_index.specs.Changes.{set_changes}
use Rattle.cat_index.specs.laws.Shapes.{set_shaped, shaped_added}
use Rattle.cat_index.proofs.rows.row_is_set.Goals as goal

pub returns-clause-shaped : goal.returns-clause-shaped
returns-clause-shaped c =
    let row : IsRow c.args.row.0 = search rules in
    on_ok_weaker c.set_row.result
    (λ added. shaped_added c.args.batch.now c.set_row.new.batch (spell (set_changes c.args.index.now c.args.row.0 c.args.old.now c.args.new.now)) added
    (set_shaped c.args.index.now c.args.row.0 c.args.old.now c.args.new.now c.as_str-named.ensures.name row c.requires.old c.requires.new))
    c.set_row.ensures.ok
