use Rattle.std.proofs.Common.{rules, true}
use Rattle.std.proofs.lemmas.Result.{on_ok_weaker}
use Rattle.ct_entry.specs.Changes.{spell}
use Rattle.ct_entry.specs.Keys.{IsRow}
use Rattle.cat_index.specs.Changes.{filing_changes}
use Rattle.cat_index.specs.laws.Shapes.{filing_shaped, shaped_added}
use Rattle.cat_index.proofs.rows.row_comes.Goals as goal

pub returns-clause-shaped : goal.returns-clause-shaped
returns-clause-shaped c =
    let row : IsRow c.args.row.0 = search rules in
    on_ok_weaker c.change_row.result
    (λ added. shaped_added c.args.batch.now c.change_row.new.batch (spell (filing_changes c.args.index.now c.args.row.0 c.args.filing.now true)) added (filing_shaped c.args.index.now c.args.row.0 c.args.filing.now true c.as_str-named.ensures.name row c.requires))
    c.change_row.ensures.ok
