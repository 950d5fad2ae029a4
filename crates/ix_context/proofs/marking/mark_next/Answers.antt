use Rattle.std.proofs.Common.{◌≡◌, ◌++◌, ◌<◌, ◌^◌, arith, rules}
use Rattle.ct_base.specs.laws.Results.{on_ok}
use Rattle.ct_entry.specs.Changes.{spell}
use Rattle.ct_entry.specs.Keys.{IsRow}
use Rattle.ix_docmap.specs.Changes.{mark_changes}
use Rattle.ix_context.specs.laws.Shapes.{shaped_added, shaped_mark}
use Rattle.ix_context.proofs.marking.mark_next.Goals as goal

pub returns-clause-shaped : goal.returns-clause-shaped
returns-clause-shaped c =
    let document : c.args.document < 2 ^ 32 = omega arith in
    let row : IsRow c.args.row.0 = search rules in
    let changes = spell (mark_changes c.args.index.now c.args.document c.args.row.0) in
    on_ok c.mark.result (c.mark.new.batch ≡ c.args.changes.now ++ changes) _
    (λ added. shaped_added c.args.changes.now c.mark.new.batch changes added (shaped_mark c.args.index.now c.args.document c.args.row.0 c.as_str-named.ensures.name document row))
    c.mark.ensures.ok
