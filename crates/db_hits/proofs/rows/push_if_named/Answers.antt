use Rattle.std.proofs.Common.{sym, ◌∙◌}
use Rattle.db_hits.proofs.NameLaws.{name_left_out, name_put}
use Rattle.db_hits.proofs.rows.push_if_named.Goals as goal

pub returns-then-is_named : goal.returns-then-is_named
returns-then-is_named c =
    name_put c.args.parts.now c.args.column.now c.args.names.now.items c.push_name.new.names.items c.push_name.result (sym c.is_named.ensures ∙ c.if-is_named.true) c.push_name.ensures

pub returns : goal.returns
returns c = name_left_out c.args.parts.now c.args.column.now c.args.names.now.items (sym c.is_named.ensures ∙ c.if-is_named.false)
