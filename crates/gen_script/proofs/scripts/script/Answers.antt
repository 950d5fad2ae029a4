use Rattle.std.proofs.Common.{rules, ◌≡◌, ◌++◌, ap, map, ◌∙◌}
use Rattle.std.specs.List.{range_with_len}
use Rattle.gen_script.specs.Scripts.{all_ended, ended}
use Rattle.gen_script.specs.Statements.{insert_of, optimize, queries, setup, sync}
use Rattle.gen_script.specs.laws.Scripts.{parts_put, script_parts}
use Rattle.gen_script.proofs.scripts.script.Goals as goal

pub returns : goal.returns
returns c =
    let begin : c.push_setup.new.out.items ≡ all_ended setup = c.in_ok-push_setup.ensures ∙ ap (λ x. x ++ all_ended setup) c.new-out.ensures.items in
    let rows : c.push_inserts.new.out.items ≡ c.push_setup.new.out.items ++ all_ended (map insert_of (range_with_len 1 c.args.n)) = search rules in
    parts_put (all_ended setup) (all_ended (map insert_of (range_with_len 1 c.args.n))) (ended sync) (all_ended queries) (ended optimize) _ _ _ _ _ _
    begin rows c.in_ok-push_statement.ensures c.in_ok-push_queries.ensures c.in_ok-push_statement-2.ensures c.in_ok-push_queries-2.ensures
    ∙ script_parts c.args.n
