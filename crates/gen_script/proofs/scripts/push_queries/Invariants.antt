use Rattle.std.proofs.Common.{◌≡◌, ◌++◌, map}
use Rattle.std.specs.List.{range_with_len}
use Rattle.gen_script.specs.Scripts.{all_ended}
use Rattle.gen_script.specs.Statements.{query_of}
use Rattle.gen_script.proofs.scripts.push_queries.Given as goal

abbrev pub invariant-loop-number : goal.invariant-loop-number
invariant-loop-number l = l.out.items ≡ l.fn.out.items ++ all_ended (map query_of (range_with_len 0 l.number))
