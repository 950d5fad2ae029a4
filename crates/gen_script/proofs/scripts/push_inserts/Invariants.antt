use Rattle.std.proofs.Common.{◌≡◌, ◌++◌, map}
use Rattle.std.specs.List.{range_with_len}
use Rattle.gen_script.specs.Scripts.{all_ended}
use Rattle.gen_script.specs.Statements.{insert_of}
use Rattle.gen_script.proofs.scripts.push_inserts.Given as goal

abbrev pub invariant-loop-done : goal.invariant-loop-done
invariant-loop-done l = l.out.items ≡ l.fn.out.items ++ all_ended (map insert_of (range_with_len 1 l.done))
