use Rattle.std.proofs.Common.{arith}
use Rattle.gen_script.specs.Statements.{insert_of}
use Rattle.gen_script.specs.laws.Scripts.{put_more}
use Rattle.gen_script.proofs.scripts.push_inserts.Goals as goal

pub loop-done-preserved : goal.loop-done-preserved
loop-done-preserved c =
    put_more insert_of c.loop-done.out.items c.args.out.now.items c.push_insert.new.out.items 1 c.loop-done.done _ (omega arith) c.loop-done.invariant c.in_ok-push_insert.ensures
