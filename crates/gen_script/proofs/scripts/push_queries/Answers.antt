use Rattle.std.proofs.Common.{arith}
use Rattle.gen_script.specs.Statements.{query_of}
use Rattle.gen_script.specs.laws.Scripts.{put_more}
use Rattle.gen_script.proofs.scripts.push_queries.Goals as goal

pub loop-number-preserved : goal.loop-number-preserved
loop-number-preserved c =
    put_more query_of c.loop-number.out.items c.args.out.now.items c.push_query.new.out.items 0 c.loop-number.number c.loop-number.number (omega arith) c.loop-number.invariant c.in_ok-push_query.ensures
