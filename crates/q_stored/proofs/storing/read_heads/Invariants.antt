use Rattle.std.proofs.Common.{◌≤◌, ◌-◌, length}
use Rattle.tx_settings.specs.laws.Standing.{AreRead}
use Rattle.q_stored.specs.QueryBytes.{head_spelling, is_written_head}
use Rattle.q_stored.specs.Storing.{node_limit}
use Rattle.q_stored.proofs.storing.read_heads.Given as goal

abbrev pub invariant-heads : goal.invariant-heads
invariant-heads l = record {
  read : AreRead is_written_head head_spelling l.bytes 0 l.place l.heads.items;
  few : length l.heads.items ≤ node_limit;
}

abbrev pub decreases-heads : goal.decreases-heads
decreases-heads l = node_limit - length l.heads.items
