use Rattle.std.proofs.Common.{◌≡◌, ◌≤◌, ◌+◌, length}
use Rattle.tx_tags.specs.Groups.{field_count}
use Rattle.q_reduce.specs.Reducing.{find_section}
use Rattle.q_reduce.proofs.sections.find_section.Given as goal

abbrev pub invariant-loop-rest : goal.invariant-loop-rest
invariant-loop-rest l = record {
  few : l.stream + field_count l.rest ≤ 65;
  same : find_section l.stream l.rest l.name ≡ find_section 1 l.sections l.name;
}

abbrev pub decreases-loop-rest : goal.decreases-loop-rest
decreases-loop-rest l = length l.rest
