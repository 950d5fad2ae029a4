use Rattle.std.proofs.Common.{◌≡◌, ◌++◌, ◌≤◌, length}
use Rattle.std.specs.Str.{chars, chars_after}
use Rattle.q_match.proofs.Decoding.{character_limit}
use Rattle.q_match.proofs.characters.characters.Given as goal

abbrev pub invariant-loop-rest : goal.invariant-loop-rest
invariant-loop-rest l = record {
  so_far : l.out.items ++ chars_after l.left l.value l.rest ≡ chars l.bytes;
  fits : l.value ≤ character_limit l.left;
  three : l.left ≤ 3;
}

abbrev pub decreases-loop-rest : goal.decreases-loop-rest
decreases-loop-rest l = length l.rest
