use Rattle.std.proofs.Common.{◌≡◌, length, map, bytes_eq}
use Rattle.std.specs.Char.{to_ascii_lowercase}
use Rattle.q_lex.proofs.words.is_lowered.Given as goal

abbrev pub invariant-loop-rest : goal.invariant-loop-rest
invariant-loop-rest l = bytes_eq (map to_ascii_lowercase l.rest) l.letters ≡ bytes_eq (map to_ascii_lowercase l.bytes) l.word

abbrev pub decreases-loop-rest : goal.decreases-loop-rest
decreases-loop-rest l = length l.rest
