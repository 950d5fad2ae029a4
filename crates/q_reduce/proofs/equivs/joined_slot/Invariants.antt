use Rattle.std.proofs.Common.{◌≡◌, ◌++◌, length, true}
use Rattle.std.specs.List.{flat_map, list_all}
use Rattle.q_tree.specs.Limits.{word_keeps_limit}
use Rattle.q_reduce.specs.Faults.{word_faults}
use Rattle.q_reduce.specs.Reducing.{joined_keys, joined_patterns}
use Rattle.q_reduce.specs.Results.{context_of}
use Rattle.q_reduce.proofs.equivs.joined_slot.Given as goal

abbrev pub invariant-loop-rest : goal.invariant-loop-rest
invariant-loop-rest l =
    let x = context_of l.ctx in
    record {
      limits : list_all word_keeps_limit l.rest ≡ true;
      faults : flat_map (word_faults x) l.rest ≡ flat_map (word_faults x) l.words;
      keys : l.keys.items ++ flat_map (joined_keys x) l.rest ≡ flat_map (joined_keys x) l.words;
      patterns : l.patterns.items ++ flat_map (joined_patterns x) l.rest ≡ flat_map (joined_patterns x) l.words;
    }

abbrev pub decreases-loop-rest : goal.decreases-loop-rest
decreases-loop-rest l = length l.rest
