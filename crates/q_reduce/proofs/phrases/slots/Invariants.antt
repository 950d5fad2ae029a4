use Rattle.std.proofs.Common.{◌≡◌, ◌++◌, length, true}
use Rattle.std.specs.List.{flat_map, list_all}
use Rattle.q_tree.specs.Limits.{word_keeps_limit}
use Rattle.q_reduce.specs.Faults.{place_faults}
use Rattle.q_reduce.specs.Reducing.{place_slots}
use Rattle.q_reduce.specs.Results.{context_of}
use Rattle.q_reduce.proofs.phrases.slots.Given as goal

abbrev pub invariant-loop-rest : goal.invariant-loop-rest
invariant-loop-rest l =
    let x = context_of l.ctx in
    record {
      limits : list_all (λ place. list_all word_keeps_limit place) l.rest ≡ true;
      faults : flat_map (place_faults x) l.rest ≡ flat_map (place_faults x) l.places;
      slots : l.slots.items ++ flat_map (place_slots x) l.rest ≡ flat_map (place_slots x) l.places;
    }

abbrev pub decreases-loop-rest : goal.decreases-loop-rest
decreases-loop-rest l = length l.rest
