use Rattle.std.proofs.Common.{◌≡◌, ◌+◌, ℕ, Bool, List, length}
use denote.Text.{Utf8}
use denote.Shadow.{shadow}
use Rattle.std.specs.Str.{chars}
use Rattle.q_tree.specs.Slots.{begins}
use Rattle.q_match.specs.Places.{at_some}
use Rattle.q_match.proofs.taking.after_text.Given as goal

abbrev pub invariant-loop-c : goal.invariant-loop-c
invariant-loop-c l = record {
  is_text : shadow (Utf8 l.rest);
  so_far : (has : List ℕ → Bool) → at_some (begins has (chars l.rest)) l.at.items l.key ≡ at_some (begins has (chars l.text)) l.marks l.key;
  as_long : length l.at.items ≡ length l.key + 1;
}

abbrev pub decreases-loop-c : goal.decreases-loop-c
decreases-loop-c l = length l.rest
