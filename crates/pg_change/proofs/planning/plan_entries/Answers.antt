use Rattle.std.specs.Prelude.{map}
use Rattle.std.proofs.Common.{ℕ, List, subst}
use Rattle.std.specs.List.{Contains}
use Rattle.ct_keep.specs.Content.{after}
use Rattle.ct_keep.specs.SeenChanges.{change_of}
use Rattle.pg_leaves.specs.Editing.{edits_of}
use Rattle.pg_change.specs.KeyEdits.{AreEditsOf}
use Rattle.pg_change.proofs.planning.plan_entries.Goals as goal

pub key_edits-requires-clause-within : goal.key_edits-requires-clause-within
key_edits-requires-clause-within g c = λ n has. c.in-Ok-touched_numbers.ensures.within n (subst (λ (l : List ℕ). Contains l n) c.deref.ensures.value has)

pub returns-in-Ok-key_edits-clause-plans : goal.returns-in-Ok-key_edits-clause-plans
returns-in-Ok-key_edits-clause-plans g c = λ top pages m holds done stand.
    let makes = c.in-Ok.ensures.done m done stand in
    record {
      makes = makes;
      numbers = c.in-Ok-touched_numbers.numbers.items;
      touched = c.in-Ok-touched_numbers.ensures;
      are = subst (λ (l : List ℕ). AreEditsOf pages c.do_changes.new.draft.now l (map change_of c.args.changes.now) (edits_of c.in-Ok-key_edits.edits.items)) c.deref.ensures.value (c.in-Ok-key_edits.ensures.edits top pages (after (map change_of c.args.changes.now) m) holds makes.done);
    }

pub returns-in-Ok-key_edits-clause-makes : goal.returns-in-Ok-key_edits-clause-makes
returns-in-Ok-key_edits-clause-makes g c = c.in-Ok.ensures.done
