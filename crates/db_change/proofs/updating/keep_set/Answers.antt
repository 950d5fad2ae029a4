use Rattle.std.proofs.Common.{rules}
use Rattle.std.proofs.lemmas.Fn.{filter_same}
use Rattle.db_change.specs.Updating.{places_set}
use Rattle.db_change.proofs.NoteSteps.{looks, set_kept, set_tell}
use Rattle.db_change.proofs.updating.keep_set.Goals as goal

pub returns-clause-kept : goal.returns-clause-kept
returns-clause-kept c =
    let places = places_set c.args.columns.now c.args.assigns.now in
    set_kept places _ _ (filter_same _ (looks places) _ (λ h b f k. search rules) _ _ c.retain.ensures.filtered)

pub returns-clause-can_tell : goal.returns-clause-can_tell
returns-clause-can_tell c =
    let places = places_set c.args.columns.now c.args.assigns.now in
    set_tell places _ _ (filter_same _ (looks places) _ (λ h b f k. search rules) _ _ c.retain.ensures.filtered)
