use Rattle.std.proofs.Common.{ℕ, List, [], ◌∷◌, ◌++◌, ap, ◌∙◌}
use Rattle.ct_base.specs.laws.Results.{on_ok}
use Rattle.ix_context.specs.Gathering.{IndexRowsView, with_entry}
use Rattle.ix_context.specs.GatheringPortions.{entry_in}
use Rattle.ix_context.proofs.RunSteps.{entry_waits}
use Rattle.ix_context.proofs.gathering.IndexRows.put_posting.Goals as goal

pub returns : goal.returns
returns c =
    let entry = entry_in c.args.posting in
    let turned = c.in_ok-turn_to.ensures in
    on_ok c.push.result _ _ (λ more.
    entry_waits c.turn_to.new.self c.turn_to.new.run.is_section c.turn_to.new.run.term.items c.turn_to.new.run.documents c.push.new.self c.args.posting.doc.0 c.spell_entry.new.spelling.places.items entry
    turned.kind (turned.term ∙ c.deref.ensures.value ∙ c.in_ok-spell_entry.ensures.term) c.in_ok-spell_entry.ensures.places
    (more ∙ ap (λ (l : List ℕ). c.turn_to.new.run.documents ++ (c.args.posting.doc.0, l) ∷ []) c.deref-2.ensures.value)
    ∙ ap (λ (g : IndexRowsView). with_entry g c.args.posting.doc.0 entry) turned.gathers)
    c.push.ensures
