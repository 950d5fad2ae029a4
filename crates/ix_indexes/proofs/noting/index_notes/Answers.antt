use Rattle.std.proofs.Common.{◌≡◌, sym, ap, subst, ◌∙◌, inl, inr}
use Rattle.std.specs.Prelude.{IfOk}
use Rattle.ct_keep.specs.Looks.{LooksAtMost}
use Rattle.ct_entry.specs.Keys.{at}
use Rattle.ct_entry.specs.Changes.{spell}
use Rattle.ct_entry.specs.laws.Shapes.{are_shaped_weaker}
use Rattle.ix_kinds.specs.Rows.{RowChange}
use Rattle.cat_index.specs.Shapes.{HasCatalogueValue}
use Rattle.rule_index.specs.Matching.{rule_looks}
use Rattle.ix_indexes.specs.declared.loading.Noting.{Noting}
use Rattle.ix_indexes.specs.declared.loading.Noting.TheVariants.{InCatalogue as HeldCatalogue}
use Rattle.ix_indexes.specs.Noting.{IsHeld, IsToldBy, needs_values, noted_by, noted_changes, rules_read}
use Rattle.ix_indexes.specs.Shapes.{HasIndexValue}
use Rattle.ix_indexes.proofs.NoteSteps.{context_drops, context_shaped, if_held, noted_drop, rules_drop, rules_shaped, rules_told}
use Rattle.ix_indexes.specs.laws.Dropping.{is_gone}
use Rattle.ix_indexes.proofs.noting.index_notes.Goals as goal

pub returns-in-InContext-clause-changes : goal.returns-in-InContext-clause-changes
returns-in-InContext-clause-changes g c = λ m holds.
    subst (λ (n : Noting). IfOk c.context_notes.result (λ notes. IsHeld m (c.args.index.now.name, noted_by n) → (ch : RowChange) → IsToldBy c.args.event (needs_values (noted_by n)) c.args.row.0 ch → notes ≡ spell (noted_changes (at m) ch c.args.index.now.name (noted_by n))))
    (sym c.in-InContext.is) (if_held _ (Unit {0}) c.context_notes.result (c.context_notes.ensures.changes m holds))

pub returns-in-InContext-clause-drops : goal.returns-in-InContext-clause-drops
returns-in-InContext-clause-drops g c = λ m holds.
    context_drops (at m) c.args.index.now.name c.context_notes.result c.args.event (needs_values (noted_by c.args.index.now.noting)) c.args.row.0 (c.context_notes.ensures.changes m holds)

pub returns-in-InContext-clause-shaped : goal.returns-in-InContext-clause-shaped
returns-in-InContext-clause-shaped g c = context_shaped c.context_notes.result c.context_notes.ensures.shaped

pub returns-in_ok-notes-in-InCatalogue-clause-changes : goal.returns-in_ok-notes-in-InCatalogue-clause-changes
returns-in_ok-notes-in-InCatalogue-clause-changes g c = λ m holds held ch told.
    c.in_ok-notes-in-InCatalogue.ensures.changes ch (subst (λ (n : Noting). IsToldBy c.args.event (needs_values (noted_by n)) c.args.row.0 ch) c.in-InCatalogue.is told)
    ∙ ap (λ (n : Noting). spell (noted_changes (at m) ch c.args.index.now.name (noted_by n))) (ap (HeldCatalogue c.in-InCatalogue.catalogue) c.as_slice-places.ensures ∙ sym c.in-InCatalogue.is)

pub returns-in_ok-notes-in-InCatalogue-clause-drops : goal.returns-in_ok-notes-in-InCatalogue-clause-drops
returns-in_ok-notes-in-InCatalogue-clause-drops g c = λ m holds going ch told.
    noted_drop (at m) ch c.args.index.now.name (noted_by (HeldCatalogue c.in-InCatalogue.catalogue c.as_slice-places.result.now)) c.in_ok-notes-in-InCatalogue.notes (is_gone c.args.event _ c.args.row.0 ch going told)
    (c.in_ok-notes-in-InCatalogue.ensures.changes ch (subst (λ (n : Noting). IsToldBy c.args.event (needs_values (noted_by n)) c.args.row.0 ch) c.in-InCatalogue.is told))

pub returns-in_ok-notes-in-InCatalogue-clause-shaped : goal.returns-in_ok-notes-in-InCatalogue-clause-shaped
returns-in_ok-notes-in-InCatalogue-clause-shaped g c = are_shaped_weaker HasCatalogueValue HasIndexValue (λ k v has. inr (inl has)) c.in_ok-notes-in-InCatalogue.notes c.in_ok-notes-in-InCatalogue.ensures.shaped

pub returns-in-InRules-clause-changes : goal.returns-in-InRules-clause-changes
returns-in-InRules-clause-changes g c = λ m holds.
    subst (λ (n : Noting). IfOk c.rule_notes.result (λ notes. IsHeld m (c.args.index.now.name, noted_by n) → (ch : RowChange) → IsToldBy c.args.event (needs_values (noted_by n)) c.args.row.0 ch → notes ≡ spell (noted_changes (at m) ch c.args.index.now.name (noted_by n))))
    (sym c.in-InRules.is) (rules_told m c.args.index.now.name 0 c.args.event c.args.row.0 c.rule_notes.result (λ ts x is. c.rule_notes.ensures.changes m ts x holds is))

pub returns-in-InRules-clause-shaped : goal.returns-in-InRules-clause-shaped
returns-in-InRules-clause-shaped g c = rules_shaped c.rule_notes.result c.rule_notes.ensures.shaped

pub returns-in-InRules-clause-drops : goal.returns-in-InRules-clause-drops
returns-in-InRules-clause-drops g c = λ m holds. rules_drop c.rule_notes.result c.args.event (IsToldBy c.args.event (needs_values (noted_by c.args.index.now.noting)) c.args.row.0) c.rule_notes.ensures.removes

pub returns-in-InContext-clause-at_most : goal.returns-in-InContext-clause-at_most
returns-in-InContext-clause-at_most g c =
    subst (λ (n : Noting). LooksAtMost g.K.Keeper.view c.args.keeper.now c.context_notes.new.keeper (rule_looks (rules_read (noted_by n)))) (sym c.in-InContext.is) c.context_notes.ensures.at_most

pub returns-in-InRules-clause-at_most : goal.returns-in-InRules-clause-at_most
returns-in-InRules-clause-at_most g c =
    subst (λ (n : Noting). LooksAtMost g.K.Keeper.view c.args.keeper.now c.rule_notes.new.keeper (rule_looks (rules_read (noted_by n)))) (sym c.in-InRules.is) c.rule_notes.ensures.at_most
