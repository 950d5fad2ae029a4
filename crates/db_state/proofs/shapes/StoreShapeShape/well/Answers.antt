use Rattle.std.proofs.Common.{refl, sym, ◌∙◌}
use Rattle.std.proofs.lemmas.Bool.{false≢true}
use Rattle.ct_entry.specs.Keys.{key}
use Rattle.db_state.proofs.EntryShapes.{of_table, of_index, of_preference, of_thesaurus, thesaurus_alone, spelt_by}
use Rattle.db_state.proofs.shapes.StoreShapeShape.well.Goals as goal

pub returns-then-branch : goal.returns-then-branch
returns-then-branch c =
    let parts = spelt_by (λ p. key p.0 p.1.now p.2.now) c.in_ok-kind.field-0 (c.in-Some.kind, c.in-Some._owner, c.in-Some.part) c.args.key.now c.in_ok-kind.ensures c.in-Some.is in
    (λ yes_is. of_table c.args.key.now c.args.value.now c.in-Some._owner.now c.in-Some.part.now c.in-Some.kind parts (c.in_ok-is_table_shape.ensures.0 c.if-branch.true), λ entry. refl)

pub returns-then-branch-2 : goal.returns-then-branch-2
returns-then-branch-2 c =
    let parts = spelt_by (λ p. key p.0 p.1.now p.2.now) c.in_ok-kind.field-0 (c.in-Some.kind, c.in-Some._owner, c.in-Some.part) c.args.key.now c.in_ok-kind.ensures c.in-Some.is in
    (λ yes_is. of_index c.args.key.now c.args.value.now c.in-Some._owner.now c.in-Some.part.now c.in-Some.kind parts (c.in_ok-is_index_shape.ensures.0 c.if-branch-2.true), λ entry. refl)

pub returns-then-branch-3 : goal.returns-then-branch-3
returns-then-branch-3 c =
    let parts = spelt_by (λ p. key p.0 p.1.now p.2.now) c.in_ok-kind.field-0 (c.in-Some.kind, c.in-Some._owner, c.in-Some.part) c.args.key.now c.in_ok-kind.ensures c.in-Some.is in
    (λ yes_is. of_preference c.args.key.now c.args.value.now c.in-Some._owner.now c.in-Some.part.now c.in-Some.kind parts (c.in_ok-is_pref_shape.ensures.0 c.if-branch-3.true), λ entry. refl)

pub returns : goal.returns
returns c =
    let parts = spelt_by (λ p. key p.0 p.1.now p.2.now) c.in_ok-kind.field-0 (c.in-Some.kind, c.in-Some._owner, c.in-Some.part) c.args.key.now c.in_ok-kind.ensures c.in-Some.is in (
      λ holds. of_thesaurus c.args.key.now c.args.value.now c.in-Some._owner.now c.in-Some.part.now c.in-Some.kind parts (c.is_thesaurus_shape.ensures.0 holds),
      λ entry. c.is_thesaurus_shape.ensures.1 (thesaurus_alone c.args.key.now c.args.value.now c.in-Some._owner.now c.in-Some.part.now c.in-Some.kind parts
          (λ shape. false≢true (sym c.if-branch.false ∙ c.in_ok-is_table_shape.ensures.1 shape))
          (λ shape. false≢true (sym c.if-branch-2.false ∙ c.in_ok-is_index_shape.ensures.1 shape))
          (λ shape. false≢true (sym c.if-branch-3.false ∙ c.in_ok-is_pref_shape.ensures.1 shape)) entry),
    )
