use Rattle.std.proofs.Common.{◌↔◌, Bool, Some, sym, subst}
use Rattle.std.specs.Prelude.{IsTrue}
use Rattle.ct_entry.specs.declared.kinds.Kind.TheVariants as kind
use Rattle.ix_context.specs.Spelling.{SpellsIndex}
use Rattle.ix_context.specs.Shapes.{IsContextShape}
use Rattle.ix_context.proofs.ShapeSteps.{is_entry, no_entry, is_not}
use Rattle.ix_context.proofs.shapes.is_index_entry.Goals as goal

pub returns-in_default : goal.returns-in_default
returns-in_default c =
    is_not (IsContextShape kind.Indexes c.args.part.now c.args.value.now)
    (no_entry c.args.part.now c.args.value.now (subst (SpellsIndex (Some c.args.value.now)) c.in_default.is c.in_ok-_entry.ensures.spells))

pub returns : goal.returns
returns c =
    subst (λ (b : Bool). IsTrue b ↔ IsContextShape kind.Indexes c.args.part.now c.args.value.now) (sym c.is_empty.ensures)
    (is_entry c.args.part.now c.args.value.now c.in-Some._entry (subst (SpellsIndex (Some c.args.value.now)) c.in-Some.is c.in_ok-_entry.ensures.spells))
