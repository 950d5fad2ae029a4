use Rattle.std.proofs.Common.{sym, ◌∙◌}
use Rattle.ct_base.specs.laws.Names.{kept_some}
use Rattle.ix_context.proofs.ShapeSteps.{no_section}
use Rattle.ix_context.proofs.shapes.span_document.Goals as goal

pub returns-in_default-2 : goal.returns-in_default-2
returns-in_default-2 c =
    no_section c.args.part.now c.in-Some.section.now c.in-Some.document c.in-Some.ensures.document c.in-Some.ensures.some (sym c.in_ok-_name.ensures ∙ c.in_default-2.is)

pub returns : goal.returns
returns c =
    let name = kept_some c.in-Some.section.now c.in-Some-2._name (sym c.in_ok-_name.ensures ∙ c.in-Some-2.is) in
    record { section = c.in-Some.section.now; named = name.1; spelt = c.in-Some.ensures.some }
