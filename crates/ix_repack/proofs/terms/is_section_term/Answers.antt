use Rattle.std.proofs.Common.{◌↔◌, Bool, IsTrue, sym, subst}
use Rattle.ix_rows.specs.SpanRows.{IsSpanTerm}
use Rattle.ix_repack.proofs.TermSteps.{section_test}
use Rattle.ix_repack.proofs.terms.is_section_term.Goals as goal

pub returns : goal.returns
returns c =
    subst (λ (b : Bool). IsTrue b ↔ IsSpanTerm c.args.term.now) (sym c.is_some.ensures) (section_test c.args.term.now c.in-Some.section.now c.in_ok-name.name c.in-Some.ensures.some c.in_ok-name.ensures)
