use Rattle.std.proofs.Common.{◌↔◌, sym, subst}
use Rattle.std.specs.Prelude.{IfOk, IsTrue}
use Rattle.ct_entry.specs.declared.kinds.Kind.{Kind}
use Rattle.ix_context.specs.Shapes.{IsContextShape}
use Rattle.ix_context.proofs.shapes.is_context_shape.Goals as goal

pub returns-in-Postings : goal.returns-in-Postings
returns-in-Postings c = subst (λ (k : Kind). IfOk c.is_posting_entry.result (λ is. IsTrue is ↔ IsContextShape k c.args.part.now c.args.value.now)) (sym c.in-Postings.is) c.is_posting_entry.ensures

pub returns-in-Spans : goal.returns-in-Spans
returns-in-Spans c = subst (λ (k : Kind). IfOk c.is_span_entry.result (λ is. IsTrue is ↔ IsContextShape k c.args.part.now c.args.value.now)) (sym c.in-Spans.is) c.is_span_entry.ensures
