use Rattle.std.proofs.Common.{length, List, ap, ◌∙◌, arith}
use Rattle.std.proofs.lemmas.Result.{IfOk-weaker}
use Rattle.tx_tags.specs.declared.pairing.Span.{Span}
use Rattle.tx_document.specs.TagSpans.{extents_by}
use Rattle.tx_document.proofs.TagExtents.{extents_are}
use Rattle.tx_document.proofs.extents.extents.Goals as goal

pub extents_by-requires : goal.extents_by-requires
extents_by-requires c =
    let same = ap length c.deref.ensures.value ∙ c.in_ok-all.ensures.count in
    omega (arith, same, c.tag_count.ensures)

pub returns : goal.returns
returns c =
    let count = c.tag_count.ensures in
    let law = extents_are c.args.tags.now c.args.end c.in_ok-all.all.items c.tag_count.result c.in_ok-all.ensures.spans 0 c.args.sections.now (omega (arith, count)) in
    IfOk-weaker c.extents_by.result _ _ (λ v e. e ∙ ap (λ (l : List (List Span)). extents_by l 0 c.args.sections.now) c.deref.ensures.value ∙ law) c.extents_by.ensures
