use Rattle.std.proofs.Common.{Option, ap, subst, ◌∙◌}
use Rattle.std.specs.Prelude.{IfSome, is_some}
use Rattle.std.proofs.lemmas.Result.{IfOk-weaker}
use Rattle.ct_keep.specs.laws.Composing.{reads_on, reads_hold}
use Rattle.ix_kinds.specs.Targets.{is_text_at}
use Rattle.db_index.specs.declared.asking.Wanted.{Wanted}
use Rattle.db_index.specs.Asking.{SectionsFit, fitting}
use Rattle.db_index.specs.Indexing.{index_created}
use Rattle.db_index.proofs.IndexChecks.{faulty, faultless, plan_as}
use Rattle.db_index.proofs.indexing.plan_on.Goals as goal

pub returns-in-Some-clause-plan : goal.returns-in-Some-clause-plan
returns-in-Some-clause-plan g c = λ m k x holds stands there small columns sections.
    let i = c.args.index.now in let t = c.args.table.now in let place = c.args.place in let wanted = c.args.wanted in
    faulty m i t c.args.kind c.args.parallel.now x place wanted c.in_ok-there.there c.is_text_at.result c.is_fitting.result c.is_degree.result c.in_ok-many.many c.index_fault.result stands.state.tables there (c.in_ok-there.ensures.taken m k holds stands small)
    (c.is_text_at.ensures ∙ ap (λ cs. is_text_at cs place) columns) (c.is_fitting.ensures ∙ ap (λ cs. is_some (fitting cs wanted)) columns) c.is_degree.ensures
    (c.in_ok-many.ensures.many m k (reads_hold _ _ k c.in_ok-there.ensures.reads holds) stands)
    c.index_fault.ensures.checks c.in-Some.fault c.in-Some.is

pub returns-clause-plan : goal.returns-clause-plan
returns-clause-plan g c = λ m k x holds stands there small columns sections.
    let i = c.args.index.now in let t = c.args.table.now in let place = c.args.place in let wanted = c.args.wanted in
    let passed =
    faultless m i t c.args.kind c.args.parallel.now x place wanted c.in_ok-there.there c.is_text_at.result c.is_fitting.result c.is_degree.result c.in_ok-many.many c.index_fault.result stands.state.tables there (c.in_ok-there.ensures.taken m k holds stands small)
    (c.is_text_at.ensures ∙ ap (λ cs. is_text_at cs place) columns) (c.is_fitting.ensures ∙ ap (λ cs. is_some (fitting cs wanted)) columns) c.is_degree.ensures
    (c.in_ok-many.ensures.many m k (reads_hold _ _ k c.in_ok-there.ensures.reads holds) stands)
    c.index_fault.ensures.checks c.in-Some-wanted.wanted c.in_default.is c.in-Some-wanted.is (c.index_fault.ensures.formed c.in_default.is)
    (subst (λ (o : Option Wanted). IfSome o (SectionsFit c.args.kind)) c.in-Some-wanted.is sections) in
    IfOk-weaker c.free_plan.result _ _ (λ plan fits. plan_as _ _ index_created k plan passed.1 fits)
    (c.free_plan.ensures.plan m k (reads_hold _ _ k (reads_on _ _ _ _ c.in_ok-there.ensures.reads c.in_ok-many.ensures.reads) holds) stands x small passed.0)
