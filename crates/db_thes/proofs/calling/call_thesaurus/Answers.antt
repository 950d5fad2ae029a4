use Rattle.std.proofs.Common.{Some, refl, sym}
use Rattle.std.proofs.lemmas.Result.{err_from_is_err_and}
use Rattle.ct_keep.specs.laws.Composing.{reads_none}
use Rattle.db_state.specs.Lines.{call_done}
use Rattle.db_state.specs.Plans.{line_for_all}
use Rattle.db_state.specs.laws.Serving.{serves_as, serves_err, serves_short, serves_then, plan_then}
use Rattle.db_thes.specs.Calling.{call_by, call_thesaurus}
use Rattle.db_thes.proofs.calling.call_thesaurus.Goals as goal

pub returns-in_err-shown : goal.returns-in_err-shown
returns-in_err-shown g c = serves_short _ _ _ _ _ (reads_none _ c.requires.ready) (err_from_is_err_and _ c.from_residual.ensures.1)

pub returns-in-Ok : goal.returns-in-Ok
returns-in-Ok g c =
    let shown = c.in_ok-shown.shown in
    serves_as (λ m. call_by m c.args.procedure shown.name shown.stated c.args.args.now) (λ m. call_thesaurus m c.args.procedure c.args.args.now) (Some (line_for_all call_done)) (Some (line_for_all call_done)) _ _ _
    (λ m i. call_by m c.args.procedure (sym c.in_ok-shown.ensures.name i) (sym c.in_ok-shown.ensures.stated i) c.args.args.now) refl
    (serves_then _ _ _ _ _ _ c.in-Ok.ensures.reads (c.carry_out.ensures.done _ (plan_then _ _ _ _ _ c.in-Ok.ensures.reads c.in-Ok.ensures.plan)))

pub returns : goal.returns
returns g c = serves_err _ _ _ _ _ c.in-Err.ensures.reads
