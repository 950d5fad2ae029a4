use Rattle.std.proofs.Common.{◌+◌, ◌*◌, arith}
use Rattle.ct_site.specs.laws.Lengths.{grows_then, grows_more, within_less, within_grown}
use Rattle.pg_journal.proofs.Pages.{has_between}
use Rattle.pg_journal.proofs.Committing.{is_place, staged_moments, opened_moments, committed_moments, committed_stands}
use Rattle.pg_journal.proofs.journals.commit_pages.Goals as goal

pub stage-requires-clause-between : goal.stage-requires-clause-between
stage-requires-clause-between g c = (is_place c.args.homes c.args.after _ _ c.requires.may c.requires.after c.requires.least c.requires.most c.max-place.ensures).between

pub set_gate-requires : goal.set_gate-requires
set_gate-requires g c =
    let p = is_place c.args.homes c.args.after _ _ c.requires.may c.requires.after c.requires.least c.requires.most c.max-place.ensures in
    record { within = within_less (4096 * c.max-place.result) 4097 _ (omega (arith, p.least)) c.in_ok-stage.ensures.within }

pub finish-requires-clause-within : goal.finish-requires-clause-within
finish-requires-clause-within g c =
    let p = is_place c.args.homes c.args.after _ _ c.requires.may c.requires.after c.requires.least c.requires.most c.max-place.ensures in
    within_grown 4097 0 _ _ c.set_gate.ensures.works.untold c.set_gate.ensures.length (within_less (4096 * c.max-place.result) 4097 _ (omega (arith, p.least)) c.in_ok-stage.ensures.within)

pub finish-requires-clause-inside : goal.finish-requires-clause-inside
finish-requires-clause-inside g c = λ i has.
    let p = is_place c.args.homes c.args.after _ _ c.requires.may c.requires.after c.requires.least c.requires.most c.max-place.ensures in
    let b = has_between 2 _ _ i p.between has in
    within_less (4096 * c.max-place.result) (4096 * i + 4096) _ (omega (arith, b.1)) (within_grown _ 0 _ _ c.set_gate.ensures.works.untold c.set_gate.ensures.length c.in_ok-stage.ensures.within)

pub returns-in_err-stage-clause-moments : goal.returns-in_err-stage-clause-moments
returns-in_err-stage-clause-moments g c = λ ps s.
    let p = is_place c.args.homes c.args.after _ _ c.requires.may c.requires.after c.requires.least c.requires.most c.max-place.ensures in
    staged_moments c.args.homes _ ps _ c.requires.may p.is p.least _ _ (c.stage.ensures.moments c.args.homes ps p.below s)

pub returns-in_err-set_gate-clause-moments : goal.returns-in_err-set_gate-clause-moments
returns-in_err-set_gate-clause-moments g c = λ ps s.
    let p = is_place c.args.homes c.args.after _ _ c.requires.may c.requires.after c.requires.least c.requires.most c.max-place.ensures in
    let staged = c.in_ok-stage.ensures.staged c.args.homes ps p.below s in
    opened_moments c.args.homes _ ps _ c.requires.may p.is p.least _ _ (c.stage.ensures.moments c.args.homes ps p.below s) staged _ (c.set_gate.ensures.moments staged.image staged.settled)

pub returns-clause-moments : goal.returns-clause-moments
returns-clause-moments g c = λ ps s.
    let p = is_place c.args.homes c.args.after _ _ c.requires.may c.requires.after c.requires.least c.requires.most c.max-place.ensures in
    let staged = c.in_ok-stage.ensures.staged c.args.homes ps p.below s in
    committed_moments c.args.homes _ ps _ c.requires.may p.is p.least _ _ (c.stage.ensures.moments c.args.homes ps p.below s) staged _ (c.set_gate.ensures.moments staged.image staged.settled)
    (c.in_ok-set_gate.ensures.set staged.image staged.settled) _ c.finish.ensures.moments

pub returns-clause-stands : goal.returns-clause-stands
returns-clause-stands g c = λ ps s.
    let p = is_place c.args.homes c.args.after _ _ c.requires.may c.requires.after c.requires.least c.requires.most c.max-place.ensures in
    let staged = c.in_ok-stage.ensures.staged c.args.homes ps p.below s in
    committed_stands c.args.homes _ c.args.after ps _ c.requires.may p.is p.least c.requires.after _ _ _ staged (c.in_ok-set_gate.ensures.set staged.image staged.settled) c.finish.result c.finish.ensures.stands

pub returns-in_err-stage-clause-length : goal.returns-in_err-stage-clause-length
returns-in_err-stage-clause-length g c = grows_more _ _ _ _ (omega (arith, c.max-place.ensures)) c.stage.ensures.length

pub returns-in_err-set_gate-clause-length : goal.returns-in_err-set_gate-clause-length
returns-in_err-set_gate-clause-length g c =
    grows_then _ _ _ _ c.set_gate.ensures.works.untold (grows_more _ _ _ _ (omega (arith, c.max-place.ensures)) c.stage.ensures.length) (grows_more 0 _ _ _ (omega arith) c.set_gate.ensures.length)

pub returns-clause-length : goal.returns-clause-length
returns-clause-length g c =
    grows_then _ _ _ _ c.finish.ensures.works.untold
    (grows_then _ _ _ _ c.set_gate.ensures.works.untold (grows_more _ _ _ _ (omega (arith, c.max-place.ensures)) c.stage.ensures.length) (grows_more 0 _ _ _ (omega arith) c.set_gate.ensures.length))
    (grows_more 0 _ _ _ (omega arith) c.finish.ensures.length)
