use Rattle.std.proofs.Common.{ap}
use Rattle.std.specs.Option.{option_map}
use Rattle.ct_site.specs.laws.Calls.{settled_same}
use Rattle.ct_site.specs.laws.Lengths.{grows_then, grows_same}
use Rattle.pg_journal.proofs.Loading.{nothing_written, open_none, to_finish, finished, finish_moments, finish_inside}
use Rattle.pg_journal.proofs.journals.load_open.Goals as goal

pub returns-in_err-batch-clause-moments : goal.returns-in_err-batch-clause-moments
returns-in_err-batch-clause-moments g c = λ image settled. nothing_written _ _ image settled c.look_open.ensures.same c.look_open.ensures.loads.beside

pub returns-in_default-clause-moments : goal.returns-in_default-clause-moments
returns-in_default-clause-moments g c = λ image settled. nothing_written _ _ image settled c.look_open.ensures.same c.look_open.ensures.loads.beside

pub returns-in_default-clause-no_store : goal.returns-in_default-clause-no_store
returns-in_default-clause-no_store g c = λ image told is.
    open_none image _ (c.requires.store image told) (c.requires.gate image told) (c.in_ok-batch.ensures.is image told (c.requires.gate image told)) (ap (option_map (λ f. (f.0.pages, f.1))) c.in_default.is)

pub finish-requires-clause-inside : goal.finish-requires-clause-inside
finish-requires-clause-inside g c = finish_inside _ _ c.in-Some.batch.pages c.look_open.ensures.same
    (λ image told.
    let f = to_finish image _ c.in-Some.batch.pages c.in-Some.homes (c.requires.store image told) (c.in_ok-batch.ensures.is image told (c.requires.gate image told)) (ap (option_map (λ f. (f.0.pages, f.1))) c.in-Some.is) in
    (f.settling.is_open, f.settling.is))

pub returns-in_default-finish-clause-moments : goal.returns-in_default-finish-clause-moments
returns-in_default-finish-clause-moments g c = λ image settled.
    finish_moments image _ c.in-Some.batch.pages c.in-Some.homes _ _ _ (c.requires.store image settled.told) (c.in_ok-batch.ensures.is image settled.told (c.requires.gate image settled.told))
    (ap (option_map (λ f. (f.0.pages, f.1))) c.in-Some.is) settled c.look_open.ensures.same c.look_open.ensures.loads.beside c.finish.ensures.moments

pub returns-clause-moments : goal.returns-clause-moments
returns-clause-moments g c = λ image settled.
    finish_moments image _ c.in-Some.batch.pages c.in-Some.homes _ _ _ (c.requires.store image settled.told) (c.in_ok-batch.ensures.is image settled.told (c.requires.gate image settled.told))
    (ap (option_map (λ f. (f.0.pages, f.1))) c.in-Some.is) settled c.look_open.ensures.same c.look_open.ensures.loads.beside c.finish.ensures.moments

pub returns-clause-loaded : goal.returns-clause-loaded
returns-clause-loaded g c = λ image settled.
    let f = to_finish image _ c.in-Some.batch.pages c.in-Some.homes (c.requires.store image settled.told) (c.in_ok-batch.ensures.is image settled.told (c.requires.gate image settled.told)) (ap (option_map (λ f. (f.0.pages, f.1))) c.in-Some.is) in
    finished image c.in-Some.batch.pages c.in-Some.homes _ f (c.in-Ok.ensures.stands _ _ image (settled_same _ _ image c.look_open.ensures.same settled) f.goal_is f.settling)

pub returns-in_err-batch-clause-length : goal.returns-in_err-batch-clause-length
returns-in_err-batch-clause-length g c = grows_same 0 _ _ c.look_open.ensures.same.image

pub returns-in_default-clause-length : goal.returns-in_default-clause-length
returns-in_default-clause-length g c = grows_same 0 _ _ c.look_open.ensures.same.image

pub returns-in_default-finish-clause-length : goal.returns-in_default-finish-clause-length
returns-in_default-finish-clause-length g c = grows_then 0 _ _ _ c.finish.ensures.works.untold (grows_same 0 _ _ c.look_open.ensures.same.image) c.finish.ensures.length

pub returns-clause-length : goal.returns-clause-length
returns-clause-length g c = grows_then 0 _ _ _ c.finish.ensures.works.untold (grows_same 0 _ _ c.look_open.ensures.same.image) c.finish.ensures.length
