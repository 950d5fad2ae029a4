use Rattle.std.proofs.lemmas.Result.{err_from_is_err_and}
use Rattle.ct_keep.specs.laws.Composing.{reads_none}
use Rattle.db_state.specs.laws.Serving.{serves_short, serves_batch}
use Rattle.db_state.proofs.plans.commit_batch.Goals as goal

pub returns-in_err-reply-clause-done : goal.returns-in_err-reply-clause-done
returns-in_err-reply-clause-done g c = λ effect fits. serves_short _ _ _ _ _ (reads_none _ c.requires.accepts.ready) (err_from_is_err_and _ c.from_residual.ensures.1)

pub returns-clause-done : goal.returns-clause-done
returns-clause-done g c = λ effect fits. serves_batch effect _ c.args.batch c.in_ok-reply.reply.items _ _ c.commit.result c.in_ok-reply.ensures fits c.commit.ensures.kept c.commit.ensures.fulls c.commit.ensures.once c.commit.ensures.gives c.commit.ensures.tells
