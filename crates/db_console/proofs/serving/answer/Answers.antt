use Rattle.std.proofs.lemmas.Result.{on_ok_weaker}
use Rattle.db_engine.specs.Runs.{statement}
use Rattle.db_console.proofs.Answering.{answers_said, breaks_off_saying, breaks_off_halted, kept_failed, commits_statement}
use Rattle.db_console.proofs.LookLaws.{looks_failed}
use Rattle.db_console.proofs.ViewLaws.{if_err_weaker}
use Rattle.db_console.proofs.serving.answer.Goals as goal

pub returns-in-Ok-clause-all : goal.returns-in-Ok-clause-all
returns-in-Ok-clause-all g c = on_ok_weaker c.say_reply.result (λ spoke limit ended shown.
    answers_said limit (statement ended) _ _ _ _ c.in-Ok.ensures.kept (c.in-Ok.ensures.replied limit ended shown) (commits_statement ended _ _ c.in-Ok.ensures.once) (c.in-Ok.ensures.looks limit ended shown) (rw c.bytes.ensures at spoke)) c.say_reply.ensures.all

pub returns-in-Ok-clause-part : goal.returns-in-Ok-clause-part
returns-in-Ok-clause-part g c = if_err_weaker c.say_reply.result _ _ (λ fault spoke limit ended shown.
    breaks_off_saying limit (statement ended) _ fault _ _ _ c.in-Ok.ensures.kept (c.in-Ok.ensures.replied limit ended shown) (commits_statement ended _ _ c.in-Ok.ensures.once) (c.in-Ok.ensures.looks limit ended shown) (g.met.K.Keeper.settled c.say_reply.new.keeper) (rw c.bytes.ensures at spoke)) c.say_reply.ensures.part

pub returns-in-Err-clause-part : goal.returns-in-Err-clause-part
returns-in-Err-clause-part g c = λ limit ended shown.
    breaks_off_halted limit (statement ended) _ _ (kept_failed c.in-Err.field-0 _ _ c.in-Err.ensures.kept) (c.in-Err.ensures.halted limit ended shown) (commits_statement ended _ _ c.in-Err.ensures.once)
    (looks_failed limit (statement ended) c.in-Err.field-0 _ _ (c.in-Err.ensures.looks limit ended shown))
