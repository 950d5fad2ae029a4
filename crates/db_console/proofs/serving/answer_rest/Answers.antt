use Rattle.std.proofs.lemmas.Result.{on_ok_weaker}
use Rattle.ct_keep.specs.laws.Composing.{kept_all}
use Rattle.db_looks.specs.laws.Composing.{over_still}
use Rattle.db_state.specs.States.{StandsForState}
use Rattle.db_engine.specs.Runs.{rest_piece}
use Rattle.db_console.proofs.Responding.{replied_rest}
use Rattle.db_console.proofs.Answering.{answers_said, breaks_off_saying, commits_none}
use Rattle.db_console.proofs.ViewLaws.{if_err_weaker}
use Rattle.db_console.proofs.serving.answer_rest.Goals as goal

pub returns-clause-all : goal.returns-clause-all
returns-clause-all g c =
    let k = g.K.Keeper.view c.args.keeper.now in
    on_ok_weaker c.say_reply.result (λ spoke limit rest shown.
    answers_said limit (rest_piece rest) _ k k _ (kept_all k c.requires)
    (λ was w. replied_rest limit rest _ was k c.requires (g.met.K.Keeper.settled c.args.keeper.now c.requires) (c.respond_to_rest-response.ensures limit rest shown was.state) w)
    (commits_none (rest_piece rest) k) (over_still StandsForState _ k) (rw c.bytes.ensures at spoke)) c.say_reply.ensures.all

pub returns-clause-part : goal.returns-clause-part
returns-clause-part g c =
    let k = g.K.Keeper.view c.args.keeper.now in
    if_err_weaker c.say_reply.result _ _ (λ fault spoke limit rest shown.
    breaks_off_saying limit (rest_piece rest) _ fault k k _ (kept_all k c.requires)
    (λ was w. replied_rest limit rest _ was k c.requires (g.met.K.Keeper.settled c.args.keeper.now c.requires) (c.respond_to_rest-response.ensures limit rest shown was.state) w)
    (commits_none (rest_piece rest) k) (over_still StandsForState _ k) (g.met.K.Keeper.settled c.say_reply.new.keeper) (rw c.bytes.ensures at spoke)) c.say_reply.ensures.part
