use Rattle.std.proofs.Common.{List, Option, sym, ap, subst, ◌∙◌}
use Rattle.std.proofs.lemmas.Result.{IfOk-weaker}
use Rattle.tx_prefs.specs.declared.requests.Request.{Request}
use Rattle.tx_prefs.specs.Requests.{asks_only, requests_of}
use Rattle.db_index.specs.Kinds.{requests_taken}
use Rattle.db_index.specs.Asking.{AsksForIndex, requests_in}
use Rattle.db_index.proofs.AskSteps.{all_taken, none_read, none_taken, nothing_asked}
use Rattle.db_index.proofs.asking.read_asked.Goals as goal

pub returns-in_default-2-clause-asked : goal.returns-in_default-2-clause-asked
returns-in_default-2-clause-asked g c = λ m k holds stands.
    nothing_asked m.preferences c.args.columns.now (requests_in c.args.kind c.args.parameters.now)
    (ap (requests_in c.args.kind) c.in-Some.is ∙ none_read c.args.kind c.in-Some.text ((rw c.in_default-2.is at c.in_ok-requests.ensures) ∙ ap requests_of c.as_str.ensures))

pub returns-then-not-takes_requests-clause-asked : goal.returns-then-not-takes_requests-clause-asked
returns-then-not-takes_requests-clause-asked g c = λ m k holds stands.
    nothing_asked m.preferences c.args.columns.now (requests_in c.args.kind c.args.parameters.now)
    (ap (requests_in c.args.kind) c.in-Some.is
    ∙ none_taken c.args.kind c.in-Some.text c.in-Some-2.requests.items c.takes_requests.result ((rw c.in-Some-2.is at c.in_ok-requests.ensures) ∙ ap requests_of c.as_str.ensures)
    (c.takes_requests.ensures ∙ ap (asks_only (requests_taken c.args.kind)) c.deref.ensures.value) c.if-not-takes_requests.true)

pub returns-clause-asked : goal.returns-clause-asked
returns-clause-asked g c = λ m k holds stands.
    let all = ap (requests_in c.args.kind) c.in-Some.is
    ∙ all_taken c.args.kind c.in-Some.text c.in-Some-2.requests.items c.takes_requests.result ((rw c.in-Some-2.is at c.in_ok-requests.ensures) ∙ ap requests_of c.as_str.ensures)
    (c.takes_requests.ensures ∙ ap (asks_only (requests_taken c.args.kind)) c.deref.ensures.value) c.if-not-takes_requests.false in
    IfOk-weaker c.asked_by.result _ _ (λ asked is. subst (λ (o : Option (List Request)). AsksForIndex m.preferences c.args.columns.now o asked) (sym all) (rw c.deref-2.ensures.value at is)) (c.asked_by.ensures.asked m k holds stands)
