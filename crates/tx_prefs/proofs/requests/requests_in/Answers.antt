use Rattle.std.proofs.Common.{◌≡◌, ◌==◌, false, List, length, map, rules, sym, ap, ◌∙◌}
use Rattle.tx_prefs.specs.declared.requests.Request.{Request}
use Rattle.tx_prefs.specs.Requests.{is_free, requests_from}
use Rattle.tx_prefs.specs.RequestWords.{read_word}
use Rattle.tx_prefs.proofs.RequestSteps.{reads_none, reads_on, reads_twice}
use Rattle.tx_prefs.proofs.requests.requests_in.Goals as goal

pub returns-in_default : goal.returns-in_default
returns-in_default c =
    let some : (length c.loop-rest.rest.now == 0) ≡ false = search rules in
    reads_none c.loop-rest.requests.items c.loop-rest.rest.now some (sym (rw c.in_default.is at c.in_ok-request.ensures.request))
    ∙ c.loop-rest.invariant

pub returns-then-not-is_free : goal.returns-then-not-is_free
returns-then-not-is_free c =
    let free = c.if-not-is_free.ensures ∙ ap (is_free c.in-Some.request.kind) c.deref.ensures.value in
    reads_twice c.loop-rest.requests.items (map read_word c.loop-rest.rest.now) c.in-Some.request (map read_word c.in-Some.later.now) (sym (rw c.in-Some.is at c.in_ok-request.ensures.request)) (sym free)
    ∙ c.loop-rest.invariant

pub loop-rest-preserved : goal.loop-rest-preserved
loop-rest-preserved c =
    let free = c.if-not-is_free.ensures ∙ ap (is_free c.in-Some.request.kind) c.deref.ensures.value in
    ap (λ (l : List Request). requests_from l (map read_word c.in-Some.later.now)) c.in_ok-push.ensures.items
    ∙ reads_on c.loop-rest.requests.items (map read_word c.loop-rest.rest.now) c.in-Some.request (map read_word c.in-Some.later.now) (sym (rw c.in-Some.is at c.in_ok-request.ensures.request)) (sym free)
    ∙ c.loop-rest.invariant
