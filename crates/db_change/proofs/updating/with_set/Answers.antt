use Rattle.std.proofs.Common.{◌+◌, ℤ, List, [], ◌∷◌, ◌++◌, drop, ap, sym, ◌∙◌, append-nil, append_assoc, w64, rules, get_or, None}
use Rattle.std.proofs.lemmas.Int.{to_z-of_z}
use Rattle.std.specs.Option.{unwrap_or}
use Rattle.db_change.specs.Updating.{with_set}
use Rattle.db_change.proofs.UpdateSteps.{with_set_past, with_set_at}
use Rattle.db_change.proofs.updating.with_set.Goals as goal

pub returns-in_default : goal.returns-in_default
returns-in_default c =
    let after = c.loop-place.after.items in
    sym (append-nil after) ∙ ap (λ (ns : List ℤ). after ++ ns) (sym (with_set_past c.args.set.now c.args.numbers.now c.loop-place.place c.in_default.ensures.lookup.3)) ∙ c.loop-place.invariant

pub loop-place-preserved : goal.loop-place-preserved
loop-place-preserved c =
    let set = c.args.set.now in
    let numbers = c.args.numbers.now in
    let place = c.loop-place.place in
    let after = c.loop-place.after.items in
    let number = get_or set place None in
    let old = c.in-Some.old.now in
    let rest = with_set (drop (place + 1) set) (drop (place + 1) numbers) in
    ap (λ (ns : List ℤ). ns ++ rest) (c.in_ok-push.ensures.items ∙ ap (λ (n : ℤ). after ++ n ∷ []) (to_z-of_z w64 c.unwrap_or.result (search rules) ∙ c.unwrap_or.ensures ∙ ap (unwrap_or number) (to_z-of_z w64 old (search rules) ∙ c.in-Some.ensures.lookup.1)))
    ∙ append_assoc after (unwrap_or number (get_or numbers place old) ∷ []) rest
    ∙ ap (λ (ns : List ℤ). after ++ ns) (sym (with_set_at set numbers place None old c.loop-place-test.true c.in-Some.ensures.lookup.3.0))
    ∙ c.loop-place.invariant
