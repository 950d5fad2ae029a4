use Rattle.std.proofs.Common.{◌++◌, ℕ, List, ap, ◌∙◌, arith}
use Rattle.cat_walk.specs.laws.Sparing.{spares_none}
use Rattle.cat_walk.proofs.Looks.{scan_spares}
use Rattle.cat_walk.proofs.ScannedKeys.{length_scanned}
use Rattle.cat_walk.proofs.gathering.put_size.Goals as goal

pub returns-clause-places : goal.returns-clause-places
returns-clause-places g c = λ m told.
    c.in_ok-put_places_in.ensures
    ∙ ap (λ (l : List (List ℕ)). c.args.places.now.items ++ l)
    (length_scanned m c.args.stem.now c.deref.result.now c.in_ok-entries.entries.items c.deref-2.result.now c.deref-2.ensures.value (c.in_ok-entries.ensures.entries m told)
    c.args.pattern.now c.args.literal.now c.args.size _ (c.deref.ensures.value ∙ c.in_ok-prefix.ensures) (omega arith))

pub returns-in_err-prefix-clause-spares : goal.returns-in_err-prefix-clause-spares
returns-in_err-prefix-clause-spares g c = spares_none _ _

pub returns-in_err-entries-clause-spares : goal.returns-in_err-entries-clause-spares
returns-in_err-entries-clause-spares g c = scan_spares _ c.args.stem.now c.deref.result.now _ _ (c.deref.ensures.value ∙ c.in_ok-prefix.ensures) c.in_err-entries.ensures.at_most

pub returns-in_err-put_places_in-clause-spares : goal.returns-in_err-put_places_in-clause-spares
returns-in_err-put_places_in-clause-spares g c = scan_spares _ c.args.stem.now c.deref.result.now _ _ (c.deref.ensures.value ∙ c.in_ok-prefix.ensures) c.in_ok-entries.ensures.at_most

pub returns-clause-spares : goal.returns-clause-spares
returns-clause-spares g c = scan_spares _ c.args.stem.now c.deref.result.now _ _ (c.deref.ensures.value ∙ c.in_ok-prefix.ensures) c.in_ok-entries.ensures.at_most
