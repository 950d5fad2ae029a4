use Rattle.std.proofs.Common.{◌++◌, ℕ, List, sym, ap, ◌∙◌, arith}
use Rattle.cat_walk.specs.laws.Sparing.{spares_none}
use Rattle.cat_walk.proofs.Looks.{scan_spares}
use Rattle.cat_walk.proofs.GatheredPlaces.{key_adds, no_word_adds}
use Rattle.cat_walk.proofs.ScannedKeys.{word_scanned}
use Rattle.cat_walk.proofs.gathering.put_key.Goals as goal

pub returns-then-not-is_word-clause-places : goal.returns-then-not-is_word-clause-places
returns-then-not-is_word-clause-places g c = λ m told. no_word_adds m c.args.stem.now c.args.key.now c.args.places.now.items (sym c.is_word.ensures.is ∙ c.if-not-is_word.true)

pub returns-then-not-is_word-clause-spares : goal.returns-then-not-is_word-clause-spares
returns-then-not-is_word-clause-spares g c = spares_none _ _

pub returns-clause-places : goal.returns-clause-places
returns-clause-places g c = λ m told.
    key_adds m c.args.stem.now c.args.key.now c.args.places.now.items c.put_rests.new.places.items (sym c.is_word.ensures.is ∙ c.if-not-is_word.false)
    (c.in_ok-put_rests.ensures
    ∙ ap (λ (l : List (List ℕ)). c.args.places.now.items ++ l)
    (word_scanned m c.args.stem.now c.deref.result.now c.in_ok-entries.entries.items c.deref-2.result.now c.deref-2.ensures.value (c.in_ok-entries.ensures.entries m told)
    c.args.key.now _ (c.deref.ensures.value ∙ c.in_ok-prefix.ensures) (omega arith)))

pub returns-in_err-prefix-clause-spares : goal.returns-in_err-prefix-clause-spares
returns-in_err-prefix-clause-spares g c = spares_none _ _

pub returns-in_err-entries-clause-spares : goal.returns-in_err-entries-clause-spares
returns-in_err-entries-clause-spares g c = scan_spares _ c.args.stem.now c.deref.result.now _ _ (c.deref.ensures.value ∙ c.in_ok-prefix.ensures) c.in_err-entries.ensures.at_most

pub returns-in_err-put_rests-clause-spares : goal.returns-in_err-put_rests-clause-spares
returns-in_err-put_rests-clause-spares g c = scan_spares _ c.args.stem.now c.deref.result.now _ _ (c.deref.ensures.value ∙ c.in_ok-prefix.ensures) c.in_ok-entries.ensures.at_most

pub returns-clause-spares : goal.returns-clause-spares
returns-clause-spares g c = scan_spares _ c.args.stem.now c.deref.result.now _ _ (c.deref.ensures.value ∙ c.in_ok-prefix.ensures) c.in_ok-entries.ensures.at_most
