use Rattle.std.proofs.Common.{◌++◌, ◌∙◌, append_assoc}
use Rattle.cat_walk.specs.laws.Sparing.{spares_none}
use Rattle.cat_walk.proofs.Looks.{fetch_spares}
use Rattle.cat_walk.proofs.probing.has_place.Goals as goal

pub returns-in_err-key-clause-spares : goal.returns-in_err-key-clause-spares
returns-in_err-key-clause-spares g c = spares_none _ _

pub returns-in_err-found-clause-spares : goal.returns-in_err-found-clause-spares
returns-in_err-found-clause-spares g c =
    fetch_spares (c.args.word.now ++ c.args.place.now) c.args.stem.now c.deref.result.now _ _
    (c.deref.ensures.value ∙ c.in_ok-key.ensures ∙ append_assoc c.args.stem.now c.args.word.now c.args.place.now) c.in_err-found.ensures.counts

pub returns-clause-spares : goal.returns-clause-spares
returns-clause-spares g c =
    fetch_spares (c.args.word.now ++ c.args.place.now) c.args.stem.now c.deref.result.now _ _
    (c.deref.ensures.value ∙ c.in_ok-key.ensures ∙ append_assoc c.args.stem.now c.args.word.now c.args.place.now) c.in_ok-found.ensures.counts
