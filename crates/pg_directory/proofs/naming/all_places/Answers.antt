use Rattle.std.proofs.Common.{sym, subst}
use Rattle.std.proofs.lemmas.Result.{IfOk-weaker}
use Rattle.pg_directory.specs.OpenStore.{ArePlaces}
use Rattle.pg_directory.proofs.naming.all_places.Goals as goal

pub returns-then-top-ne0-clause-places : goal.returns-then-top-ne0-clause-places
returns-then-top-ne0-clause-places g c = λ number pages holds kept named.
    let n = named c.if-top-ne0.true in
    IfOk-weaker c.named_places.result _ _ (λ all is. subst (ArePlaces pages) (sym is) n.there) (c.named_places.ensures.places number pages n.entries holds n.are)

pub returns-clause-places : goal.returns-clause-places
returns-clause-places g c = λ number pages holds kept named. subst (ArePlaces pages) (sym c.in-Ok.ensures.items) (kept c.if-top-ne0.false)
