use Rattle.std.proofs.Common.{Option, sym, subst, ◌∙◌}
use Rattle.pg_directory.specs.declared.entries.EntryAt.{EntryAt}
use Rattle.pg_directory.specs.laws.Listing.{has_item}
use Rattle.pg_batch.specs.Places.{IsKeyPlace}
use Rattle.pg_batch.proofs.EntryPages.{page_there}
use Rattle.pg_batch.proofs.Weighed.{nothing_weighed, entry_weighed}
use Rattle.pg_batch.proofs.weighing.weight_at.Goals as goal
use Rattle.std.specs.Prelude.{map}
use Rattle.pg_directory.specs.Trees.{kind_of}

pub returns-in_default-clause-weight : goal.returns-in_default-clause-weight
returns-in_default-clause-weight g c = λ top pages holds m key layout place.
    nothing_weighed pages m holds.are layout key (subst (λ (o : Option EntryAt). IsKeyPlace pages key o) c.in_default.is place)

pub returns-in-Some-weight_on-clause-weight : goal.returns-in-Some-weight_on-clause-weight
returns-in-Some-weight_on-clause-weight g c = λ top pages holds m key layout place.
    let at = c.in-Some.at in
    let own = subst (λ (o : Option EntryAt). IsKeyPlace pages key o) c.in-Some.is place in
    let page = page_there pages at c.page_of.new.cache (c.in-Ok.ensures.page top pages holds own.0) c.in-Some-page.is c.page.ensures in
    let i = has_item pages m holds.are layout at own.0 in
    c.in-Some-weight_on.ensures page.strings page.fits page.at page.less (map kind_of pages) i.item i.entry i.chain i.good i.stands (sym page.is ∙ i.is)
    ∙ entry_weighed pages m holds.are layout key at i.entry own i.read
