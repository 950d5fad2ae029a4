use Rattle.std.proofs.Common.{ℕ, List, Option, ◌∙◌, ap, sym, subst}
use Rattle.std.proofs.lemmas.Result.{IfOk-weaker}
use Rattle.ct_entry.specs.Listings.{first_of}
use Rattle.cat_walk.specs.Places.{IsNext, is_listed}
use Rattle.cat_walk.proofs.Listing.{first_is_next_listed}
use Rattle.cat_walk.proofs.listed.next_listed.Goals as goal

pub returns : goal.returns
returns c =
    let ps = c.args.places.now in
    IfOk-weaker c.first_of.result _ _
    (λ next is. subst (λ (o : Option (List ℕ)). IsNext (is_listed ps) c.args.after.now o) (sym (is ∙ ap first_of c.behind.ensures)) (first_is_next_listed c.args.after.now ps c.requires))
    c.first_of.ensures
