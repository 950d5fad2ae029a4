use Rattle.std.proofs.Common.{ℕ, List, subst}
use Rattle.std.specs.Prelude.{IsTrue, ◌↔◌}
use Rattle.ct_keep.specs.Changes.{IsWell}
use Rattle.ct_keep.specs.laws.Rising.{Entry}
use Rattle.pg_directory.specs.Listing.{entry_at}
use Rattle.pg_directory.proofs.Fetched.{given_entry}
use Rattle.pg_directory.proofs.surveying.is_entry_well.Goals as goal

pub returns-clause-well : goal.returns-clause-well
returns-clause-well g c = λ top pages m holds layout has.
    let e = given_entry c.in-Ok.found c.in-Some.key c.in-Some.value (entry_at pages c.args.at) (c.in-Ok.ensures.entry top pages m holds layout has) c.in-Some.is in
    subst (λ (x : Entry). IsTrue c.in-Ok-is_well.well ↔ IsWell (g.H.Shape.is_well c.args.shape.now) x.0 x.1) e
    (subst (λ (k : List ℕ). IsTrue c.in-Ok-is_well.well ↔ IsWell (g.H.Shape.is_well c.args.shape.now) k c.in-Some.value.items) c.deref.ensures.value
    (subst (λ (v : List ℕ). IsTrue c.in-Ok-is_well.well ↔ IsWell (g.H.Shape.is_well c.args.shape.now) c.deref.result.now v) c.deref-2.ensures.value c.in-Ok-is_well.ensures))
