use Rattle.std.proofs.Common.{◌≡◌, ◌∙◌, true, ap, sym, subst}
use Rattle.ix_lists.specs.Documents.{places_at}
use Rattle.ix_lists.specs.laws.Passing.{from_on_same, first_places_at_bound}
use Rattle.ix_cursor.specs.Passing.{list_passed}
use Rattle.ix_cursor.proofs.Passed.{list_passes}
use Rattle.ix_cursor.proofs.passing.pass_list.Goals as goal

pub returns-clause-keeps : goal.returns-clause-keeps
returns-clause-keeps g c d le = ap (λ ds. places_at ds d) c.in_ok-first.ensures.left ∙ from_on_same c.args.to _ d le

pub returns-clause-passed : goal.returns-clause-passed
returns-clause-passed g c = subst (λ ds. list_passed c.args.to ds ≡ true) (sym c.in_ok-first.ensures.left) (list_passes c.args.to _)

pub returns-clause-bound : goal.returns-clause-bound
returns-clause-bound g c = rw c.in_ok-first.ensures.first (first_places_at_bound g.P.Place.form c.args.to _ c.skip.new.self c.in_ok-first.ensures.left c.in_ok-first.ensures.rise)
