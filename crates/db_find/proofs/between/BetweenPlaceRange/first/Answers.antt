use Rattle.std.proofs.Common.{◌≡◌, true, List, ℕ, sym, subst}
use Rattle.cat_walk.specs.Places.{comes_before}
use Rattle.db_find.proofs.Bounds.{begins_behind}
use Rattle.db_find.proofs.between.BetweenPlaceRange.first.Goals as goal

pub returns : goal.returns
returns c = λ place some taken.
    subst (λ (low : List ℕ). comes_before low place ≡ true) (sym c.as_slice.ensures) (begins_behind c.args.self.now.range.low c.args.self.now.range.high place taken)
