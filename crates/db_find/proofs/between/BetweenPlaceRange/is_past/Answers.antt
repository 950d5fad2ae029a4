use Rattle.std.proofs.Common.{sym, ◌∙◌}
use Rattle.db_find.proofs.Bounds.{none_past}
use Rattle.db_find.proofs.between.BetweenPlaceRange.is_past.Goals as goal

pub returns : goal.returns
returns c = λ past later behind. none_past c.args.self.now.range.low c.args.self.now.range.high c.args.place.now later (sym c.is_past.ensures ∙ past) behind
