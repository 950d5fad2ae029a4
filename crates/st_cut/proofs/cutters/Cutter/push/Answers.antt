use Rattle.std.proofs.Common.{refl}
use Rattle.st_cut.proofs.Standing.{stands_push_inside}
use Rattle.st_cut.specs.contracts.cutters.Cutter.{the_view}
use Rattle.st_cut.proofs.cutters.Cutter.push.Goals as goal

pub returns : goal.returns
returns c limit held s =
    stands_push_inside limit (the_view c.self.inside) _ _ held c.args.byte c.self.view_is s c.requires refl c.keep.ensures.items c.min-self-inside.ensures c.stop_after-self-inside.ensures
