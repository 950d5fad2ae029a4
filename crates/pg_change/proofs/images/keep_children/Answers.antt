use Rattle.std.proofs.Common.{subst, take_all}
use Rattle.std.proofs.lemmas.List.Elements.{All-more}
use Rattle.std.specs.List.{All}
use Rattle.pg_directory.specs.Pages.{IsChild}
use Rattle.pg_change.proofs.images.keep_children.Goals as goal

pub loop-child-preserved : goal.loop-child-preserved
loop-child-preserved c = All-more IsChild c.args.children.now c.loop-child.child-index _ c.loop-child-test.true c.loop-child.invariant c.keep_child.ensures

pub returns : goal.returns
returns c = subst (All IsChild) (take_all c.loop-child.child-index c.args.children.now c.loop-child-test.false) c.loop-child.invariant
