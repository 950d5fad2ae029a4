use Rattle.std.proofs.Common.{◌≡◌, length, ap, ◌∙◌, arith}
use Rattle.pg_directory.specs.Unused.{unused_to}
use Rattle.pg_directory.proofs.UnusedPages.{next_unused}
use Rattle.pg_directory.proofs.unused.unused_places.Goals as goal

pub loop-at-init : goal.loop-at-init
loop-at-init c = λ pages are. c.new-places.ensures.items

pub loop-at-preserved : goal.loop-at-preserved
loop-at-preserved c = λ pages are.
    next_unused pages c.args.notes.now c.loop-at.at _ c.loop-at.places.items c.put_unused.new.into.items are c.loop-at-test.true (c.loop-at.invariant pages are) c.in_ok-put_unused.ensures

pub returns : goal.returns
returns c = λ pages are.
    let all : c.loop-at.at ≡ length c.args.notes.now = omega (arith, c.loop-at.auto.at-end, c.loop-at-test.false) in
    c.loop-at.invariant pages are ∙ ap (unused_to pages) all
