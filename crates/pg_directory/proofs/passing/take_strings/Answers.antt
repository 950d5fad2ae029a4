use Rattle.std.specs.Prelude.{map, Bool}
use Rattle.std.proofs.Common.{subst}
use Rattle.pg_directory.specs.FirstPass.{far_of, TakesString}
use Rattle.pg_directory.proofs.Firsts.{one_string, no_string}
use Rattle.pg_directory.proofs.passing.take_strings.Goals as goal

pub returns-then-not-branch : goal.returns-then-not-branch
returns-then-not-branch c =
    no_string c.args.page.now c.loop-i.i c.in-Some.string.now (map far_of c.loop-i.far.items) (map far_of c.take_string.new.far.items) (map far_of c.take_string.new.far.items) c.in-Some.ensures.0 c.in-Some.ensures.1
    (subst (λ (b : Bool). TakesString b c.in-Some.string.now (map far_of c.loop-i.far.items) (map far_of c.take_string.new.far.items)) c.if-not-branch.true c.in_ok-take_string.ensures)

pub loop-i-preserved : goal.loop-i-preserved
loop-i-preserved c =
    one_string c.args.page.now c.loop-i.i c.in-Some.string.now _ (map far_of c.loop-i.far.items) (map far_of c.take_string.new.far.items) c.in-Some.ensures.0 c.in-Some.ensures.1 c.loop-i.invariant
    (subst (λ (b : Bool). TakesString b c.in-Some.string.now (map far_of c.loop-i.far.items) (map far_of c.take_string.new.far.items)) c.if-not-branch.false c.in_ok-take_string.ensures)
