use Rattle.std.specs.Prelude.{map}
use Rattle.std.proofs.Common.{◌≡◌, ◌+◌, ◌*◌, ◌<◌, [], ◌∷◌, ◌++◌, length, get_or, sym, ap, subst, ◌∙◌, arith}
use Rattle.std.proofs.lemmas.List.{map-append}
use Rattle.pg_directory.specs.Building.{Above, above_of}
use Rattle.pg_directory.proofs.Builds.{IsPartBuilt, more_to_name, one_built}
use Rattle.pg_directory.proofs.building.build_level.Goals as goal

pub loop-i-preserved : goal.loop-i-preserved
loop-i-preserved c =
    let more : 408 * c.loop-i.i < length c.args.below.now = more_to_name (length c.args.below.now) c.loop-i.i (omega (arith, c.loop-i-test.true, c.pages_above-i-end.ensures)) in
    let within : c.loop-i.i < length c.args.numbers.now = omega (arith, c.loop-i-test.true, c.pages_above-i-end.ensures, c.requires.numbers) in
    let page : Above = record { number = get_or c.args.numbers.now c.loop-i.i 0; level = c.args.level; children = c.in_ok-children.children.items } in
    let e : map above_of c.push.new.self.items ≡ map above_of c.loop-i.pages.items ++ page ∷ [] = ap (map above_of) c.in_ok-push.ensures.items ∙ map-append above_of c.loop-i.pages.items _ in
    subst (IsPartBuilt c.args.level c.args.below.now c.args.numbers.now (c.loop-i.i + 1)) (sym e)
    (one_built c.args.level c.args.below.now c.args.numbers.now c.loop-i.i (map above_of c.loop-i.pages.items) c.in_ok-children.children.items within more c.in_ok-children.ensures c.loop-i.invariant)
