use Rattle.std.specs.Prelude.{map}
use Rattle.std.proofs.Common.{◌≡◌, ◌+◌, ◌*◌, ◌<◌, [], ◌∷◌, ◌++◌, length, get_or, sym, ap, subst, ◌∙◌, arith}
use Rattle.std.proofs.lemmas.List.{map-append}
use Rattle.pg_directory.specs.Leaves.{LeafAt, leaf_at}
use Rattle.pg_directory.proofs.LeafBuilds.{ArePartBuilt, more_entries, leaf_built}
use Rattle.pg_directory.proofs.leaves.build_leaves.Goals as goal

pub loop-i-preserved : goal.loop-i-preserved
loop-i-preserved c =
    let more : 681 * c.loop-i.i < length c.args.places.now = more_entries (length c.args.places.now) c.loop-i.i (omega (arith, c.loop-i-test.true, c.leaves_for-i-end.ensures)) in
    let within : c.loop-i.i < length c.args.numbers.now = omega (arith, c.loop-i-test.true, c.leaves_for-i-end.ensures, c.requires.numbers) in
    let leaf : LeafAt = record { number = get_or c.args.numbers.now c.loop-i.i 0; entries = c.in_ok-entries.entries.items } in
    let e : map leaf_at c.push.new.self.items ≡ map leaf_at c.loop-i.leaves.items ++ leaf ∷ [] = ap (map leaf_at) c.in_ok-push.ensures.items ∙ map-append leaf_at c.loop-i.leaves.items _ in
    subst (ArePartBuilt c.args.places.now c.args.numbers.now (c.loop-i.i + 1)) (sym e)
    (leaf_built c.args.places.now c.args.numbers.now c.loop-i.i (map leaf_at c.loop-i.leaves.items) c.in_ok-entries.entries.items within more c.in_ok-entries.ensures c.loop-i.invariant)
