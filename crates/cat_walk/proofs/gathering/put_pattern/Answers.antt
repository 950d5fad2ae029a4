use Rattle.std.proofs.Common.{◌≡◌, ◌++◌, ℕ, List, ap, subst, ◌∙◌, arith}
use Rattle.std.specs.Str.{IsUtf8}
use Rattle.ct_keep.specs.laws.Composing.{reads_on, reads_hold}
use Rattle.q_match.specs.Literals.{leading_literal}
use Rattle.cat_walk.specs.Scanned.{length_places}
use Rattle.cat_walk.specs.laws.Sparing.{spares_on}
use Rattle.cat_walk.proofs.Lengths.{lengths_end, lengths_on}
use Rattle.cat_walk.proofs.GatheredPlaces.{pattern_adds}
use Rattle.cat_walk.proofs.gathering.put_pattern.Goals as goal

pub loop-size-preserved : goal.loop-size-preserved
loop-size-preserved g c =
    let p = c.args.pattern.now in
    let n = c.loop-size.size in
    let literal : c.as_bytes-bytes.result.now ≡ leading_literal p = c.as_bytes-bytes.ensures.value ∙ c.leading_literal-literal.ensures in
    record {
      reads = reads_on _ _ _ _ c.loop-size.invariant.reads c.in_ok-put_size.ensures.reads;
      spares = spares_on _ _ _ _ c.loop-size.invariant.reads c.loop-size.invariant.spares c.in_ok-put_size.ensures.spares;
      long = let long = c.loop-size.invariant.long in omega (arith, long);
      so_far = λ m told.
          lengths_on m c.args.stem.now p n c.loop-size.places.items c.put_size.new.places.items _ (omega (arith, c.loop-size-test.true))
          (c.in_ok-put_size.ensures.places m (reads_hold _ _ m c.loop-size.invariant.reads told) ∙ ap (λ (l : List ℕ). c.loop-size.places.items ++ length_places m c.args.stem.now p l n) literal)
          (c.loop-size.invariant.so_far m told);
    }

pub returns-clause-places : goal.returns-clause-places
returns-clause-places g c = λ m told.
    pattern_adds m c.args.stem.now c.args.pattern.now c.leading_literal_law.ensures (subst IsUtf8 c.leading_literal-literal.ensures c.leading_literal-literal.utf8) c.args.places.now.items c.loop-size.places.items
    (lengths_end m c.args.stem.now c.args.pattern.now c.loop-size.size c.loop-size.places.items _ (omega (arith, c.loop-size-test.false)) (c.loop-size.invariant.so_far m told))
