use Rattle.std.proofs.Common.{◌++◌, ℕ, List, refl, sym, ap, ◌∙◌}
use Rattle.cat_walk.specs.Scanned.{is_word_of}
use Rattle.cat_walk.proofs.scanning.put_places_in.Goals as goal

pub loop-rest-init : goal.loop-rest-init
loop-rest-init c = record {
  tried = c.in_ok-last.ensures.has ∙ ap (λ (l : List ℕ). is_word_of c.args.pattern.now (c.args.literal.now ++ l)) (sym c.in_ok-last.ensures.more);
  so_far = refl;
}
