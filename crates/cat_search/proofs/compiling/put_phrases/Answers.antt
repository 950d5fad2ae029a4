use Rattle.std.proofs.Common.{◌∷◌, List, sym, ap, ◌∙◌, arith}
use Rattle.ct_keep.specs.laws.Composing.{reads_none, reads_on}
use Rattle.q_tree.specs.declared.flats.Slot.{Slot}
use Rattle.q_tree.specs.Soundness.{is_phrase}
use Rattle.cat_walk.specs.laws.Sparing.{spares_none, spares_on}
use Rattle.cat_search.proofs.Compiled.{all_parts, phrases_end, phrases_on, term_parts}
use Rattle.cat_search.proofs.compiling.put_phrases.Goals as goal

pub phrases-init : goal.phrases-init
phrases-init g c = record { sound = term_parts c.args.phrases.now c.requires.term; reads = reads_none _ c.requires.ready; spares = spares_none _ _; adds = λ m told new adds. adds }

pub phrases-preserved : goal.phrases-preserved
phrases-preserved g c =
    let rest = c.phrases.rest.now in
    let others = c.in-Some.others.now in
    record {
      sound = (all_parts is_phrase c.in-Some.phrase.now others rest c.in-Some.ensures.cases.0 c.phrases.invariant.sound).1;
      reads = reads_on _ _ _ _ c.phrases.invariant.reads c.in_ok-put_phrase.ensures.reads;
      spares = spares_on _ _ _ _ c.phrases.invariant.reads c.phrases.invariant.spares c.in_ok-put_phrase.ensures.spares;
      adds = λ m told new adds.
          c.phrases.invariant.adds m told new
          (phrases_on m c.args.stem.now c.as_slice.result.now rest others c.phrases.places.items c.put_phrase.new.places.items new
          (c.in-Some.ensures.cases.0 ∙ ap (λ (p : List Slot). p ∷ others) (sym c.as_slice.ensures)) (c.in_ok-put_phrase.ensures.places m (c.phrases.invariant.reads.content ∙ told)) adds);
    }

pub returns-clause-places : goal.returns-clause-places
returns-clause-places g c = λ m told.
    c.phrases.invariant.adds m told c.phrases.places.items (phrases_end m c.args.stem.now c.phrases.rest.now c.phrases.places.items (omega (arith, c.in_default.ensures.cases)))
