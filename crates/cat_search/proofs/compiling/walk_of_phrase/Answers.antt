use Rattle.std.proofs.Common.{◌≡◌, ◌-◌, true, List, length, take, drop, sym, subst, ◌∙◌}
use Rattle.std.specs.List.{list_all}
use Rattle.ct_keep.specs.laws.Composing.{reads_on}
use Rattle.q_tree.specs.declared.flats.Slot.{Slot}
use Rattle.q_tree.specs.Soundness.{is_phrase, is_slot}
use Rattle.cat_walk.specs.Places.{has_place}
use Rattle.cat_walk.specs.laws.Sparing.{spares_on}
use Rattle.cat_search.specs.laws.Ruling.{firsts_pass}
use Rattle.cat_search.proofs.Compiled.{all_parts, later_slots, phrase_begins, phrase_on, with_first}
use Rattle.cat_search.proofs.compiling.walk_of_phrase.Goals as goal

pub slots-preserved : goal.slots-preserved
slots-preserved g c = record {
  sound = (all_parts is_slot c.in-Some.slot.now c.in-Some.others.now c.slots.rest.now c.in-Some.ensures.cases.0 c.slots.invariant.sound).1;
  reads = reads_on _ _ _ _ c.slots.invariant.reads c.in_ok-walk-2.ensures.reads;
  spares = spares_on _ _ _ _ c.slots.invariant.reads c.slots.invariant.spares c.in_ok-walk-2.ensures.spares;
  rise = c.in_ok-walk-2.ensures.rise;
  walk = λ m told place_of words are.
      phrase_on (has_place m c.args.stem.now) place_of words c.in-Some.slot.now c.slots.rest.now c.in-Some.others.now c.args.phrase.now _ _ c.in-Some.ensures.cases.0 (c.slots.invariant.walk m told place_of words are)
      (c.in_ok-walk-2.ensures.walk m (c.slots.invariant.reads.content ∙ told) place_of words are);
}

pub slots-init : goal.slots-init
slots-init g c =
    let later = take (length c.args.phrase.now - 1) (drop 1 c.args.phrase.now) in
    let is = with_first c.args.phrase.now c.first-item.result c.in-len1-up.len_at_least c.first-item.is in
    record {
      sound = subst (λ (l : List Slot). list_all is_slot l ≡ true) (sym c.walked-rest.ensures)
          (firsts_pass is_slot 15 later (later_slots c.first-item.result later (subst (λ (l : List Slot). is_phrase l ≡ true) is c.requires.phrase)));
      reads = c.in_ok-walk.ensures.reads;
      spares = c.in_ok-walk.ensures.spares;
      rise = c.in_ok-walk.ensures.rise;
      walk = λ m told place_of words are.
          phrase_begins (has_place m c.args.stem.now) place_of words c.first-item.result later c.walked-rest.result.now c.args.phrase.now _ is c.walked-rest.ensures (c.in_ok-walk.ensures.walk m told place_of words are);
    }
