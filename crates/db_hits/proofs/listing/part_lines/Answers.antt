use Rattle.std.proofs.Common.{List, ℕ, map}
use Rattle.std.proofs.lemmas.List.Sorted.{IsPermutation-refl, IsPermutation-trans}
use Rattle.rs_result.specs.declared.descriptors.ResultPart.{ResultPart}
use Rattle.rs_result.specs.Comparing.{ranked}
use Rattle.db_hits.specs.Rows.{held_text}
use Rattle.db_hits.proofs.PrintLaws.{all_parts, good_at, one_part}
use Rattle.db_hits.proofs.listing.part_lines.Goals as goal

pub loop-part-init : goal.loop-part-init
loop-part-init c = record {
  moved = IsPermutation-refl _;
  lines = λ own. c.new-lines.ensures.items;
}

pub push_part-requires : goal.push_part-requires
push_part-requires c = good_at c.args.parts.now c.loop-part.part-index c.part-item.result c.loop-part-test.true c.part-item.is c.requires

pub loop-part-preserved : goal.loop-part-preserved
loop-part-preserved c = record {
  moved = IsPermutation-trans _ _ _ c.loop-part.invariant.moved c.in_ok-push_part.ensures.moved;
  lines = λ own.
      let f : ResultPart → List ℕ = held_text c.args.names.now (map ranked c.args.hits.items) in
      one_part f c.args.parts.now c.loop-part.part-index c.part-item.result c.loop-part.lines.items c.push_part.new.lines.items c.loop-part-test.true c.part-item.is
      (c.loop-part.invariant.lines own) (c.in_ok-push_part.ensures.lines c.args.hits.items own c.loop-part.invariant.moved);
}

pub returns : goal.returns
returns c = λ own.
    all_parts (held_text c.args.names.now (map ranked c.args.hits.items)) c.args.parts.now c.loop-part.part-index c.loop-part.lines.items c.loop-part-test.false (c.loop-part.invariant.lines own)
