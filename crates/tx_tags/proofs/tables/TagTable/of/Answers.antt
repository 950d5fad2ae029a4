use Rattle.std.proofs.Common.{ap, length}
use Rattle.ct_base.specs.laws.Lists.{first_of}
use Rattle.tx_tags.proofs.TableSteps.{sections-count, sections-same}
use Rattle.tx_tags.proofs.tables.TagTable.of.Goals as goal

pub loop-rest-preserved : goal.loop-rest-preserved
loop-rest-preserved c =
    let split = first_of c.loop-rest.rest.now c.section-item.result c.in-len1-up.len_at_least c.section-item.is in
    let long = ap length c.as_slice.ensures in
    record {
      count = sections-count _ _ c.section-item.result c.loop-rest.number _ _ split long c.loop-rest.invariant.count;
      same = λ name. sections-same name _ _ c.section-item.result c.loop-rest.number _ _ _ _ split long (c.in_ok-put_section.ensures name) (c.loop-rest.invariant.same name);
    }
