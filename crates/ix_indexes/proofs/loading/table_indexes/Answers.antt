use Rattle.std.proofs.Common.{map, subst, sym}
use Rattle.ct_keep.specs.laws.Composing.{reads_on, reads_hold}
use Rattle.ix_indexes.specs.Loading.{AreHeadsOf}
use Rattle.ix_indexes.specs.Noting.{AllCanTell, noted_named}
use Rattle.ix_indexes.proofs.LoadSteps.{next_index, more_can}
use Rattle.ix_indexes.proofs.loading.table_indexes.Goals as goal

pub each-preserved : goal.each-preserved
each-preserved g c = record {
  reads = reads_on _ _ _ _ c.each.invariant.reads c.in_ok-index.ensures.reads;
  indexes = λ m ts xs told hold are.
      let before = c.each.invariant.indexes m ts xs told hold are in
      let here = subst (AreHeadsOf ts xs c.args.columns.now) c.in-Some.ensures.cases.0 before.0 in (
        here.1,
        next_index xs (noted_named xs (map (λ h. h.0) c.args.heads.now)) c.each.rest.now c.in-Some.later.now c.in-Some.head.now c.each.found.items c.add_index.new.found.items c.in_ok-index.index c.in-Some.ensures.cases.0
            (c.in_ok-index.ensures.noted m ts xs (reads_hold _ _ m c.each.invariant.reads told) hold here.0) c.in_ok-add_index.ensures before.1,
      );
  can_tell = subst AllCanTell (sym c.in_ok-add_index.ensures) (more_can c.each.found.items c.in_ok-index.index c.each.invariant.can_tell c.in_ok-index.ensures.can_tell);
}
