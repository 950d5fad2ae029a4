use Rattle.std.proofs.Common.{List, [], sym, subst}
use Rattle.ct_keep.specs.Looks.{no_looks}
use Rattle.ct_keep.specs.laws.Composing.{reads_on, reads_hold}
use Rattle.ct_keep.specs.laws.Looks.{rises_then}
use Rattle.ct_entry.specs.Keys.{at}
use Rattle.ct_entry.specs.Changes.{spell}
use Rattle.ct_entry.specs.Shapes.{AreShaped}
use Rattle.ct_entry.specs.laws.Shapes.{are_shaped-append}
use Rattle.ix_context.specs.Untidying.{AddsAsLong}
use Rattle.ix_indexes.specs.declared.loading.TableIndex.{TableIndex}
use Rattle.ix_indexes.specs.Noting.{AreNotedOf, all_untidying, noted_indexes}
use Rattle.ix_indexes.specs.Shapes.{HasIndexValue}
use Rattle.ix_indexes.proofs.UntidySteps.{light_so, long_both, next_put}
use Rattle.ix_indexes.proofs.untidying.untidy_notes.Goals as goal

pub each-preserved : goal.each-preserved
each-preserved g c =
    let is = c.in-Some.ensures.cases.0 in
    record {
      reads = reads_on _ _ _ _ c.each.invariant.reads c.in_ok-changes.ensures.reads;
      changes = λ m ts xs holds indexes noted.
          let before = c.each.invariant.changes m ts xs holds indexes noted in
          let here = subst (λ (l : List TableIndex). AreNotedOf xs (noted_indexes l)) is before.0 in (
            here.1,
            next_put (at m) xs (spell (all_untidying (at m) xs (noted_indexes c.args.indexes.now))) c.each.notes c.append.new.self c.in_ok-changes.changes c.each.rest.now c.in-Some.later.now c.in-Some.index.now is
                (c.in_ok-changes.ensures.changes m (reads_hold _ _ m c.each.invariant.reads holds) ts xs indexes here.0) c.in_ok-append.ensures.ok before.1,
          );
      as_long = λ m holds.
          subst (AddsAsLong (at m) []) (sym c.in_ok-append.ensures.ok)
          (long_both (at m) c.each.notes c.in_ok-changes.changes (c.each.invariant.as_long m holds) (c.in_ok-changes.ensures.as_long m (reads_hold _ _ m c.each.invariant.reads holds)));
      shaped = subst (AreShaped HasIndexValue) (sym c.in_ok-append.ensures.ok) (are_shaped-append HasIndexValue c.each.notes c.in_ok-changes.changes c.each.invariant.shaped c.in_ok-changes.ensures.shaped);
      at_most = rises_then no_looks no_looks _ _ _ c.each.invariant.at_most c.in_ok-changes.ensures.at_most;
    }

pub returns-clause-light : goal.returns-clause-light
returns-clause-light g c = λ m told. light_so m c.each.notes (c.each.invariant.as_long m told)
