use Rattle.std.proofs.Common.{◌≡◌, List, length, map, drop, sym, ap, subst, rules, arith}
use Rattle.std.proofs.lemmas.List.{length-drop}
use Rattle.ct_base.specs.declared.numbers.RowKey.{RowKey}
use Rattle.ct_keep.specs.laws.Composing.{reads_none, reads_on, reads_hold}
use Rattle.ct_entry.specs.Each.{numbered}
use Rattle.ix_context.specs.Gathering.{IndexRowsView, with_texts}
use Rattle.ix_context.specs.GatheredRows.{AreGathered}
use Rattle.ix_context.specs.Indexes.{target_text}
use Rattle.ix_context.specs.laws.GatheredRows.{none_gathered}
use Rattle.ix_context.proofs.PortionSteps.{portion_gathered}
use Rattle.ix_context.proofs.texts.gather_texts.Goals as goal

pub loop-rest-init : goal.loop-rest-init
loop-rest-init g c = record {
  reads = reads_none _ c.requires.ready;
  place = omega arith;
  gathers = λ m ts holds told.
      ap (λ (h : IndexRowsView). with_texts c.args.prefs.now (target_text ts c.args.target.now) h (numbered c.args.first (map (λ (r : RowKey). r.0) c.args.rows.now))) c.new-gathered.ensures;
  grown = subst AreGathered (sym c.new-gathered.ensures) none_gathered;
}

pub loop-rest-preserved : goal.loop-rest-preserved
loop-rest-preserved g c =
    let some = c.in_ok-count.ensures.some in
    let later : c.split_at.result.1.now ≡ drop c.in_ok-count.count c.loop-rest.rest.now = search rules in
    record {
      reads = reads_on _ _ _ _ c.loop-rest.invariant.reads c.in_ok-count.ensures.reads;
      place =
          let place = c.loop-rest.invariant.place in
          let long = ap (λ (l : List RowKey). length l) later in
          let cut = length-drop c.in_ok-count.count c.loop-rest.rest.now in
          let within = some.within in
          omega (arith, place, long, cut, within);
      gathers = λ m ts holds told.
          portion_gathered c.args.prefs.now (target_text ts c.args.target.now) _ c.loop-rest.gathered c.gather_next.new.gathered c.loop-rest.document c.in_ok-count.count c.loop-rest.rest.now c.split_at.result.1.now
          (c.loop-rest.invariant.gathers m ts holds told) some later (c.in_ok-count.ensures.gathers m ts (reads_hold _ _ m c.loop-rest.invariant.reads holds) told);
      grown = c.in_ok-count.ensures.grown c.loop-rest.invariant.grown;
    }
