use Rattle.std.proofs.Common.{get_or, refl, subst, arith}
use Rattle.std.proofs.lemmas.List.{take_all}
use Rattle.ct_site.specs.laws.Calls.{same_then}
use Rattle.ct_keep.specs.Changes.{IsWell}
use Rattle.pg_map.specs.Kinds.{Each}
use Rattle.pg_directory.specs.Listing.{entry_at}
use Rattle.pg_directory.specs.Pages.{no_entry}
use Rattle.pg_directory.specs.declared.entries.EntryAt.{EntryAt}
use Rattle.pg_directory.specs.Trees.{HasString}
use Rattle.pg_directory.specs.laws.Pages.{each_at}
use Rattle.pg_directory.proofs.DiskReads.{reads_none, reads_then}
use Rattle.pg_directory.proofs.PageReads.{holds_then, same_itself}
use Rattle.pg_directory.proofs.Surveys.{each_next, one_ill, all_well}
use Rattle.pg_directory.proofs.surveying.are_well.Goals as goal

pub loop-i-init : goal.loop-i-init
loop-i-init g c = record {
  cache = c.requires;
  same = same_itself _;
  reads = reads_none _;
  well = λ top pages m holds layout there. tt;
}

pub returns-then-not-well-clause-well : goal.returns-then-not-well-clause-well
returns-then-not-well-clause-well g c = λ top pages m holds layout there.
    let has = each_at (HasString pages) c.args.places.now c.loop-i.i no_entry there.strings c.loop-i-test.true in
    one_ill pages m holds.are layout (g.H.Shape.is_well c.args.shape.now) (get_or c.args.places.now c.loop-i.i no_entry) c.in-Ok.well has
    (c.in-Ok.ensures.well top pages m (holds_then _ _ _ _ pages c.loop-i.invariant.same holds) layout has) c.if-not-well.true

pub loop-i-preserved : goal.loop-i-preserved
loop-i-preserved g c = record {
  cache = c.is_entry_well.ensures.cache;
  same = same_then _ _ _ c.loop-i.invariant.same c.is_entry_well.ensures.same;
  reads = reads_then _ _ _ tt _ _ refl c.loop-i.invariant.reads c.in-Ok.ensures.reads;
  well = λ top pages m holds layout there.
      let has = each_at (HasString pages) c.args.places.now c.loop-i.i no_entry there.strings c.loop-i-test.true in
      let w = c.in-Ok.ensures.well top pages m (holds_then _ _ _ _ pages c.loop-i.invariant.same holds) layout has in
      each_next (λ (e : EntryAt). IsWell (g.H.Shape.is_well c.args.shape.now) (entry_at pages e).0 (entry_at pages e).1) c.args.places.now c.loop-i.i c.loop-i-test.true (c.loop-i.invariant.well top pages m holds layout there)
      (w.0 c.if-not-well.false);
}

pub returns-clause-well : goal.returns-clause-well
returns-clause-well g c = λ top pages m holds layout there.
    all_well pages m holds.are layout (g.H.Shape.is_well c.args.shape.now) c.args.places.now there
    (subst (Each (λ (e : EntryAt). IsWell (g.H.Shape.is_well c.args.shape.now) (entry_at pages e).0 (entry_at pages e).1)) (take_all c.loop-i.i c.args.places.now (omega (arith, c.loop-i-test.false))) (c.loop-i.invariant.well top pages m holds layout there))
