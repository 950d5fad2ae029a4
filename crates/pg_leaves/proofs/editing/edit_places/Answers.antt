use Rattle.std.proofs.Common.{List, length, sym, ap, subst, arith}
use Rattle.std.proofs.lemmas.List.{take_rest, length-drop}
use Rattle.ct_site.specs.laws.Calls.{same_then}
use Rattle.pg_map.specs.Kinds.{Each}
use Rattle.pg_directory.specs.Trees.{HasString, Rise, key_at}
use Rattle.pg_directory.specs.declared.entries.EntryAt.{EntryAt}
use Rattle.pg_leaves.specs.Finding.{PutsEdit}
use Rattle.pg_leaves.proofs.Calls.{holds_still, reads_on}
use Rattle.pg_leaves.proofs.Findings.{each_dropped, rise_dropped}
use Rattle.pg_leaves.proofs.Gaps.{edit_step, edits_done}
use Rattle.pg_leaves.proofs.editing.edit_places.Goals as goal

pub loop-i-preserved : goal.loop-i-preserved
loop-i-preserved g c =
    let long = ap (λ (l : List EntryAt). length l) (take_rest c.args.places.now c.loop-i.done) in
    let left = length-drop c.loop-i.done c.args.places.now in
    let count = c.in-Ok.ensures.few in
    let most = c.in-Ok.ensures.within in
    let before = c.loop-i.invariant.few in
    let within = c.loop-i.invariant.within in
    record {
      within = omega (arith, long, left, most, within);
      few = omega (arith, long, left, most, within, count, before);
      cache = c.put_edit.ensures.cache;
      same = same_then _ _ _ c.loop-i.invariant.same c.put_edit.ensures.same;
      reads = reads_on _ _ _ tt _ tt c.loop-i.invariant.reads c.in-Ok.ensures.reads;
      edited = λ top pages holds strings rise.
          let u = c.index-edits-i.result in
          let rest = take_rest c.args.places.now c.loop-i.done in
          let put = c.in-Ok.ensures.put top pages (holds_still _ _ _ _ pages c.loop-i.invariant.same holds) (subst (Each (HasString pages)) (sym rest) (each_dropped (HasString pages) c.loop-i.done c.args.places.now strings))
          (subst (Rise (key_at pages)) (sym rest) (rise_dropped (key_at pages) c.loop-i.done c.args.places.now rise)) in
          edit_step pages c.args.places.now c.args.edits.now c.loop-i.done c.loop-i.i c.in-Ok.most u _ c.loop-i.all.items c.put_edit.new.into.items c.loop-i-test.true c.index-edits-i.is (c.loop-i.invariant.edited top pages holds strings rise)
          (subst (λ (l : List EntryAt). PutsEdit pages l u c.loop-i.all.items c.put_edit.new.into.items c.in-Ok.most) rest put);
    }

pub returns-clause-edited : goal.returns-clause-edited
returns-clause-edited g c = λ top pages holds strings rise.
    edits_done pages c.args.places.now c.args.edits.now c.loop-i.done c.loop-i.i _ c.loop-i.all.items c.extend_from_slice.new.self.items (omega (arith, c.loop-i-test.false)) (c.loop-i.invariant.edited top pages holds strings rise) c.in-Ok-extend_from_slice.ensures.items
