use Rattle.std.proofs.Common.{List, [], ◌-◌, length, take, drop, refl, sym, ap, subst, ◌∙◌, arith}
use Rattle.std.proofs.lemmas.Bool.{eqb-true}
use Rattle.std.proofs.lemmas.List.{take_rest, drop-map, length-drop, length-map}
use Rattle.ct_site.specs.laws.Calls.{same_then}
use Rattle.pg_map.specs.Holding.{times}
use Rattle.pg_directory.specs.declared.entries.Child.{Child}
use Rattle.pg_directory.specs.declared.entries.EntryAt.{EntryAt}
use Rattle.pg_directory.specs.Levels.{leasts_of}
use Rattle.pg_leaves.specs.declared.edits.Edit.{Edit}
use Rattle.pg_leaves.specs.declared.parting.LeafNow.{LeafNow}
use Rattle.pg_leaves.specs.Editing.{KeyEdit, edits_of}
use Rattle.pg_leaves.specs.Relisting.{made_count, kept_pages, NamePlaces}
use Rattle.pg_leaves.proofs.Calls.{holds_still, same_yet, reads_yet, reads_on}
use Rattle.pg_leaves.proofs.Steps.{ArePagesSoFar, IsSoFar, so_far_next, so_far_all, pages_next, pages_all, gone_next, made_next, made_all}
use Rattle.pg_leaves.proofs.relisting.relist.Goals as goal

pub loop-leasts-init : goal.loop-leasts-init
loop-leasts-init g c = record {
  leasts = c.as_slice-leasts.ensures.value ∙ c.in-Ok.ensures;
  left = omega arith;
  few = omega (arith, c.new-now.ensures.len);
  gone = omega (arith, c.new-gone.ensures.len);
  made =
      let none = ap made_count c.new-now.ensures.items in
      omega (arith, none, c.new-gone.ensures.len);
  pages = λ i.
      let a = ap (λ (l : List LeafNow). times i (kept_pages l)) c.new-now.ensures.items in
      let b = ap (times i) c.new-gone.ensures.items in
      omega (arith, a, b);
  cache = c.requires;
  same = same_yet _;
  reads = reads_yet _;
  so_far = λ top pages es holds are strings rise rising. record {
    front = [];
    later = es;
    named = subst (λ (l : List LeafNow). NamePlaces pages l []) (sym c.new-now.ensures.items) refl;
    are = are;
    strings = strings;
    rise = rise;
    rising = rising;
    is = refl;
  };
}

pub loop-leasts-preserved : goal.loop-leasts-preserved
loop-leasts-preserved g c =
    let next = c.in-Ok-next_places.next in
    let rest = c.loop-leasts.rest.now in
    let later = c.loop-leasts.later.now in
    let inv = c.loop-leasts.invariant in
    let within = c.in-Ok-next_places.ensures.within in
    let leaves_left = take_rest rest next.end in
    let edits_left = take_rest later next.edits in
    let leaves_long = ap (λ (l : List Child). length l) leaves_left ∙ length-drop next.end rest in
    let edits_long = ap (λ (l : List Edit). length l) edits_left ∙ length-drop next.edits later in
    let count = c.in-Ok-put_next.ensures.few in
    let goes = gone_next rest next c.loop-leasts.now.items c.put_next.new.now.items c.loop-leasts.gone.items c.put_next.new.gone.items c.in-Ok-put_next.ensures.put within.end in
    let made = made_next rest next c.loop-leasts.now.items c.put_next.new.now.items c.loop-leasts.gone.items c.put_next.new.gone.items c.in-Ok-put_next.ensures.put within.kept within.end count in
    record {
      leasts = take_rest c.loop-leasts.leasts.now next.end ∙ ap (λ (l : List EntryAt). drop next.end l) inv.leasts ∙ drop-map (λ (x : Child). x.least) next.end rest ∙ ap (λ (l : List Child). leasts_of l) (sym leaves_left);
      left = omega (arith, edits_long, inv.left);
      few = omega (arith, leaves_long, edits_long, count, inv.few, within.end, within.edits);
      gone = omega (arith, edits_long, goes, inv.gone, within.one, within.some, within.edits);
      made = omega (arith, edits_long, goes, made, inv.made, within.edits);
      pages = subst (λ (l : List Child). ArePagesSoFar c.args.leaves.now c.put_next.new.now.items c.put_next.new.gone.items l) (sym leaves_left)
          (pages_next c.args.leaves.now rest next c.loop-leasts.now.items c.put_next.new.now.items c.loop-leasts.gone.items c.put_next.new.gone.items inv.pages within.kept c.in-Ok-put_next.ensures.put);
      cache = c.next_places.ensures.cache;
      same = same_then _ _ _ inv.same c.next_places.ensures.same;
      reads = reads_on _ _ _ tt _ tt inv.reads c.in-Ok-next_places.ensures.reads;
      so_far = λ top pages es holds are strings rise rising.
          let s = inv.so_far top pages es holds are strings rise rising in
          let p = c.in-Ok-next_places.ensures.next top pages s.later (holds_still _ _ _ _ pages inv.same holds) s.are s.strings s.rise s.rising in
          let us = edits_of c.args.edits.now in
          let new = c.put_next.new.now.items in
          subst (λ (l : List KeyEdit). IsSoFar pages es us new (take (length rest - next.end) (drop next.end rest)) l)
          (drop-map {Y = KeyEdit} (λ (u : Edit). (u.key.items, u.place)) next.edits later ∙ ap edits_of (sym edits_left))
          (subst (λ (l : List Child). IsSoFar pages es us new l (drop next.edits (edits_of later))) (sym leaves_left)
          (so_far_next pages es us c.loop-leasts.now.items new rest (edits_of later) next c.loop-leasts.gone.items c.put_next.new.gone.items s p c.in-Ok-put_next.ensures.put));
    }

pub returns-clause-leaves : goal.returns-clause-leaves
returns-clause-leaves g c = λ top pages es holds are strings rise rising. record {
  named =
      let none = length-map {B = KeyEdit} c.loop-leasts.later.now (λ (u : Edit). (u.key.items, u.place)) in
      let empty = eqb-true (length c.loop-leasts.later.now) 0 (sym c.is_empty.ensures ∙ c.loop-leasts-test.false) in
      so_far_all pages es (edits_of c.args.edits.now) c.loop-leasts.now.items c.put_kept.new.into.items c.loop-leasts.rest.now (edits_of c.loop-leasts.later.now) (c.loop-leasts.invariant.so_far top pages es holds are strings rise rising)
      (omega (arith, none, empty)) c.in-Ok-put_kept.ensures;
  pages_are = pages_all c.args.leaves.now c.loop-leasts.rest.now c.loop-leasts.now.items c.put_kept.new.into.items c.loop-leasts.gone.items c.loop-leasts.invariant.pages c.in-Ok-put_kept.ensures;
}

pub returns-clause-made : goal.returns-clause-made
returns-clause-made g c =
    let made = made_all c.loop-leasts.now.items c.put_kept.new.into.items c.loop-leasts.rest.now c.in-Ok-put_kept.ensures in
    omega (arith, made, c.loop-leasts.invariant.made)

pub returns-clause-pages : goal.returns-clause-pages
returns-clause-pages g c = pages_all c.args.leaves.now c.loop-leasts.rest.now c.loop-leasts.now.items c.put_kept.new.into.items c.loop-leasts.gone.items c.loop-leasts.invariant.pages c.in-Ok-put_kept.ensures
