use Rattle.std.proofs.Common.{sym, ap, subst, ◌∙◌}
use Rattle.ct_keep.specs.laws.Composing.{reads_none, reads_on}
use Rattle.cat_walk.specs.Places.{has_place}
use Rattle.cat_walk.specs.Walks.{Both, Without, route_of, stops_at}
use Rattle.cat_walk.proofs.Steps.{nowhere_yet, HoldsNowhere}
use Rattle.cat_walk.proofs.Parts.{first_ends, first_stops, first_passes, second_ends, second_stops, second_passes, without_ends, without_stops, without_passes}
use Rattle.cat_walk.specs.laws.Sparing.{spares_none, spares_on}
use Rattle.cat_walk.proofs.Arms.{arm_next, both_route, next_here, test_here, without_route, word_next, word_route}
use Rattle.cat_walk.proofs.stepping.+next.Goals as goal

-- ---- both stop

pub next_of_both-returns-in_default-clause-next : goal.next_of_both-returns-in_default-clause-next
next_of_both-returns-in_default-clause-next g t c = λ m told.
    let has = has_place m c.args.stem.now in
    let found = c.in_ok-here.ensures.next m (c.steps.invariant.reads.content ∙ told) in
    first_ends has (route_of c.args.a.now) (route_of c.args.b.now) c.args.after.now c.steps.last.items (c.steps.invariant.nowhere m told)
    (next_here (stops_at has (route_of c.args.a.now)) _ _ _ _ c.deref.ensures.value c.in_default.is found)

pub next_of_both-returns-then-branch-clause-next : goal.next_of_both-returns-then-branch-clause-next
next_of_both-returns-then-branch-clause-next g t c = λ m told.
    let has = has_place m c.args.stem.now in
    let before = c.steps.invariant.reads.content ∙ told in
    let found = c.in_ok-here.ensures.next m before in
    let test = c.in_ok-stops_at.ensures.stops m (c.in_ok-here.ensures.reads.content ∙ before) in
    first_stops has (route_of c.args.a.now) (route_of c.args.b.now) c.args.after.now c.steps.last.items c.in-Some.here.items (c.steps.invariant.nowhere m told)
    (next_here (stops_at has (route_of c.args.a.now)) _ _ _ _ c.deref.ensures.value c.in-Some.is found)
    (test_here (stops_at has (route_of c.args.b.now)) _ _ _ _ c.deref-in-steps.ensures.value c.if-branch.true test)

pub next_of_both-returns-in_default-2-clause-next : goal.next_of_both-returns-in_default-2-clause-next
next_of_both-returns-in_default-2-clause-next g t c = λ m told.
    let has = has_place m c.args.stem.now in
    let before = c.steps.invariant.reads.content ∙ told in
    let found = c.in_ok-here.ensures.next m before in
    let behind = c.in_ok-here.ensures.reads.content ∙ before in
    let test = c.in_ok-stops_at.ensures.stops m behind in
    let later = c.in_ok-there.ensures.next m (c.in_ok-stops_at.ensures.reads.content ∙ behind) in
    let passed = first_passes has (route_of c.args.a.now) (route_of c.args.b.now) c.args.after.now c.steps.last.items c.in-Some.here.items (c.steps.invariant.nowhere m told)
    (next_here (stops_at has (route_of c.args.a.now)) _ _ _ _ c.deref.ensures.value c.in-Some.is found)
    (test_here (stops_at has (route_of c.args.b.now)) _ _ _ _ c.deref-in-steps.ensures.value c.if-branch.false test) in
    second_ends has (route_of c.args.a.now) (route_of c.args.b.now) c.args.after.now c.in-Some.here.items passed
    (next_here (stops_at has (route_of c.args.b.now)) _ _ _ _ c.deref-in-steps-2.ensures.value c.in_default-2.is later)

pub next_of_both-returns-then-branch-2-clause-next : goal.next_of_both-returns-then-branch-2-clause-next
next_of_both-returns-then-branch-2-clause-next g t c = λ m told.
    let has = has_place m c.args.stem.now in
    let before = c.steps.invariant.reads.content ∙ told in
    let found = c.in_ok-here.ensures.next m before in
    let behind = c.in_ok-here.ensures.reads.content ∙ before in
    let test = c.in_ok-stops_at.ensures.stops m behind in
    let tested = c.in_ok-stops_at.ensures.reads.content ∙ behind in
    let later = c.in_ok-there.ensures.next m tested in
    let last_test = c.in_ok-stops_at-2.ensures.stops m (c.in_ok-there.ensures.reads.content ∙ tested) in
    let passed = first_passes has (route_of c.args.a.now) (route_of c.args.b.now) c.args.after.now c.steps.last.items c.in-Some.here.items (c.steps.invariant.nowhere m told)
    (next_here (stops_at has (route_of c.args.a.now)) _ _ _ _ c.deref.ensures.value c.in-Some.is found)
    (test_here (stops_at has (route_of c.args.b.now)) _ _ _ _ c.deref-in-steps.ensures.value c.if-branch.false test) in
    second_stops has (route_of c.args.a.now) (route_of c.args.b.now) c.args.after.now c.in-Some.here.items c.in-Some-2.there.items passed
    (next_here (stops_at has (route_of c.args.b.now)) _ _ _ _ c.deref-in-steps-2.ensures.value c.in-Some-2.is later)
    (test_here (stops_at has (route_of c.args.a.now)) _ _ _ _ c.deref-in-steps-3.ensures.value c.if-branch-2.true last_test)

pub next_of_both-steps-init : goal.next_of_both-steps-init
next_of_both-steps-init g t c = record {
  reads = reads_none _ c.requires.ready;
  spares = spares_none _ _;
  nowhere = λ m told.
      subst (λ p. HoldsNowhere (stops_at (has_place m c.args.stem.now) (Both (route_of c.args.a.now) (route_of c.args.b.now))) c.args.after.now p) (sym c.in_ok-last.ensures)
      (nowhere_yet _ c.args.after.now);
}

pub next_of_both-steps-preserved : goal.next_of_both-steps-preserved
next_of_both-steps-preserved g t c = record {
  reads = reads_on _ _ _ _ (reads_on _ _ _ _ (reads_on _ _ _ _ (reads_on _ _ _ _ c.steps.invariant.reads c.in_ok-here.ensures.reads) c.in_ok-stops_at.ensures.reads) c.in_ok-there.ensures.reads) c.in_ok-stops_at-2.ensures.reads;
  spares =
      let here = reads_on _ _ _ _ c.steps.invariant.reads c.in_ok-here.ensures.reads in
      let tested = reads_on _ _ _ _ here c.in_ok-stops_at.ensures.reads in
      let there = reads_on _ _ _ _ tested c.in_ok-there.ensures.reads in
      spares_on _ _ _ _ there (spares_on _ _ _ _ tested (spares_on _ _ _ _ here (spares_on _ _ _ _ c.steps.invariant.reads c.steps.invariant.spares c.in_ok-here.ensures.spares) c.in_ok-stops_at.ensures.spares) c.in_ok-there.ensures.spares) c.in_ok-stops_at-2.ensures.spares;
  nowhere = λ m told.
      let has = has_place m c.args.stem.now in
      let before = c.steps.invariant.reads.content ∙ told in
      let found = c.in_ok-here.ensures.next m before in
      let behind = c.in_ok-here.ensures.reads.content ∙ before in
      let test = c.in_ok-stops_at.ensures.stops m behind in
      let tested = c.in_ok-stops_at.ensures.reads.content ∙ behind in
      let later = c.in_ok-there.ensures.next m tested in
      let last_test = c.in_ok-stops_at-2.ensures.stops m (c.in_ok-there.ensures.reads.content ∙ tested) in
      let passed = first_passes has (route_of c.args.a.now) (route_of c.args.b.now) c.args.after.now c.steps.last.items c.in-Some.here.items (c.steps.invariant.nowhere m told)
      (next_here (stops_at has (route_of c.args.a.now)) _ _ _ _ c.deref.ensures.value c.in-Some.is found)
      (test_here (stops_at has (route_of c.args.b.now)) _ _ _ _ c.deref-in-steps.ensures.value c.if-branch.false test) in
      second_passes has (route_of c.args.a.now) (route_of c.args.b.now) c.args.after.now c.in-Some.here.items c.in-Some-2.there.items passed
      (next_here (stops_at has (route_of c.args.b.now)) _ _ _ _ c.deref-in-steps-2.ensures.value c.in-Some-2.is later)
      (test_here (stops_at has (route_of c.args.a.now)) _ _ _ _ c.deref-in-steps-3.ensures.value c.if-branch-2.false last_test);
}

-- ---- the first stops, and not the second

pub next_without-returns-in_default-clause-next : goal.next_without-returns-in_default-clause-next
next_without-returns-in_default-clause-next g t c = λ m told.
    let has = has_place m c.args.stem.now in
    let found = c.in_ok-here.ensures.next m (c.steps.invariant.reads.content ∙ told) in
    without_ends has (route_of c.args.a.now) (route_of c.args.b.now) c.args.after.now c.steps.last.items (c.steps.invariant.nowhere m told)
    (next_here (stops_at has (route_of c.args.a.now)) _ _ _ _ c.deref.ensures.value c.in_default.is found)

pub next_without-returns-then-not-branch-clause-next : goal.next_without-returns-then-not-branch-clause-next
next_without-returns-then-not-branch-clause-next g t c = λ m told.
    let has = has_place m c.args.stem.now in
    let before = c.steps.invariant.reads.content ∙ told in
    let found = c.in_ok-here.ensures.next m before in
    let test = c.in_ok-stops_at.ensures.stops m (c.in_ok-here.ensures.reads.content ∙ before) in
    without_stops has (route_of c.args.a.now) (route_of c.args.b.now) c.args.after.now c.steps.last.items c.in-Some.here.items (c.steps.invariant.nowhere m told)
    (next_here (stops_at has (route_of c.args.a.now)) _ _ _ _ c.deref.ensures.value c.in-Some.is found)
    (test_here (stops_at has (route_of c.args.b.now)) _ _ _ _ c.deref-in-steps.ensures.value c.if-not-branch.true test)

pub next_without-steps-init : goal.next_without-steps-init
next_without-steps-init g t c = record {
  reads = reads_none _ c.requires.ready;
  spares = spares_none _ _;
  nowhere = λ m told.
      subst (λ p. HoldsNowhere (stops_at (has_place m c.args.stem.now) (Without (route_of c.args.a.now) (route_of c.args.b.now))) c.args.after.now p) (sym c.in_ok-last.ensures)
      (nowhere_yet _ c.args.after.now);
}

pub next_without-steps-preserved : goal.next_without-steps-preserved
next_without-steps-preserved g t c = record {
  reads = reads_on _ _ _ _ (reads_on _ _ _ _ c.steps.invariant.reads c.in_ok-here.ensures.reads) c.in_ok-stops_at.ensures.reads;
  spares =
      let here = reads_on _ _ _ _ c.steps.invariant.reads c.in_ok-here.ensures.reads in
      spares_on _ _ _ _ here (spares_on _ _ _ _ c.steps.invariant.reads c.steps.invariant.spares c.in_ok-here.ensures.spares) c.in_ok-stops_at.ensures.spares;
  nowhere = λ m told.
      let has = has_place m c.args.stem.now in
      let before = c.steps.invariant.reads.content ∙ told in
      let found = c.in_ok-here.ensures.next m before in
      let test = c.in_ok-stops_at.ensures.stops m (c.in_ok-here.ensures.reads.content ∙ before) in
      without_passes has (route_of c.args.a.now) (route_of c.args.b.now) c.args.after.now c.steps.last.items c.in-Some.here.items (c.steps.invariant.nowhere m told)
      (next_here (stops_at has (route_of c.args.a.now)) _ _ _ _ c.deref.ensures.value c.in-Some.is found)
      (test_here (stops_at has (route_of c.args.b.now)) _ _ _ _ c.deref-in-steps.ensures.value c.if-not-branch.false test);
}

-- ---- the arms

pub next_place-returns-in-Word-clause-next : goal.next_place-returns-in-Word-clause-next
next_place-returns-in-Word-clause-next g t c = λ m told.
    word_next (has_place m c.args.stem.now) c.args.after.now _ _ c.next_of_word.result (word_route _ _ _ (ap route_of c.in-Word.is) c.as_slice.ensures) (c.next_of_word.ensures.next m told)

pub next_place-returns-in-Both-clause-next : goal.next_place-returns-in-Both-clause-next
next_place-returns-in-Both-clause-next g t c = λ m told.
    arm_next (has_place m c.args.stem.now) c.args.after.now _ _ c.next_of_both.result
    (both_route _ c.in-Both.a.value c.in-Both.b.value _ _ (ap route_of c.in-Both.is) c.deref.ensures c.deref-in-Both.ensures) (c.next_of_both.ensures.next m told)

pub next_place-returns-in-Without-clause-next : goal.next_place-returns-in-Without-clause-next
next_place-returns-in-Without-clause-next g t c = λ m told.
    arm_next (has_place m c.args.stem.now) c.args.after.now _ _ c.next_without.result
    (without_route _ c.in-Without.a.value c.in-Without.b.value _ _ (ap route_of c.in-Without.is) c.deref-in-Without.ensures c.deref-in-Without-2.ensures) (c.next_without.ensures.next m told)
