use Rattle.std.proofs.Common.{◌≡◌, ◌+◌, ◌-◌, Some, None, Option, sym, ap, subst, ◌∙◌, arith}
use Rattle.std.specs.Prelude.{is_some}
use Rattle.ct_keep.specs.laws.Composing.{reads_none, reads_on, reads_hold}
use Rattle.ix_repack.specs.Putting.{IsIndexRow}
use Rattle.ix_repack.specs.laws.Putting.{adds_nothing, adds_then}
use Rattle.ix_repack.specs.declared.terms.Term.{Term}
use Rattle.ix_repack.specs.Terms.{next_stored, IsTermOrStart}
use Rattle.ix_repack.proofs.WalkSteps.{LeftOf, all_left, rows_of_term, next_is_term, next_proper, one_handled, none_next, all_handled}
use Rattle.ix_repack.proofs.repacking.repack_terms.Goals as goal

pub terms-init : goal.terms-init
terms-init g c = record {
  reads = reads_none _ c.requires;
  left = λ m holds only is rows has.
      let none : c.args.most ≡ c.args.most - 0 = omega arith in
      subst (LeftOf m c.args.mapped c.args.index.now rows c.args.batch.now c.args.place c.args.most c.args.batch.now c.args.place) none (all_left m c.args.mapped c.args.index.now rows c.args.batch.now c.args.place c.args.most is);
  puts = adds_nothing (IsIndexRow c.args.index.now) c.args.batch.now;
  proper = λ is. is;
}

pub terms-preserved : goal.terms-preserved
terms-preserved g c =
    let reads = reads_on _ _ _ _ c.terms.invariant.reads c.in_ok-term.ensures.reads in
    record {
      reads = reads_on (g.K.Keeper.view c.args.keeper.now) (g.K.Keeper.view c.next_stored.new.keeper) (g.K.Keeper.view c.repack_term.new.keeper) None reads c.in_ok-repack_term.ensures.reads;
      left = λ m holds only is rows has.
          let i = c.args.index.now in
          let before = c.terms.invariant.left m holds only is rows has in
          let next : next_stored i c.terms.last m ≡ Some c.in-Some.term = sym (c.in_ok-term.ensures.term m (reads_hold _ _ m c.terms.invariant.reads holds) (next_proper m c.args.mapped i rows only c.terms.last before.is)) ∙ c.in-Some.is in
          let behind = reads_hold (g.K.Keeper.view c.args.keeper.now) (g.K.Keeper.view c.next_stored.new.keeper) m reads holds in
          one_handled m c.args.mapped i rows only _ _ _ c.terms.batch c.repack_term.new.batch c.terms.last c.in-Some.term (c.args.most - c.terms.counter) (c.args.most - (c.terms.counter + 1)) (omega arith) before next
          (c.in_ok-repack_term.ensures.changes m behind rows (rows_of_term m i rows has c.in-Some.term (next_is_term m c.args.mapped i rows only c.terms.last before.is c.in-Some.term next)));
      puts = adds_then (IsIndexRow c.args.index.now) c.args.batch.now c.terms.batch c.repack_term.new.batch c.terms.invariant.puts c.in_ok-repack_term.ensures.puts;
      proper = λ is. subst IsTermOrStart c.in-Some.is c.in_ok-term.ensures.proper;
    }

pub repack_term-requires-clause-proper : goal.repack_term-requires-clause-proper
repack_term-requires-clause-proper g c = subst IsTermOrStart c.in-Some.is c.in_ok-term.ensures.proper

pub returns-in_default-clause-changes : goal.returns-in_default-clause-changes
returns-in_default-clause-changes g c = λ m holds only is rows has.
    let i = c.args.index.now in
    let before = c.terms.invariant.left m holds only is rows has in
    let next = sym (c.in_ok-term.ensures.term m (reads_hold _ _ m c.terms.invariant.reads holds) (next_proper m c.args.mapped i rows only c.terms.last before.is)) ∙ c.in_default.is in
    none_next m c.args.mapped i rows only c.args.batch.now c.args.place c.args.most c.terms.batch c.terms.last (c.args.most - c.terms.counter) before next

pub returns-clause-changes : goal.returns-clause-changes
returns-clause-changes g c = λ m holds only is rows has.
    let i = c.args.index.now in
    let before = c.terms.invariant.left m holds only is rows has in
    let next = c.in_ok-next.ensures.term m (reads_hold _ _ m c.terms.invariant.reads holds) (next_proper m c.args.mapped i rows only c.terms.last before.is) in
    let done = all_handled m c.args.mapped i rows only c.args.batch.now c.args.place c.args.most c.terms.batch c.terms.last (c.args.most - c.terms.counter) (omega arith) before in
    record { changes = done.changes; last = done.last; more = c.is_some-more.ensures ∙ ap (λ (o : Option Term). is_some o) next ∙ done.more }
