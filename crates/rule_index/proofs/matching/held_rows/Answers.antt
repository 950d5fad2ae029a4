use Rattle.std.proofs.Common.{length, ap, arith}
use Rattle.ct_keep.specs.laws.Composing.{reads_on, reads_hold}
use Rattle.ct_entry.specs.Keys.{row_part}
use Rattle.q_tree.specs.Documents.{postings_of_entries}
use Rattle.ix_cursor.specs.Alone.{doc_entries}
use Rattle.rule_index.specs.Matching.{row_holds}
use Rattle.rule_index.specs.laws.Looks.{one_rule_more}
use Rattle.rule_index.proofs.MatchSteps.{held_end, held_next}
use Rattle.rule_index.proofs.matching.held_rows.Goals as goal

pub each-preserved : goal.each-preserved
each-preserved g c =
    let one = ap length c.in-Some.ensures.cases.0 in
    record {
      reads = reads_on _ _ _ _ c.each.invariant.reads c.in_ok-is_held.ensures.reads;
      held = λ m ts x holds told.
          held_next (row_holds x (postings_of_entries (doc_entries c.args.entries.now))) c.in-Some.row.now c.each.rest.now c.in-Some.later.now c.each.held.items c.put_if.new.rows.items c.in_ok-is_held.is_held _
          c.in-Some.ensures.cases.0 (c.in_ok-is_held.ensures.holds m ts x (reads_hold _ _ m c.each.invariant.reads holds) told) c.in_ok-put_if.ensures
          (c.each.invariant.held m ts x holds told);
      few = let few = c.each.invariant.few in omega (arith, one, few);
      looks = one_rule_more (length c.args.rows.now) (length c.each.rest.now) (length c.in-Some.later.now) c.args.index.now (row_part c.in-Some.row.now.0) _ _ _ (omega (arith, one)) c.each.invariant.few c.each.invariant.looks c.in_ok-is_held.ensures.at_most;
    }

pub returns-clause-rows : goal.returns-clause-rows
returns-clause-rows g c = λ m ts x holds told.
    held_end (row_holds x (postings_of_entries (doc_entries c.args.entries.now))) c.each.rest.now c.each.held.items _ (omega (arith, c.in_default.ensures.cases)) (c.each.invariant.held m ts x holds told)
