use Rattle.std.proofs.Common.{rules, ◌≡◌, ◌<◌, length, get_or, ap, arith, length-append, List, [], ◌∷◌}
use Rattle.pg_window.specs.declared.sheets.Sheet.{Sheet}
use Rattle.pg_window.specs.declared.sheets.Sheet.TheVariants.{Free as FreeSheet, Away as AwaySheet}
use Rattle.pg_change.proofs.RestingSteps.{away_rests, free_rests}
use Rattle.pg_change.proofs.resting.resting_sheets.Goals as goal

pub loop-sheets-preserved-then-is_next : goal.loop-sheets-preserved-then-is_next
loop-sheets-preserved-then-is_next c =
    let next : (c.loop-sheets.next < length c.args.free.now) × (get_or c.args.free.now c.loop-sheets.next 0 ≡ length c.loop-sheets.sheets.items) = search rules in
    let grown = ap (λ (l : List Sheet). length l) c.in_ok-push.ensures.items in
    record {
      few = let t = c.loop-sheets-test.true in let a = length-append c.loop-sheets.sheets.items (FreeSheet ∷ []) in omega (arith, grown, a, t);
      passed = let n = next.0 in omega (arith, n);
      rests = free_rests c.loop-sheets.sheets.items c.push.new.self.items c.args.free.now c.loop-sheets.next c.in_ok-push.ensures.items next.0 next.1 c.loop-sheets.invariant.rests;
    }

pub loop-sheets-preserved : goal.loop-sheets-preserved
loop-sheets-preserved c =
    let grown = ap (λ (l : List Sheet). length l) c.in_ok-push-2.ensures.items in
    record {
      few = let t = c.loop-sheets-test.true in let a = length-append c.loop-sheets.sheets.items (AwaySheet ∷ []) in omega (arith, grown, a, t);
      passed = c.loop-sheets.invariant.passed;
      rests = away_rests c.loop-sheets.sheets.items c.push-else-is_next.new.self.items _ c.in_ok-push-2.ensures.items c.loop-sheets.invariant.rests;
    }
