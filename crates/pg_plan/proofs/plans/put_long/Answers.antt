use Rattle.std.proofs.Common.{rules, arith, ap, refl, ◌∙◌, ◌+◌, ◌-◌, ◌%◌, ◌≤◌, ℕ, take, drop, length}
use Rattle.pg_plan.specs.laws.Away.{stays_same, stays_then}
use Rattle.pg_plan.proofs.Planning.{twice, puts_none, puts_more, puts_all}
use Rattle.pg_plan.proofs.Stepping.{lays_none, lays_more, lays_all, lays_failed, no_new_same, no_new_then}
use Rattle.pg_plan.proofs.plans.put_long.Goals as goal

pub loop-left-init : goal.loop-left-init
loop-left-init c = record {
  before = refl;
  puts = puts_none c.args.draft.now.now c.args.value.now (length c.args.value.now) refl;
  lays = lays_none c.args.draft.now (length c.args.value.now) (length c.args.value.now) refl;
  kept = refl;
  listed = c.requires.listed;
  keys = no_new_same c.args.draft.now.now;
  stays = stays_same c.args.draft.now c.args.draft.now refl;
}

pub loop-left-preserved : goal.loop-left-preserved
loop-left-preserved c =
    let some : 1 ≤ c.loop-left.left = omega (arith, c.loop-left-test.true) in
    record {
      before = c.put_page.ensures.before ∙ c.loop-left.invariant.before;
      puts = puts_more c.args.draft.now.now c.loop-left.draft.now c.put_page.new.draft.now c.args.value.now _ c.loop-left.first c.in_ok-first.first c.loop-left.left ((c.loop-left.left - 1) % 4088 + 1) c.loop-left.invariant.puts refl
          some (ap (λ (n : ℕ). take n (drop (c.loop-left.left - ((c.loop-left.left - 1) % 4088 + 1)) c.args.value.now)) (twice c.loop-left.left some)) (search rules) (λ m v chain. c.in_ok-first.ensures.laid m v chain);
      lays = lays_more c.args.draft.now c.loop-left.draft c.put_page.new.draft (length c.args.value.now) c.loop-left.left c.loop-left.invariant.lays c.put_page.ensures.takes some;
      kept = c.put_page.ensures.kept ∙ c.loop-left.invariant.kept;
      listed = search rules;
      keys = no_new_then c.args.draft.now.now c.loop-left.draft.now c.put_page.new.draft.now c.loop-left.invariant.keys c.put_page.ensures.keys;
      stays = stays_then c.args.draft.now c.loop-left.draft c.put_page.new.draft c.loop-left.invariant.stays c.in_ok-first.ensures.stays;
    }

pub returns-clause-laid : goal.returns-clause-laid
returns-clause-laid c = λ m done. puts_all c.args.draft.now.now c.loop-left.draft.now c.args.value.now c.loop-left.first c.loop-left.left m c.loop-left.invariant.puts (omega (arith, c.loop-left-test.false)) done

pub returns-clause-takes : goal.returns-clause-takes
returns-clause-takes c = lays_all c.args.draft.now c.loop-left.draft (length c.args.value.now) c.loop-left.left c.loop-left.invariant.lays

pub returns-clause-keys : goal.returns-clause-keys
returns-clause-keys c = c.loop-left.invariant.keys

pub returns-clause-stays : goal.returns-clause-stays
returns-clause-stays c = c.loop-left.invariant.stays

pub returns-in_err-first-clause-takes : goal.returns-in_err-first-clause-takes
returns-in_err-first-clause-takes c = lays_failed c.args.draft.now c.loop-left.draft c.put_page.new.draft (length c.args.value.now) c.loop-left.left c.loop-left.invariant.lays c.put_page.ensures.takes (omega (arith, c.loop-left-test.true))

pub returns-in_err-first-clause-keys : goal.returns-in_err-first-clause-keys
returns-in_err-first-clause-keys c = no_new_then c.args.draft.now.now c.loop-left.draft.now c.put_page.new.draft.now c.loop-left.invariant.keys c.put_page.ensures.keys
