use Rattle.std.proofs.Common.{List, ⊎_elim, length, ap, arith}
use Rattle.std.proofs.lemmas.Bool.{cases_lt}
use Rattle.std.proofs.lemmas.List.{take_rest, length-drop}
use Rattle.pg_directory.specs.declared.entries.EntryAt.{EntryAt}
use Rattle.pg_leaves.proofs.Makings.{making_more}
use Rattle.pg_leaves.proofs.parting.put_leaves.Goals as goal

pub loop-rest-preserved : goal.loop-rest-preserved
loop-rest-preserved c =
    let rest = c.loop-rest.rest.now in
    let count = c.first_count-count.ensures in
    let is = take_rest rest c.first_count-count.result in
    let long = ap (λ (l : List EntryAt). length l) is in
    let left = length-drop c.first_count-count.result rest in
    let one = c.in_ok-put_made.ensures.one in
    let inv = c.loop-rest.invariant in
    let had = inv.left (omega (arith, count.some, count.within)) in
    record {
      making = making_more _ c.loop-rest.into.items c.put_made.new.into.items c.args.places.now rest _ c.first_count-count.result inv.making c.in_ok-put_made.ensures.made is;
      few = omega (arith, long, left, one, inv.few, count.some, count.within);
      left = λ some. ⊎_elim (λ over. omega (arith, long, left, one, had, over, count.some, count.within)) (λ fits. let all = count.all fits in absurd (omega (arith, all, some, long, left))) (cases_lt 681 (length rest));
      fewer = omega (arith, one, had, inv.fewer);
    }
