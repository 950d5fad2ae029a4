use Rattle.std.proofs.Common.{List, ◌≤◌, ◌<◌, ◌++◌, length, append-nil, sym, ap, ◌∙◌, arith}
use Rattle.std.proofs.lemmas.List.{take_all}
use Rattle.pg_directory.specs.Pages.{Leaf}
use Rattle.pg_directory.specs.declared.entries.EntryAt.{EntryAt}
use Rattle.pg_directory.proofs.Namings.{one_named}
use Rattle.pg_directory.proofs.naming.put_named.Goals as goal

pub loop-i-init : goal.loop-i-init
loop-i-init c = λ es good is. sym (append-nil c.args.into.now.items)

pub loop-i-preserved : goal.loop-i-preserved
loop-i-preserved c = λ es good is.
    let less : c.loop-i.i < length es = omega (arith, c.loop-i-test.true, c.count_in-i-end.ensures.count (Leaf es) good is) in
    one_named es c.loop-i.i c.named_at.result c.args.into.now.items c.loop-i.into.items c.push.new.self.items less (c.named_at.ensures (Leaf es) good is less) (c.loop-i.invariant es good is) c.in_ok-push.ensures.items

pub returns : goal.returns
returns c = λ es good is.
    let all : length es ≤ c.loop-i.i = omega (arith, c.loop-i.auto.i-end, c.loop-i-test.false, c.count_in-i-end.ensures.count (Leaf es) good is) in
    c.loop-i.invariant es good is ∙ ap (λ (l : List EntryAt). c.args.into.now.items ++ l) (take_all c.loop-i.i es all)
