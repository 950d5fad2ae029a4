use Rattle.std.proofs.Common.{◌≡◌, true, sym, ap, ◌∙◌}
use Rattle.ct_keep.specs.Content.{begins_with}
use Rattle.ct_keep.specs.laws.Tail.{prefix_and_rest}
use Rattle.ct_keep.proofs.scans.step_under.Goals as goal

pub returns-clause-last : goal.returns-clause-last
returns-clause-last g c =
    let begins : begins_with c.args.prefix.now c.in-Some.key.items ≡ true = sym (c.begins.ensures.value ∙ ap (begins_with c.args.prefix.now) c.deref-2.ensures.value) ∙ c.if-not-begins.false in
    rw (c.in_ok-rest.ensures, c.deref-3.ensures.value) (sym (prefix_and_rest c.args.prefix.now c.in-Some.key.items begins))
