use Rattle.std.proofs.Common.{rules, ap, ◌≡◌, []}
use Rattle.pg_plan.specs.Drafts.{Drafted}
use Rattle.pg_plan.proofs.Stepping.{no_new_grown, takes_added}
use Rattle.pg_plan.proofs.plans.free_page.Goals as goal

pub returns-clause-takes : goal.returns-clause-takes
returns-clause-takes c =
    let none : c.args.hints.now.free.now ≡ [] = search rules in
    takes_added c.args.draft.now c.grow.new.self c.args.hints.now.free.now c.requires.listed none c.in-Ok.ensures.ok

pub returns-clause-keys : goal.returns-clause-keys
returns-clause-keys c = no_new_grown c.args.draft.now.now c.grow.new.self.now (ap (λ (d : Drafted). d.now) c.in-Ok.ensures.ok)
