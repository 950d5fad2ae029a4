use Rattle.std.proofs.Common.{ap}
use Rattle.std.proofs.lemmas.Result.{on_ok_weaker}
use Rattle.pg_plan.specs.Drafts.{Drafted}
use Rattle.pg_plan.specs.laws.Touched.{touches_more}
use Rattle.pg_plan.specs.laws.Away.{notes_more}
use Rattle.pg_plan.proofs.drafts.Draft.put.Goals as goal

pub returns-clause-notes : goal.returns-clause-notes
returns-clause-notes c = on_ok_weaker c.set.result (λ new. notes_more c.args.self.now.touched c.set.new.self.touched c.args.at (ap (λ (d : Drafted). d.touched) new)) c.set.ensures.ok

pub returns-clause-touched : goal.returns-clause-touched
returns-clause-touched c = on_ok_weaker c.set.result (λ is. touches_more c.args.self.now.touched c.set.new.self.touched c.args.at (ap (λ (d : Drafted). d.touched) is)) c.set.ensures.ok
