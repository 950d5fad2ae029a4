use Rattle.pg_plan.proofs.Drafting.{sees_none}
use Rattle.pg_plan.proofs.Numbering.{no_fewer}
use Rattle.pg_plan.proofs.drafts.Draft.keep_shape.Goals as goal

pub returns-clause-sees : goal.returns-clause-sees
returns-clause-sees c = sees_none c.self.inside.sheets.items c.self.inside.notes.items c.self.inside.before c.args.self.now c.self.view_is

pub returns-clause-grown : goal.returns-clause-grown
returns-clause-grown c = no_fewer c.self.inside.sheets.items c.self.inside.notes.items c.self.inside.before c.args.self.now c.self.invariant c.self.view_is
