use Rattle.std.proofs.Common.{ap, take, ◌∙◌, List}
use Rattle.pg_window.specs.declared.sheets.Sheet.{Sheet}
use Rattle.pg_plan.specs.Drafts.{Drafted, shown}
use Rattle.pg_plan.proofs.drafts.Draft.roll_back.Goals as goal

pub returns : goal.returns
returns c = ap shown c.truncate.ensures.items ∙ ap (λ (l : List Sheet). shown (take c.self.inside.before l)) c.undo.ensures ∙ ap (λ (d : Drafted). d.before) c.self.view_is
