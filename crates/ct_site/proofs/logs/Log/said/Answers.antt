use Rattle.std.proofs.Common.{sym, ap, ◌∙◌}
use Rattle.ct_site.specs.Histories.{said_by}
use Rattle.ct_site.specs.Logs.{LogState, said_is}
use Rattle.ct_site.proofs.logs.Log.said.Goals as goal

pub returns : goal.returns
returns c = c.as_slice.ensures.value ∙ sym (said_is c.self.inside c.self.invariant) ∙ ap (λ (x : LogState). said_by x.changes) c.self.view_is
