use Rattle.std.proofs.Common.{Some, sym, ap, ◌∙◌}
use Rattle.pg_page.specs.laws.Reading.{one_page}
use Rattle.pg_window.proofs.loading.slotted_of.Goals as goal

pub returns-in-Ok-clause-slotted : goal.returns-in-Ok-clause-slotted
returns-in-Ok-clause-slotted c = λ ss fits is. ap Some (one_page c.in-Ok.found ss c.in-Ok.ensures.page.0 fits (sym c.in-Ok.ensures.page.1 ∙ is))
