use Rattle.std.proofs.lemmas.Result.{IfOk-weaker}
use Rattle.tx_prefs.proofs.copying.group_meant.Goals as goal

pub returns-in-Some-clause-group : goal.returns-in-Some-clause-group
returns-in-Some-clause-group g c = λ m told. IfOk-weaker c.section_group.result _ _ (λ x is ps holds. rw c.in-Some.is (is ps holds)) (c.section_group.ensures.group m told)
