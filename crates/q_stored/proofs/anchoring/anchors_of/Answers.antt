use Rattle.std.proofs.Common.{ap, ◌∙◌}
use Rattle.std.proofs.lemmas.Result.{IfOk-weaker}
use Rattle.q_tree.specs.ReducedQueries.{reduced_of}
use Rattle.q_stored.specs.Anchoring.{are_anchor_keys}
use Rattle.q_stored.specs.laws.Anchors.{anchors_are_keys}
use Rattle.q_stored.proofs.anchoring.anchors_of.Goals as goal

pub returns-clause-keys : goal.returns-clause-keys
returns-clause-keys c = IfOk-weaker c.part_anchors.result _ _ (λ found e. ap are_anchor_keys e ∙ anchors_are_keys (reduced_of c.args.query.now) c.requires.sound) c.part_anchors.ensures
