use Rattle.std.proofs.lemmas.Result.{on_ok_weaker}
use Rattle.th_store.proofs.ShapeSteps.{thesaurus_shaped}
use Rattle.th_store.proofs.changes.create.Goals as goal

pub returns-clause-shaped : goal.returns-clause-shaped
returns-clause-shaped c = on_ok_weaker c.put_thesaurus.result (λ _. thesaurus_shaped c.args.name.now c.as_str-named.ensures.name) c.put_thesaurus.ensures.ok
