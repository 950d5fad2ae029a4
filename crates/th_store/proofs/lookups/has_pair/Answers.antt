use Rattle.std.proofs.Common.{ℕ, List, ap, ◌∙◌}
use Rattle.std.specs.Prelude.{is_some}
use Rattle.std.proofs.lemmas.Result.{IfOk-weaker}
use Rattle.ct_entry.specs.declared.kinds.Kind.TheVariants as kind
use Rattle.ct_entry.specs.Keys.{at, key}
use Rattle.th_graph.specs.Pairs.{term_pair}
use Rattle.th_store.proofs.Scans.{pair_there}
use Rattle.th_store.proofs.lookups.has_pair.Goals as goal

pub returns-clause-there : goal.returns-clause-there
returns-clause-there g c = λ m told. IfOk-weaker c.has_entry.result _ _
    (λ there is ts holds ps has. is ∙ ap (λ (l : List ℕ). is_some (at m (key kind.Relations c.args.name.now l))) (c.deref.ensures.value ∙ c.in_ok-part.ensures) ∙ pair_there m ts holds c.args.name.now ps has (term_pair c.args.kind c.args.first.now c.args.second.now))
    (c.has_entry.ensures.value m told)
