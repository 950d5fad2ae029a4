use Rattle.std.proofs.Common.{Some, ap, ◌∙◌}
use Rattle.std.specs.FinMap.{get}
use Rattle.std.specs.List.{list_all}
use Rattle.std.proofs.lemmas.Bool.{and_parts}
use Rattle.ct_base.specs.Names.{is_kept}
use Rattle.tx_sets.specs.Sets.{are_lists, are_sub_indexes, set_bytes}
use Rattle.tx_sets.specs.laws.Sets.{set_apart, sets_may_be_read}
use Rattle.tx_prefs.proofs.ReadSteps.{read_is}
use Rattle.tx_prefs.proofs.lookups.index_set.Goals as goal

pub returns-clause-set : goal.returns-clause-set
returns-clause-set g c = λ m told ps holds.
    read_is are_lists set_bytes set_apart _ _ (get ps.sets c.args.name.now) c.in_ok-set.ensures
    (ap Some c.deref.ensures.value ∙ (rw c.in-Some.is at (c.in_ok-value.ensures.value m told)) ∙ holds.stand.sets c.args.name.now)
    (λ x is. let p = and_parts (are_sub_indexes x) (list_all (list_all is_kept) x) (holds.rules.sets.each c.args.name.now x is) in sets_may_be_read x p.0 p.1)
