-- What is kept of a rule is put as well shaped entries.
use Rattle.std.specs.Prelude.{ℕ, ℤ, List, Option, Result, refl}
use Rattle.std.specs.Option.{option_map}
use Rattle.std.proofs.lemmas.Result.{on_ok_weaker}
use Rattle.ct_base.specs.Names.{IsName}
use Rattle.ct_entry.specs.Keys.{IsRow}
use Rattle.ct_entry.specs.Changes.{spell}
use Rattle.q_tree.specs.ReducedQueries.{reduced_of}
use Rattle.rule_index.specs.declared.outcomes.Kept.{Kept}
use Rattle.rule_index.specs.declared.outcomes.Kept.TheVariants.{Taken as KeptQuery, Faulty as KeptFault}
use Rattle.rule_index.specs.Kept.{IsKept, KeepsRules}
use Rattle.rule_index.specs.Outcomes.{Outcome, Taken, Faulty}
use Rattle.rule_index.specs.Changes.{Adds, outcome_changes}
use Rattle.rule_index.specs.Shapes.{KeepsShape}
use Rattle.rule_index.specs.laws.Shapes.{outcome_shaped, shaped_added}

pub kept_shaped : {T E : Type 0} (i : List ℕ) (r : ℤ) (k : Kept) → IsName i → IsRow r → KeepsRules k → (result : Result T E) (old new : List (List ℕ × Option (List ℕ)))
    → ((o : Outcome) → IsKept k o → Adds old new result (outcome_changes i r o)) → KeepsShape old new result
kept_shaped i r (KeptQuery query bytes) name row rules result old new adds =
    let o = Taken (option_map reduced_of query) in
    on_ok_weaker result (λ added. shaped_added old new (spell (outcome_changes i r o)) added (outcome_shaped i r o name row rules.rules)) (adds o (refl, rules))
kept_shaped i r (KeptFault text) name row rules result old new adds =
    on_ok_weaker result (λ added. shaped_added old new (spell (outcome_changes i r (Faulty text))) added (outcome_shaped i r (Faulty text) name row rules)) (adds (Faulty text) (refl, rules))
