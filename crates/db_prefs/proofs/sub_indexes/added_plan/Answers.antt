use Rattle.std.proofs.Common.{◌≡◌, ◌++◌, ◌∷◌, [], ℕ, List, sym, ap, ◌∙◌}
use Rattle.std.specs.Prelude.{not}
use Rattle.std.specs.List.{list_all}
use Rattle.ct_base.specs.Names.{is_kept}
use Rattle.ct_entry.specs.Changes.{spell}
use Rattle.tx_sets.specs.Sets.{are_sub_indexes}
use Rattle.tx_prefs.specs.Spelling.{set_changes}
use Rattle.db_cond.specs.Faults.{LimitReached}
use Rattle.db_state.specs.laws.Chains.{fails}
use Rattle.db_prefs.proofs.Plans.{sub_index_planned}
use Rattle.db_prefs.proofs.sub_indexes.added_plan.Goals as goal

pub returns-then-not-are_sub_indexes-clause-plan : goal.returns-then-not-are_sub_indexes-clause-plan
returns-then-not-are_sub_indexes-clause-plan c = λ m k stands there.
    let old = c.args.set.items in
    let columns = c.args.columns.items in
    let more : c.as_slice-all.result.now ≡ old ++ columns ∷ [] = c.as_slice-all.ensures.value ∙ c.in_ok-push.ensures.items ∙ ap (λ (t : List (List ℕ)). old ++ t ∷ []) c.of.ensures in
    fails (not (are_sub_indexes (old ++ columns ∷ []))) LimitReached _ (ap not (sym (ap are_sub_indexes more) ∙ sym c.are_sub_indexes.ensures ∙ c.if-not-are_sub_indexes.true))

pub returns-clause-plan : goal.returns-clause-plan
returns-clause-plan c = λ m k stands there.
    let old = c.args.set.items in
    let columns = c.args.columns.items in
    let more : c.as_slice-all.result.now ≡ old ++ columns ∷ [] = c.as_slice-all.ensures.value ∙ c.in_ok-push.ensures.items ∙ ap (λ (t : List (List ℕ)). old ++ t ∷ []) c.of.ensures in
    sub_index_planned k m c.args.name.now c.in_ok-batch.batch stands columns old there
    (sym (ap are_sub_indexes more) ∙ sym c.are_sub_indexes.ensures ∙ c.if-not-are_sub_indexes.false)
    (sym (ap (list_all (list_all is_kept)) more) ∙ c.keep_names.ensures)
    (c.in_ok-batch.ensures.changes ∙ ap (λ (s : List (List (List ℕ))). spell (set_changes c.args.name.now s)) more)
