-- The plan of an UPDATE that has passed the checks.
use Rattle.std.proofs.Common.{◌≡◌, ℕ, ℤ, List, [], ◌++◌, length, Option, Some, None, sym, ap, subst, ◌∙◌}
use Rattle.std.specs.Prelude.{not, ◌||◌}
use Rattle.std.specs.List.{list_any, list_all, All}
use Rattle.std.specs.FinMap.{get}
use Rattle.std.proofs.lemmas.Bool.{or_parts as or_false}
use Rattle.ct_base.specs.laws.Bools.{not_false}
use Rattle.ct_keep.specs.Content.{Content, after}
use Rattle.ct_entry.specs.Changes.{spell}
use Rattle.st_parse.specs.declared.statements.Assign.{Assign}
use Rattle.st_parse.specs.declared.statements.Cond.{Cond}
use Rattle.tb_table.specs.declared.columns.Column.{Column}
use Rattle.tb_table.specs.Tables.{Table}
use Rattle.tb_table.specs.Rules.{others, HaveDistinctNames as AreApartColumns}
use Rattle.db_cond.specs.Faults.{UnknownName, WrongValues, ValueTooLong, OutOfRange}
use Rattle.db_cond.specs.Refused.{refusal_of}
use Rattle.db_cond.specs.declared.faults.Fault.{Fault}
use Rattle.db_rows.specs.Checking.{cond_columns, fit_columns, has_beyond, is_beyond_operand}
use Rattle.db_rows.specs.Meeting.{meeting_keys}
use Rattle.db_state.specs.States.{StoreState, StandsForState}
use Rattle.db_state.specs.Columns.{first_unknown}
use Rattle.db_state.specs.Effects.{Effect, Refused, Does, with_found, Checks}
use Rattle.db_state.specs.laws.Chains.{passed}
use Rattle.db_state.specs.Entries.{Becomes}
use Rattle.db_state.specs.Plans.{IsPlan}
use Rattle.db_state.specs.laws.Serving.{plan_does}
use Rattle.db_state.specs.declared.plans.Plan.TheVariants.{Done}
use Rattle.db_change.specs.Inserting.{is_of_sort, is_too_long}
use Rattle.ix_indexes.specs.Noting.{Noted, noted_named}
use Rattle.db_change.specs.Updating.{assign_columns, sets_key, has_twice, of_its_sort, places_set, check_update, with_updates, rows_updated, update_rows, update, indexes_set, all_update_changes, IsKeptAssign, UpdatesTable}
use Rattle.db_change.specs.laws.SetValues.{SetFits, others_fit_set}
use Rattle.db_change.specs.laws.SetIndexes.{named_on_columns, names_set, noted_on_columns}
use Rattle.db_change.specs.laws.ChangedRows.{changed_rows_become}
use Rattle.db_change.specs.laws.MetRows.{met_apart, met_there}
use Rattle.db_change.proofs.AssignSteps.{set_values_fit}
use Rattle.db_change.proofs.InsertSteps.{refuse_by_passed}

-- ---- the checks

-- what is set in the columns of a table fits them
checked_fits : (m : StoreState) (columns : List Column) (assigns : List Assign) (conds : List Cond) → AreApartColumns columns
    → ((done : Effect) → check_update columns assigns conds done ≡ done) → All IsKeptAssign assigns → SetFits assigns columns
checked_fits m columns assigns conds apart checks kept =
    let a = refuse_by_passed (first_unknown (assign_columns assigns ++ cond_columns conds) columns) UnknownName _ m (checks (Does m [])) in
    let b = passed (sets_key columns assigns || has_twice (assign_columns assigns) || not (list_all (of_its_sort is_of_sort columns) assigns) || not (fit_columns columns conds)) WrongValues _ m [] a.1 in
    let d = passed (list_any (of_its_sort is_too_long columns) assigns) ValueTooLong _ m [] b.1 in
    let e = passed (list_any (λ (a : Assign). is_beyond_operand a.value) assigns || has_beyond conds) OutOfRange _ m [] d.1 in
    let wrong = or_false (sets_key columns assigns || has_twice (assign_columns assigns)) (not (list_all (of_its_sort is_of_sort columns) assigns)) (or_false (sets_key columns assigns || has_twice (assign_columns assigns) || not (list_all (of_its_sort is_of_sort columns) assigns)) (not (fit_columns columns conds)) b.0).0 in
    let beyond = or_false (list_any (λ (a : Assign). is_beyond_operand a.value) assigns) (has_beyond conds) e.0 in
    set_values_fit columns assigns apart (not_false (list_all (of_its_sort is_of_sort columns) assigns) wrong.1) d.0 beyond.0 kept

-- ---- the plan

module _ (m : StoreState) (t : List ℕ) (assigns : List Assign) (conds : List Cond) where
  pub update_none : get m.tables t ≡ None → update m t assigns conds ≡ Refused (UnknownName t)
  update_none none = ap (λ (o : Option Table). with_found o (UnknownName t) (λ (x : Table). check_update x.columns assigns conds (update_rows m t x.columns assigns (meeting_keys x conds)))) none

  module _ (x : Table) (columns : List Column) (here : get m.tables t ≡ Some x) (columns_are : x.columns ≡ columns) where
    update_some : update m t assigns conds ≡ check_update columns assigns conds (update_rows m t x.columns assigns (meeting_keys x conds))
    update_some =
        ap (λ (o : Option Table). with_found o (UnknownName t) (λ (x : Table). check_update x.columns assigns conds (update_rows m t x.columns assigns (meeting_keys x conds)))) here
        ∙ ap (λ (cs : List Column). check_update cs assigns conds (update_rows m t x.columns assigns (meeting_keys x conds))) columns_are

    pub update_refused : (fault : Fault) → ((done : Effect) → Checks (Some fault) (check_update columns assigns conds done) done) → update m t assigns conds ≡ Refused (refusal_of fault)
    update_refused fault checks = update_some ∙ checks (update_rows m t x.columns assigns (meeting_keys x conds))

    pub update_made : (k : Content) → StandsForState k m → ((done : Effect) → check_update columns assigns conds done ≡ done)
        → All IsKeptAssign assigns → (rows : List ℤ) → rows ≡ meeting_keys x conds → (count : ℕ) → count ≡ length rows
        → (batch : List (List ℕ × Option (List ℕ))) → UpdatesTable k m t columns assigns rows batch → IsPlan (update m t assigns conds) (rows_updated count) k (Done batch)
    update_made k stands checks kept rows rows_are count counted batch batch_is =
        plan_does (update m t assigns conds) k (with_updates m t x.columns assigns (meeting_keys x conds)) (rows_updated count) batch
        (update_some ∙ checks (update_rows m t x.columns assigns (meeting_keys x conds)) ∙ ap (λ (n : ℕ). Does (with_updates m t x.columns assigns (meeting_keys x conds)) (rows_updated n)) (sym (counted ∙ ap (λ (rs : List ℤ). length rs) rows_are)))
        (subst (λ (ws : List (List ℕ × Option (List ℕ))). Becomes (with_updates m t x.columns assigns (meeting_keys x conds)) k (after ws k)) (sym whole)
        (changed_rows_become k m t x assigns names stands here fits (named_on_columns (places_set x.columns assigns) m.indexes t) (meeting_keys x conds) (met_apart x conds) (met_there m.tables t x conds here)))
      where
        names : List (List ℕ)
        names = names_set (places_set x.columns assigns) m.indexes t

        whole : batch ≡ spell (all_update_changes k m t (others x.columns) assigns (noted_named m.indexes names) (meeting_keys x conds))
        whole =
            batch_is
            ∙ ap (λ (rs : List ℤ). spell (all_update_changes k m t (others columns) assigns (indexes_set m t columns assigns) rs)) rows_are
            ∙ ap (λ (cs : List Column). spell (all_update_changes k m t (others cs) assigns (indexes_set m t cs assigns) (meeting_keys x conds))) (sym columns_are)
            ∙ ap (λ (es : List (List ℕ × Noted)). spell (all_update_changes k m t (others x.columns) assigns es (meeting_keys x conds))) (noted_on_columns (places_set x.columns assigns) m.indexes t)

        fits : SetFits assigns (others x.columns)
        fits =
            others_fit_set assigns x.columns
            (checked_fits m x.columns assigns conds (stands.state.tables.each t x here).columns.apart (subst (λ (cs : List Column). (done : Effect) → check_update cs assigns conds done ≡ done) (sym columns_are) checks) kept)
