-- The changes of rows that go, and what DELETE does with them.
use Rattle.std.proofs.Common.{◌≡◌, ℕ, ℤ, zero, suc, pos, ◌+◌, ◌<◌, ◌≤◌, true, List, [], ◌∷◌, ◌++◌, length, map, take, get_or, Option, Some, None, refl, sym, ap, subst, ◌∙◌, append-nil, inl, inr, arith}
use Rattle.std.specs.Prelude.{is_some}
use Rattle.std.specs.FinMap.{get}
use Rattle.std.proofs.lemmas.List.{take_more, take_all, map-append, length-map}
use Rattle.ct_base.specs.declared.numbers.RowKey.{RowKey}
use Rattle.ct_keep.specs.Content.{Content, after, weight}
use Rattle.ct_entry.specs.Keys.{Key}
use Rattle.ct_entry.specs.Each.{each}
use Rattle.ct_entry.specs.Lists.{IsIn}
use Rattle.ct_entry.specs.laws.Each.{each-append}
use Rattle.ct_entry.specs.Changes.{spell}
use Rattle.ct_entry.specs.laws.Changes.{spell-append}
use Rattle.ct_entry.specs.Shapes.{AreShaped}
use Rattle.ct_entry.specs.laws.Shapes.{are_shaped-append}
use Rattle.st_parse.specs.declared.statements.Cond.{Cond}
use Rattle.tb_table.specs.declared.columns.Column.{Column}
use Rattle.tb_table.specs.Tables.{Table, row_in}
use Rattle.tb_table.specs.Spelling.{delete_changes}
use Rattle.tb_table.specs.Shapes.{HasTableValue}
use Rattle.cat_index.specs.Sees.{AreThere}
use Rattle.ix_indexes.specs.Noting.{AllDrop}
use Rattle.ix_indexes.specs.laws.Dropping.{drop-append, drop_spelt}
use Rattle.ix_indexes.specs.Shapes.{HasIndexValue}
use Rattle.db_cond.specs.declared.faults.Fault.{Fault}
use Rattle.db_cond.specs.Faults.{UnknownName}
use Rattle.db_cond.specs.Refused.{refusal_of}
use Rattle.db_rows.specs.Checking.{check_conds}
use Rattle.db_rows.specs.Meeting.{meeting_keys}
use Rattle.db_state.specs.States.{StoreState, StandsForState}
use Rattle.db_state.specs.Effects.{Effect, Refused, Does, Checks, with_found}
use Rattle.db_state.specs.Shapes.{AreStoreChanges, HasStoreValue}
use Rattle.db_state.specs.Entries.{Becomes}
use Rattle.db_state.specs.Plans.{IsPlan}
use Rattle.db_state.specs.declared.plans.Plan.TheVariants.{Done}
use Rattle.db_state.specs.laws.Serving.{plan_does, removals_behind}
use Rattle.db_change.proofs.ShapeSteps.{row_and_notes, shaped_alone}
use Rattle.db_change.specs.Noting.{noted_on}
use Rattle.db_change.specs.Deleting.{TakesFromTable, all_gone_changes, delete_from, delete_rows, rows_deleted, without_rows}
use Rattle.db_change.specs.laws.MetRows.{met_apart, met_there}
use Rattle.db_change.specs.laws.GoneRows.{gone_rows_become, delete_drops, drops_weigh_nothing}

-- ---- the changes of each of several, one after the other

module _ {I J : Type 0} (changes : J → List (Key × Option (List ℕ))) (f : I → J) (es : List I) (i : ℕ) where
  spell-more : (e d : I) → i < length es → e ≡ get_or es i d → spell (each changes (map f (take (i + 1) es))) ≡ spell (each changes (map f (take i es))) ++ spell (changes (f e))
  spell-more e d less is =
      ap (λ (l : List I). spell (each changes (map f l))) (take_more es i d less)
      ∙ ap (λ (l : List J). spell (each changes l)) (map-append f (take i es) (get_or es i d ∷ []))
      ∙ ap spell (each-append changes (map f (take i es)) (f (get_or es i d) ∷ []))
      ∙ spell-append (each changes (map f (take i es))) (changes (f (get_or es i d)) ++ [])
      ∙ ap (λ (ws : List (Key × Option (List ℕ))). spell (each changes (map f (take i es))) ++ spell ws) (append-nil (changes (f (get_or es i d))))
      ∙ ap (λ (x : I). spell (each changes (map f (take i es))) ++ spell (changes (f x))) (sym is)

  -- one more
  pub each_more : (e d : I) (batch new : List (List ℕ × Option (List ℕ))) → i < length es → e ≡ get_or es i d
      → batch ≡ spell (each changes (map f (take i es))) → new ≡ batch ++ spell (changes (f e)) → new ≡ spell (each changes (map f (take (i + 1) es)))
  each_more e d batch new less is before added = added ∙ ap (λ (b : List (List ℕ × Option (List ℕ))). b ++ spell (changes (f e))) before ∙ sym (spell-more e d less is)

  -- all of them
  pub each_whole : (batch : List (List ℕ × Option (List ℕ))) → length es ≤ i → batch ≡ spell (each changes (map f (take i es))) → batch ≡ spell (each changes (map f es))
  each_whole batch past before = before ∙ ap (λ (l : List I). spell (each changes (map f l))) (take_all i es past)

-- those of a row, in a batch of their own and then in its table's
pub row_made : (a b : List (Key × Option (List ℕ))) (empty own notes new : List (List ℕ × Option (List ℕ))) → empty ≡ [] → own ≡ empty ++ spell a
    → notes ≡ spell b → new ≡ own ++ notes → new ≡ spell (a ++ b)
row_made a b empty own notes new none changes noted is =
    is
    ∙ ap (λ (ws : List (List ℕ × Option (List ℕ))). ws ++ notes) (changes ∙ ap (λ (ws : List (List ℕ × Option (List ℕ))). ws ++ spell a) none)
    ∙ ap (λ (ws : List (List ℕ × Option (List ℕ))). spell a ++ ws) noted
    ∙ sym (spell-append a b)

-- those of a row that goes only take entries away
pub row_drops : (t : List ℕ) (columns : List Column) (r : ℤ) (empty own notes new : List (List ℕ × Option (List ℕ))) → empty ≡ []
    → own ≡ empty ++ spell (delete_changes t columns r) → AllDrop notes → new ≡ own ++ notes → AllDrop new
row_drops t columns r empty own notes new none changes dropped is =
    let rows = drop_spelt (delete_changes t columns r) (delete_drops t columns r) in
    let of_table : AllDrop own = subst AllDrop (sym (changes ∙ ap (λ (ws : List (List ℕ × Option (List ℕ))). ws ++ spell (delete_changes t columns r)) none)) rows in
    subst AllDrop (sym is) (drop-append own notes of_table dropped)

pub row_shaped : (a : List (Key × Option (List ℕ))) (empty own notes new : List (List ℕ × Option (List ℕ))) → empty ≡ [] → own ≡ empty ++ spell a
    → AreShaped HasTableValue (spell a) → AreShaped HasIndexValue notes → new ≡ own ++ notes → AreStoreChanges new
row_shaped a empty own notes new none changes rows noted is = row_and_notes own new notes (shaped_alone HasTableValue empty own (spell a) none changes rows) is noted

-- those of a table, and of the indexes on it
pub table_made : (a b : List (Key × Option (List ℕ))) (first more new : List (List ℕ × Option (List ℕ))) → first ≡ spell a → more ≡ spell b → new ≡ first ++ more → new ≡ spell (a ++ b)
table_made a b first more new lost changes is =
    is ∙ ap (λ (ws : List (List ℕ × Option (List ℕ))). ws ++ more) lost ∙ ap (λ (ws : List (List ℕ × Option (List ℕ))). spell a ++ ws) changes ∙ sym (spell-append a b)

-- what they make of a content is no heavier
pub table_light : (c : Content) (first more new : List (List ℕ × Option (List ℕ))) → weight (after first c) ≤ weight c → AllDrop more → new ≡ first ++ more → weight (after new c) ≤ weight c
table_light c first more new light dropped is =
    subst (λ (ws : List (List ℕ × Option (List ℕ))). weight (after ws c) ≤ weight c) (sym is) (removals_behind first more c light (drops_weigh_nothing more dropped))

-- those of a row more
pub changes_added : (batch more new ws : List (List ℕ × Option (List ℕ))) → more ≡ ws → new ≡ batch ++ more → new ≡ batch ++ ws
changes_added batch more new ws are is = is ∙ ap (λ (b : List (List ℕ × Option (List ℕ))). batch ++ b) are

pub changes_drop : (batch more new : List (List ℕ × Option (List ℕ))) → AllDrop batch → AllDrop more → new ≡ batch ++ more → AllDrop new
changes_drop batch more new before one is = subst AllDrop (sym is) (drop-append batch more before one)

pub changes_shaped : (batch more new : List (List ℕ × Option (List ℕ))) → AreStoreChanges batch → AreStoreChanges more → new ≡ batch ++ more → AreStoreChanges new
changes_shaped batch more new before one is = subst AreStoreChanges (sym is) (are_shaped-append HasStoreValue batch more before one)

-- ---- rows that are there

pub there_at : (x : Table) (rows : List RowKey) (i : ℕ) → i < length rows → AreThere x rows → is_some (get x.rows (get_or rows i (record { 0 = pos 0 })).0) ≡ true
there_at x [] i less there = absurd (omega (arith, less))
there_at x (r ∷ rows) zero less there = there.0
there_at x (r ∷ rows) (suc i) less there = there_at x rows i (omega (arith, less)) there.1

-- those that a table has, as they are met
are_there : (x : Table) (rows : List RowKey) → ((r : ℤ) → IsIn r (map (λ row. row.0) rows) → is_some (get x.rows r) ≡ true) → AreThere x rows
are_there x [] there = tt
are_there x (r ∷ rows) there = (there r.0 (inl refl), are_there x rows (λ s later. there s (inr later)))

pub met_are_there : (m : StoreState) (t : List ℕ) (x : Table) (conds : List Cond) (rows : List RowKey) → get m.tables t ≡ Some x → map (λ row. row.0) rows ≡ meeting_keys x conds → AreThere x rows
met_are_there m t x conds rows here met =
    are_there x rows (λ r among. ap (λ (o : Option Table). is_some (row_in o r)) (sym here) ∙ met_there m.tables t x conds here r (subst (IsIn r) met among))

-- ---- the statement

module _ (m : StoreState) (t : List ℕ) (conds : List Cond) where
  pub delete_none : get m.tables t ≡ None → delete_from m t conds ≡ Refused (UnknownName t)
  delete_none none = ap (λ (o : Option Table). with_found o (UnknownName t) (λ (x : Table). check_conds x.columns conds (delete_rows m t (meeting_keys x conds)))) none

  module _ (x : Table) (columns : List Column) (here : get m.tables t ≡ Some x) (same : x.columns ≡ columns) where
    delete_some : delete_from m t conds ≡ check_conds columns conds (delete_rows m t (meeting_keys x conds))
    delete_some =
        ap (λ (o : Option Table). with_found o (UnknownName t) (λ (x : Table). check_conds x.columns conds (delete_rows m t (meeting_keys x conds)))) here
        ∙ ap (λ (cs : List Column). check_conds cs conds (delete_rows m t (meeting_keys x conds))) same

    pub delete_refused : (fault : Fault) → ((done : Effect) → Checks (Some fault) (check_conds columns conds done) done) → delete_from m t conds ≡ Refused (refusal_of fault)
    delete_refused fault checks = delete_some ∙ checks (delete_rows m t (meeting_keys x conds))

    module _ (c : Content) (stands : StandsForState c m) (rows : List RowKey) (met : map (λ row. row.0) rows ≡ meeting_keys x conds) (batch : List (List ℕ × Option (List ℕ)))
        (changes : TakesFromTable m c t columns (map (λ row. row.0) rows) batch) where
      batch_is : batch ≡ spell (all_gone_changes c m t x.columns (noted_on m.indexes t) (meeting_keys x conds))
      batch_is =
          changes
          ∙ ap (λ (cs : List Column). spell (all_gone_changes c m t cs (noted_on m.indexes t) (map (λ (row : RowKey). row.0) rows))) (sym same)
          ∙ ap (λ (rs : List ℤ). spell (all_gone_changes c m t x.columns (noted_on m.indexes t) rs)) met

      pub delete_done : (count : ℕ) → count ≡ length rows → ((done : Effect) → Checks None (check_conds columns conds done) done)
          → IsPlan (delete_from m t conds) (rows_deleted count) c (Done batch)
      delete_done count counted passed =
          plan_does (delete_from m t conds) c (without_rows m t (meeting_keys x conds)) (rows_deleted count) batch
          (delete_some ∙ passed (delete_rows m t (meeting_keys x conds))
          ∙ ap (λ (rs : List ℤ). Does (without_rows m t (meeting_keys x conds)) (rows_deleted (length rs))) (sym met)
          ∙ ap (λ (n : ℕ). Does (without_rows m t (meeting_keys x conds)) (rows_deleted n)) (length-map rows (λ (row : RowKey). row.0) ∙ sym counted))
          (subst (λ (ws : List (List ℕ × Option (List ℕ))). Becomes (without_rows m t (meeting_keys x conds)) c (after ws c)) (sym batch_is)
          (gone_rows_become c m t x (meeting_keys x conds) stands here (met_apart x conds) (met_there m.tables t x conds here)))
