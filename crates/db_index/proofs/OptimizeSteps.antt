-- What an optimisation puts into an empty batch makes of the content one that stands for the state with the index optimised.
use Rattle.std.proofs.Common.{◌≡◌, ℕ, ◌+◌, List, [], ◌++◌, Option, Some, sym, ap, subst, ◌∙◌}
use Rattle.std.specs.FinMap.{get}
use Rattle.ct_keep.specs.Content.{Content, after}
use Rattle.ct_entry.specs.Keys.{Key, at}
use Rattle.ct_entry.specs.Changes.{spell}
use Rattle.ct_entry.specs.Shapes.{AreShaped}
use Rattle.ix_kinds.specs.Rows.{table_at}
use Rattle.ix_kinds.specs.Indextypes.{IndexOf}
use Rattle.ix_kinds.specs.Standing.{IndexStands}
use Rattle.ix_context.specs.declared.places.Place.{Place}
use Rattle.ix_context.specs.Contents.{HoldsContext, target_of}
use Rattle.ix_context.specs.Contexts.{context}
use Rattle.ix_context.specs.Indexes.{ContextIndex}
use Rattle.ix_context.specs.Levels.{Level}
use Rattle.ix_context.specs.Shapes.{HasContextValue}
use Rattle.ix_context.specs.laws.ContextRows.{has_entry}
use Rattle.ix_repack.specs.Repacking.{IndexRows}
use Rattle.ix_optimize.specs.Optimising.{IsOptimised, optimise_changes, resumed}
use Rattle.ix_optimize.specs.declared.levels.Progress.{Progress}
use Rattle.ix_optimize.specs.laws.Optimised.{index_optimised, optimised_is, optimised_of, optimised_on, optimised_stands}
use Rattle.ix_optimize.specs.laws.Parts.{rows_of}
use Rattle.ix_optimize.specs.laws.Places.{resumed_read}
use Rattle.ix_indexes.specs.Indexes.{Defined, StandsUnder, as_index}
use Rattle.db_state.specs.States.{StoreState, StandsForState}
use Rattle.db_index.specs.Optimizing.{with_optimised}
use Rattle.db_index.specs.laws.Optimized.{state_optimised}

module _ (c : Content) (m : StoreState) (level : Level) (i : List ℕ) (y : IndexOf ContextIndex) (stands : StandsForState c m) (there : get m.indexes i ≡ Some (as_index y)) (told : HoldsContext c m.tables i y) where
  -- the index stands as one of its kind alone
  stand : IndexStands (context {D = Defined}) (at c) i y (table_at m.tables y.table)
  stand =
      let of_kinds = subst (StandsUnder (at c) m.tables i) there (stands.indexes i) in
      record { entry = has_entry Defined (at c) i y told.entry; part = told.stands; others = of_kinds.others }

  abbrev place : Place
  place = resumed told.entry.resumes

  abbrev put : List (Key × Option (List ℕ))
  put = index_optimised c i y (table_at m.tables y.table) told.stands level place

  -- as the call has it
  pub optimised_content : (progress : Progress) (none new : List (List ℕ × Option (List ℕ))) → none ≡ [] → (AreShaped HasContextValue none → AreShaped HasContextValue new)
      → IsOptimised c i level place (rows_of told.stands) (target_of y) y.prefs (y.body.part.given + 1) y.body.part.tidiness none new progress → StandsForState (after new c) (with_optimised m level i)
  unfolding stand
  optimised_content progress none new empty keeps is =
      let whole : new ≡ spell put = is.changes ∙ ap (λ (b : List (List ℕ × Option (List ℕ))). b ++ spell put) empty in
      let shaped : AreShaped HasContextValue (spell put) = subst (AreShaped HasContextValue) whole (keeps (subst (AreShaped HasContextValue) (sym empty) tt)) in
      let t = table_at m.tables y.table in
      subst (λ (b : List (List ℕ × Option (List ℕ))). StandsForState (after b c) (with_optimised m level i)) (sym whole)
      (state_optimised c m level i y stands there (optimised_is level t y told.rules) Defined put
      (optimised_on Defined c i y t stands.only told.rules.numbers level place told.stands) (optimised_of Defined c i y t stands.only told.rules.numbers level place told.stands) shaped
      (optimised_stands Defined c i y t stands.only told.rules.numbers level place stand (resumed_read told.entry.resumes)))

-- and it is all that an optimisation puts
pub optimised_whole : (c : Content) (i : List ℕ) (level : Level) (place : Place) (rows : IndexRows) (y : IndexOf ContextIndex) (progress : Progress) (none new : List (List ℕ × Option (List ℕ))) → none ≡ []
    → IsOptimised c i level place rows (target_of y) y.prefs (y.body.part.given + 1) y.body.part.tidiness none new progress
    → after new c ≡ after (spell (optimise_changes c i level place rows (target_of y) y.prefs (y.body.part.given + 1) y.body.part.tidiness)) c
optimised_whole c i level place rows y progress none new empty is =
    ap (λ (b : List (List ℕ × Option (List ℕ))). after b c) is.changes
    ∙ ap (λ (b : List (List ℕ × Option (List ℕ))). after (b ++ spell (optimise_changes c i level place rows (target_of y) y.prefs (y.body.part.given + 1) y.body.part.tidiness)) c) empty
