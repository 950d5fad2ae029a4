-- What an optimisation puts binds: it leads the content to the one that `ix_optimize` tells of, so all that is said there of contents one after the other holds of a run.
use Rattle.std.proofs.Common.{◌≡◌, ℕ, List, Option, Some, refl, ap, subst, ◌∙◌}
use Rattle.std.specs.FinMap.{get}
use Rattle.ct_keep.specs.Content.{Content}
use Rattle.ct_entry.specs.Keys.{Key, at}
use Rattle.ct_entry.specs.laws.Changes.{at_view}
use Rattle.ix_kinds.specs.Rows.{table_at}
use Rattle.ix_kinds.specs.Indextypes.{IndexOf}
use Rattle.ix_context.specs.Contents.{HoldsContext}
use Rattle.ix_context.specs.Indexes.{ContextIndex}
use Rattle.ix_context.specs.Levels.{Level}
use Rattle.ix_optimize.specs.Limited.{LeadsTo}
use Rattle.ix_optimize.specs.Optimising.{resumed}
use Rattle.ix_optimize.specs.laws.Optimised.{rows_stand}
use Rattle.ix_optimize.specs.laws.Parts.{rows_of}
use Rattle.ix_optimize.specs.laws.Places.{resumed_read}
use Rattle.ix_indexes.specs.Indexes.{Index, as_index}
use Rattle.db_state.specs.States.{StoreState, StandsForState}
use Rattle.db_state.specs.Effects.{Optimises}
use Rattle.db_state.specs.Entries.{IsOptimisedIn, WorkPuts, its_optimise_changes}
use Rattle.db_state.specs.laws.Contexts.{holds_index}

module _ (c next : Content) (m n : StoreState) (level : Level) (i : List ℕ) (y : IndexOf ContextIndex) (stands : StandsForState c m) (then_stands : StandsForState next n) (there : get m.indexes i ≡ Some (as_index y)) where
  -- the index as the content has it
  pub held : HoldsContext c m.tables i y
  held = holds_index c m stands i y there

  pub optimisation_leads : WorkPuts (Optimises m level i) c next → LeadsTo i level c (resumed held.entry.resumes) next
  optimisation_leads worked =
      let put = its_optimise_changes m c level i y held (rows_of held.stands) in
      let is = subst (λ (o : Option Index). IsOptimisedIn m level i o c next) there worked held (rows_of held.stands) (rows_stand c i _ _ _ held.stands stands.only) in
      record {
        only = stands.only;
        index = y;
        table = table_at m.tables y.table;
        stands = held.stands;
        rules = held.rules;
        read = resumed_read held.entry.resumes;
        keys = then_stands.only;
        has = λ k. ap (λ (d : Content). at d k) is ∙ ap (λ (f : Key → Option (List ℕ)). f k) (at_view put c);
      }
