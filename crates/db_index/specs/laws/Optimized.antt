-- The state after an optimisation.
use Rattle.std.proofs.Common.{◌≡◌, ℕ, ◌≤◌, Bool, true, false, cond, List, Option, Some, refl, sym, ap, subst, ◌∙◌, inl, inr}
use Rattle.std.specs.Option.{option_map}
use Rattle.std.specs.FinMap.{get}
use Rattle.std.proofs.lemmas.Option.{same_Some}
use Rattle.ct_base.specs.laws.Options.{option_map_some}
use Rattle.ct_keep.specs.Content.{Content, after}
use Rattle.ct_entry.specs.Keys.{Key, at, same_list}
use Rattle.ct_entry.specs.Maps.{Names, alter}
use Rattle.ct_entry.specs.Changes.{AllOf, AllOn, spell, view}
use Rattle.ct_entry.specs.Shapes.{AreShaped}
use Rattle.ct_entry.specs.laws.Keys.{list_from_same, list_same}
use Rattle.ct_entry.specs.laws.Maps.{get_name-alter}
use Rattle.ix_kinds.specs.Rows.{table_at}
use Rattle.ix_kinds.specs.Indextypes.{IndexOf}
use Rattle.ix_kinds.specs.Standing.{IndexStands, StandsAt}
use Rattle.ix_kinds.specs.IndextypeLaws.{is_its}
use Rattle.ix_kinds.specs.laws.Rows.{is_from}
use Rattle.ix_kinds.specs.laws.Standing.{one_changes}
use Rattle.ix_context.specs.Contexts.{IsContext, context}
use Rattle.ix_context.specs.Indexes.{ContextIndex}
use Rattle.ix_context.specs.Levels.{Level, optimised_index}
use Rattle.ix_context.specs.Shapes.{HasContextValue}
use Rattle.ix_indexes.specs.Indexes.{AreIndexes, Body, Index, IndexesStand, IsIndex, as_index, kinds}
use Rattle.ix_indexes.specs.laws.Indexes.{kinds_laws}
use Rattle.db_state.specs.States.{StoreState, StandsForState, index_limit}
use Rattle.db_index.specs.Optimizing.{body_optimised, index_optimised, with_optimised}
use Rattle.db_index.specs.laws.Created.{its_of}
use Rattle.db_index.specs.laws.IndexChanges.{indexes_left}
use Rattle.db_index.specs.laws.NewMarks.{few_altered}
use Rattle.db_index.specs.laws.ShapedChanges.{keys_left, rows_short}

module _ (c : Content) (m : StoreState) (level : Level) (i : List ℕ) (y : IndexOf ContextIndex) (stands : StandsForState c m) (there : get m.indexes i ≡ Some (as_index y)) where
  abbrev xs : Names Index
  xs = alter m.indexes i (index_optimised level)

  abbrev z : Index
  z = as_index (optimised_index level y)

  -- only the index of the name is another one
  others : (q : List ℕ) → get xs q ≡ cond (same_list q i) (option_map (index_optimised level) (get m.indexes q)) (get m.indexes q)
  others q = get_name-alter m.indexes i (index_optimised level) q

  here : get xs i ≡ Some z
  here = others i ∙ ap (λ (b : Bool). cond b (option_map (index_optimised level) (get m.indexes i)) (get m.indexes i)) (list_same i) ∙ ap (option_map (index_optimised level)) there

  -- ---- the rules

  kind_stays : (b : Body) → kinds.kind b ≡ kinds.kind (body_optimised level b)
  kind_stays (inl b) = refl
  kind_stays (inr b) = refl

  -- the index of a name, as it was
  record Was (q : List ℕ) (u : Index) : Type 0 where
    index : Index
    found : get m.indexes q ≡ Some index
    table : index.table ≡ u.table
    column : index.column ≡ u.column
    kind : kinds.kind index.body ≡ kinds.kind u.body

  was : (q : List ℕ) (u : Index) → get xs q ≡ Some u → Was q u
  was q u is = go (same_list q i) (sym (others q) ∙ is)
    where
      go : (b : Bool) → cond b (option_map (index_optimised level) (get m.indexes q)) (get m.indexes q) ≡ Some u → Was q u
      go true e =
          let x = option_map_some (index_optimised level) (get m.indexes q) u e in
          record {
            index = x.0;
            found = x.1;
            table = ap (λ (k : Index). k.table) x.2;
            column = ap (λ (k : Index). k.column) x.2;
            kind = kind_stays x.0.body ∙ ap (λ (k : Index). kinds.kind k.body) x.2;
          }
      go false e = record { index = u; found = e; table = refl; column = refl; kind = refl }

  module _ (rules : IsContext (table_at m.tables y.table) (optimised_index level y)) where
    it_is : IsIndex m.tables z
    it_is = let old = stands.state.indexes.each i (as_index y) there in record { target = old.target; prefs = old.prefs; body = is_from kinds kinds_laws m.tables z old.target rules }

    are : AreIndexes m.tables xs
    are = record {
      names = λ q u e. let o = was q u e in stands.state.indexes.names q o.index o.found;
      each = λ q u e. index q u (same_list q i) refl e;
      one = λ p q u v e f tables columns kinds_same.
          let a = was p u e in
          let b = was q v f in
          stands.state.indexes.one p q a.index b.index a.found b.found (a.table ∙ tables ∙ sym b.table) (a.column ∙ columns ∙ sym b.column) (a.kind ∙ kinds_same ∙ sym b.kind);
    }
      where
        index : (q : List ℕ) (u : Index) (b : Bool) → same_list q i ≡ b → get xs q ≡ Some u → IsIndex m.tables u
        index q u true h e = subst (IsIndex m.tables) (same_Some z u (sym (ap (get xs) (list_from_same q i h) ∙ here) ∙ e)) it_is
        index q u false h e =
            stands.state.indexes.each q u (sym (others q ∙ ap (λ (b : Bool). cond b (option_map (index_optimised level) (get m.indexes q)) (get m.indexes q)) h) ∙ e)

    -- ---- the entries

    pub state_optimised : (D : Type 0) (ws : List (Key × Option (List ℕ))) → AllOn i ws → AllOf (is_its (context {D = D}) y.body) ws → AreShaped HasContextValue (spell ws)
        → IndexStands (context {D = D}) (view ws (at c)) i (optimised_index level y) (table_at m.tables y.table) → StandsForState (after (spell ws) c) (with_optimised m level i)
    state_optimised D ws on of shaped stand =
        indexes_left c m ws xs stands (its_of (inl y.body) ws of) (keys_left HasContextValue (spell ws) c shaped stands.only) (rows_short HasContextValue ws (at c) shaped stands.short_rows) entries are
        (λ t. subst (λ (n : ℕ). n ≤ index_limit) (sym (few_altered (index_optimised level) (λ x. refl) m.indexes i (as_index y) there t)) (stands.state.few t))
      where
        it_stands : IndexStands kinds (view ws (at c)) i z (table_at m.tables y.table)
        it_stands = record { entry = record { place = stand.entry.place; resumes = stand.entry.resumes; whole = stand.entry.whole }; part = stand.part; others = stand.others }

        entries : IndexesStand (view ws (at c)) m.tables xs
        entries =
            one_changes kinds kinds_laws.alone (at c) m.tables m.indexes xs i ws on
            (λ q other. others q ∙ ap (λ (b : Bool). cond b (option_map (index_optimised level) (get m.indexes q)) (get m.indexes q)) other) stands.indexes
            (subst (StandsAt kinds (view ws (at c)) m.tables i) (sym here) it_stands)
