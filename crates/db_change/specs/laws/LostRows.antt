-- What is put before rows of a table are lost: the own entries of the indexes on it that are tidy no more.
use Rattle.std.proofs.Common.{◌≡◌, ℕ, ℤ, Bool, true, false, cond, List, [], ◌∷◌, Option, Some, None, refl, sym}
use Rattle.std.specs.FinMap.{get}
use Rattle.ct_base.specs.Names.{IsName}
use Rattle.ct_keep.specs.Content.{Content}
use Rattle.ct_entry.specs.declared.kinds.Kind.{Kind}
use Rattle.ct_entry.specs.declared.kinds.Kind.TheVariants as kind
use Rattle.ct_entry.specs.Keys.{at, key}
use Rattle.ct_entry.specs.Changes.{put_value, view, AllOf, AreChanges}
use Rattle.ct_entry.specs.laws.Each.{are_each}
use Rattle.tb_table.specs.Spelling.{TablesStand}
use Rattle.tb_table.specs.laws.Changes.{is_of_tables, tables_frame}
use Rattle.ix_kinds.specs.Indextypes.{untidied_index}
use Rattle.ix_kinds.specs.Standing.{is_entry, index_entry}
use Rattle.ix_kinds.specs.Statements.{place_of, untidying_at, untidying_for, untidying_in}
use Rattle.ix_kinds.specs.laws.Untidies.{untidying_of}
use Rattle.ix_indexes.specs.Indexes.{Index, kinds}
use Rattle.ix_indexes.specs.Noting.{noted_named}
use Rattle.ix_indexes.specs.laws.Indexes.{kinds_laws}
use Rattle.ix_indexes.specs.laws.Untidies.{untidying_noted}
use Rattle.db_state.specs.States.{StoreState, StandsForState}
use Rattle.db_change.specs.Noting.{lost_changes}

module _ (c : Content) (m : StoreState) (names : List (List ℕ)) where
  -- by what is noted of the indexes
  pub lost_is : (rows : List ℤ) → untidying_for kinds (at c) m.indexes names rows ≡ lost_changes c m (noted_named m.indexes names) rows
  lost_is [] = refl
  lost_is (r ∷ rows) = sym (untidying_noted (at c) m.indexes names)

  -- own entries of indexes alone
  pub lost_of : (rows : List ℤ) → AllOf is_entry (untidying_for kinds (at c) m.indexes names rows)
  lost_of [] = tt
  lost_of (r ∷ rows) = untidying_of kinds kinds_laws (at c) m.indexes names

  -- on keys
  pub lost_are : StandsForState c m → (rows : List ℤ) → AreChanges (untidying_for kinds (at c) m.indexes names rows)
  lost_are stands [] = tt
  lost_are stands (r ∷ rows) = are_each (untidying_at kinds (at c) m.indexes) (λ i. go i (get m.indexes i) (stands.state.indexes.names i)) names
    where
      one : (i value : List ℕ) (b : Bool) → IsName i → AreChanges (cond b (put_value (key kind.Indexes i []) value ∷ []) [])
      one i value true name = (record { owner = name; part = refl }, tt)
      one i value false name = tt

      go : (i : List ℕ) (o : Option Index) → ((x : Index) → o ≡ Some x → IsName i) → AreChanges (untidying_in kinds (at c) i o)
      go i None named = tt
      go i (Some x) named = one i (index_entry kinds (untidied_index kinds x) (place_of kinds (at c) i x)) (kinds.tidy x.body) (named x refl)

  -- so the tables are as they were
  pub lost_tables : StandsForState c m → (rows : List ℤ) → TablesStand (view (untidying_for kinds (at c) m.indexes names rows) (at c)) m.tables
  lost_tables stands rows = tables_frame is_entry (untidying_for kinds (at c) m.indexes names rows) (at c) m.tables (lost_of rows) no_entry stands.tables
    where
      no_entry : (k : Kind) → is_of_tables k ≡ true → is_entry k ≡ false
      no_entry kind.Indexes h = cc
      no_entry k h = refl
