-- Two kinds of indexes that give what a kind has to give do so as one.
use Rattle.std.proofs.Common.{◌≡◌, ℕ, ℤ, true, false, List, [], ◌∷◌, ◌++◌, length, Option, Some, sym, ap, ◌⊎◌, inl, inr}
use Rattle.std.specs.Prelude.{is_some}
use Rattle.std.specs.Ordering.{int_eq}
use Rattle.db_names.specs.laws.Heads.{kind_one}
use Rattle.ct_base.specs.declared.lists.Value.{Value}
use Rattle.ct_base.specs.laws.Lists.{cons_parts}
use Rattle.ct_bytes.specs.Varints.{text_bytes}
use Rattle.ct_entry.specs.declared.kinds.Kind.{Kind}
use Rattle.ct_entry.specs.declared.kinds.Kind.TheVariants as kind
use Rattle.ct_entry.specs.Keys.{Key, key, IsRow}
use Rattle.ct_entry.specs.Changes.{told, view, AllOf, AllOn}
use Rattle.tb_table.specs.declared.columns.Column.{Column}
use Rattle.tb_table.specs.Tables.{Table}
use Rattle.tb_table.specs.Rules.{IsTable}
use Rattle.tx_settings.specs.PrefsBytes.{IsPrefs}
use Rattle.db_names.specs.Heads.{index_code}
use Rattle.ix_kinds.specs.Rows.{RowChange, ChangesBy, LookAlike}
use Rattle.ix_kinds.specs.Indextypes.{IndexOf, Indextype, with_body, untidied_index, new_index_on, synced_index}
use Rattle.ix_kinds.specs.Standing.{is_of_part, index_entry, HasNoEntries}
use Rattle.ix_kinds.specs.IndextypeLaws.{is_its, by_row, SameKind, AreOwnChanges, LeadsEntry, KeepsEntry, StandsAlone, Untidies, RowsChange, Synchronises, Creates, TellsOne, IndextypeLaws}
use Rattle.ix_kinds.specs.Sums.{own_in, IsIn, StandsIn, looks_in, kind_in, tidy_in, untidied_in, rest_in, ResumesIn, cost_in, after_row_in, read_in, row_changes_of, can_sync_in, after_sync_in, sync_changes_in, either}

module _ {B C A E D R S : Type 0} (K : Indextype B A D R) (L : Indextype C E D S) (k : IndextypeLaws K) (l : IndextypeLaws L) (differ : (b : B) (c : C) → K.kind b ≡ L.kind c → ⊥) where
  -- ---- it stands alone

  either_alone : StandsAlone (either K L)
  either_alone = record {
    part = part;
    agree = λ f g i x t. agree f g i x x.body t;
    alike = λ f i x t u. alike f i x x.body t u;
    is_alike = λ x t u. is_alike x x.body t u;
  }
    where
      part : (b : B ⊎ C) (j : Kind) → own_in K L b j ≡ true → is_of_part j ≡ true
      part (inl b) j h = k.alone.part b j h
      part (inr c) j h = l.alone.part c j h

      agree : (f g : Key → Option (List ℕ)) (i : List ℕ) (x : IndexOf (B ⊎ C)) (b : B ⊎ C) (t : Table)
          → ((j : Key) → j.owner ≡ i → own_in K L b j.kind ≡ true → g j ≡ f j) → StandsIn K L f i x b t → StandsIn K L g i x b t
      agree f g i x (inl b) t same stand = k.alone.agree f g i (with_body x b) t same stand
      agree f g i x (inr c) t same stand = l.alone.agree f g i (with_body x c) t same stand

      alike : (f : Key → Option (List ℕ)) (i : List ℕ) (x : IndexOf (B ⊎ C)) (b : B ⊎ C) (t u : Table) → LookAlike (looks_in K L x b) t u → IsIn K L t x b → StandsIn K L f i x b t → StandsIn K L f i x b u
      alike f i x (inl b) t u same is stand = k.alone.alike f i (with_body x b) t u same is stand
      alike f i x (inr c) t u same is stand = l.alone.alike f i (with_body x c) t u same is stand

      is_alike : (x : IndexOf (B ⊎ C)) (b : B ⊎ C) (t u : Table) → LookAlike (looks_in K L x b) t u → IsIn K L t x b → IsIn K L u x b
      is_alike x (inl b) t u same is = k.alone.is_alike (with_body x b) t u same is
      is_alike x (inr c) t u same is = l.alone.is_alike (with_body x c) t u same is

  -- ---- one is of the same kind, and has its own changes

  same_first : (x y : IndexOf B) → SameKind K x y → SameKind (either K L) (with_body x (inl x.body)) (with_body y (inl y.body))
  same_first x y same = record { kind = same.kind; own = same.own; looks = same.looks; resumes = same.resumes }

  same_second : (x y : IndexOf C) → SameKind L x y → SameKind (either K L) (with_body x (inr x.body)) (with_body y (inr y.body))
  same_second x y same = record { kind = same.kind; own = same.own; looks = same.looks; resumes = same.resumes }

  own_first : (i : List ℕ) (x : IndexOf B) (ws : List (Key × Option (List ℕ))) → AreOwnChanges K i x ws → AreOwnChanges (either K L) i (with_body x (inl x.body)) ws
  own_first i x ws own = record { on = own.on; of = own.of }

  own_second : (i : List ℕ) (x : IndexOf C) (ws : List (Key × Option (List ℕ))) → AreOwnChanges L i x ws → AreOwnChanges (either K L) i (with_body x (inr x.body)) ws
  own_second i x ws own = record { on = own.on; of = own.of }

  -- ---- a row is lost

  either_untidies : Untidies (either K L)
  either_untidies = record {
    same = λ x. same x x.body;
    long = λ x. long x x.body;
    is = λ t x. is t x x.body;
    stands = λ f i x t. stands f i x x.body t;
    loose = loose;
    unchanged = unchanged;
    after = after;
    cost = λ i x vs. cost i x x.body vs;
    changes = λ f i x columns c. changes f i x x.body columns c;
  }
    where
      same : (x : IndexOf (B ⊎ C)) (b : B ⊎ C) → SameKind (either K L) (with_body x b) (with_body x (untidied_in K L b))
      same x (inl b) = same_first (with_body x b) (untidied_index K (with_body x b)) (k.untidies.same (with_body x b))
      same x (inr b) = same_second (with_body x b) (untidied_index L (with_body x b)) (l.untidies.same (with_body x b))

      long : (x : IndexOf (B ⊎ C)) (b : B ⊎ C) → length (rest_in K L x (untidied_in K L b)) ≡ length (rest_in K L x b)
      long x (inl b) = k.untidies.long (with_body x b)
      long x (inr b) = l.untidies.long (with_body x b)

      is : (t : Table) (x : IndexOf (B ⊎ C)) (b : B ⊎ C) → IsIn K L t x b → IsIn K L t x (untidied_in K L b)
      is t x (inl b) it = k.untidies.is t (with_body x b) it
      is t x (inr b) it = l.untidies.is t (with_body x b) it

      stands : (f : Key → Option (List ℕ)) (i : List ℕ) (x : IndexOf (B ⊎ C)) (b : B ⊎ C) (t : Table) → StandsIn K L f i x b t → StandsIn K L f i x (untidied_in K L b) t
      stands f i x (inl b) t stand = k.untidies.stands f i (with_body x b) t stand
      stands f i x (inr b) t stand = l.untidies.stands f i (with_body x b) t stand

      loose : (b : B ⊎ C) → tidy_in K L (untidied_in K L b) ≡ false
      loose (inl b) = k.untidies.loose b
      loose (inr b) = l.untidies.loose b

      unchanged : (b : B ⊎ C) → tidy_in K L b ≡ false → untidied_in K L b ≡ b
      unchanged (inl b) untidy = ap inl (k.untidies.unchanged b untidy)
      unchanged (inr b) untidy = ap inr (l.untidies.unchanged b untidy)

      after : (c : RowChange) (n : ℕ) (b : B ⊎ C) → is_some c.old ≡ true → after_row_in K L c n (untidied_in K L b) ≡ after_row_in K L c n b
      after c n (inl b) lost = ap inl (k.untidies.after c n b lost)
      after c n (inr b) lost = ap inr (l.untidies.after c n b lost)

      cost : (i : List ℕ) (x : IndexOf (B ⊎ C)) (b : B ⊎ C) (vs : List Value) → cost_in K L i x (untidied_in K L b) vs ≡ cost_in K L i x b vs
      cost i x (inl b) vs = k.untidies.cost i (with_body x b) vs
      cost i x (inr b) vs = l.untidies.cost i (with_body x b) vs

      changes : (f : Key → Option (List ℕ)) (i : List ℕ) (x : IndexOf (B ⊎ C)) (b : B ⊎ C) (columns : List Column) (c : RowChange)
          → row_changes_of K L i x (untidied_in K L b) columns c (read_in K L f i x (untidied_in K L b) c.row) ≡ row_changes_of K L i x b columns c (read_in K L f i x b c.row)
      changes f i x (inl b) columns c = k.untidies.changes f i (with_body x b) columns c
      changes f i x (inr b) columns c = l.untidies.changes f i (with_body x b) columns c

  -- ---- a row changes

  either_rows : RowsChange (either K L)
  either_rows = record {
    same = λ c n x. same c n x x.body;
    loose = loose;
    own = λ f i x columns c. own f i x x.body columns c;
    entry = λ f i x columns c n place. entry f i x x.body columns c n place;
    is = λ t u x c n. is t u x x.body c n;
    stands = λ f i x t u c n. stands f i x x.body t u c n;
    read_agree = λ f g i x r. read_agree f g i x x.body r;
    changes_same = λ f i x columns c d n. changes_same f i x x.body columns c d n;
    apart = λ f i x columns c r. apart f i x x.body columns c r;
  }
    where
      same : (c : RowChange) (n : ℕ) (x : IndexOf (B ⊎ C)) (b : B ⊎ C) → SameKind (either K L) (with_body x b) (with_body x (after_row_in K L c n b))
      same c n x (inl b) = same_first (with_body x b) (by_row K c n (with_body x b)) (k.rows.same c n (with_body x b))
      same c n x (inr b) = same_second (with_body x b) (by_row L c n (with_body x b)) (l.rows.same c n (with_body x b))

      loose : (c : RowChange) (n : ℕ) (b : B ⊎ C) → tidy_in K L b ≡ false → tidy_in K L (after_row_in K L c n b) ≡ false
      loose c n (inl b) untidy = k.rows.loose c n b untidy
      loose c n (inr b) untidy = l.rows.loose c n b untidy

      own : (f : Key → Option (List ℕ)) (i : List ℕ) (x : IndexOf (B ⊎ C)) (b : B ⊎ C) (columns : List Column) (c : RowChange)
          → AreOwnChanges (either K L) i (with_body x b) (row_changes_of K L i x b columns c (read_in K L f i x b c.row))
      own f i x (inl b) columns c = own_first i (with_body x b) (K.row_changes i (with_body x b) columns c (K.read f i (with_body x b) c.row)) (k.rows.own f i (with_body x b) columns c)
      own f i x (inr b) columns c = own_second i (with_body x b) (L.row_changes i (with_body x b) columns c (L.read f i (with_body x b) c.row)) (l.rows.own f i (with_body x b) columns c)

      entry : (f : Key → Option (List ℕ)) (i : List ℕ) (x : IndexOf (B ⊎ C)) (b : B ⊎ C) (columns : List Column) (c : RowChange) (n : ℕ) (place : List ℕ) → KeepsEntry (either K L) c (with_body x b)
          → LeadsEntry (either K L) i (with_body x b) place (with_body x (after_row_in K L c n b)) place (row_changes_of K L i x b columns c (read_in K L f i x b c.row))
      entry f i x (inl b) columns c n place keeps = k.rows.entry f i (with_body x b) columns c n place keeps
      entry f i x (inr b) columns c n place keeps = l.rows.entry f i (with_body x b) columns c n place keeps

      is : (t u : Table) (x : IndexOf (B ⊎ C)) (b : B ⊎ C) (c : RowChange) (n : ℕ) → IsTable t → IsTable u → ChangesBy c t u → IsIn K L t x b → IsIn K L u x (after_row_in K L c n b)
      is t u x (inl b) c n is_t is_u by it = k.rows.is t u (with_body x b) c n is_t is_u by it
      is t u x (inr b) c n is_t is_u by it = l.rows.is t u (with_body x b) c n is_t is_u by it

      stands : (f : Key → Option (List ℕ)) (i : List ℕ) (x : IndexOf (B ⊎ C)) (b : B ⊎ C) (t u : Table) (c : RowChange) (n : ℕ) → IsTable t → IsTable u → ChangesBy c t u
          → ((vs : List Value) → c.old ≡ Some vs → n ≡ cost_in K L i x b vs) → IsIn K L t x b → StandsIn K L f i x b t
          → StandsIn K L (view (row_changes_of K L i x b t.columns c (read_in K L f i x b c.row)) f) i x (after_row_in K L c n b) u
      stands f i x (inl b) t u c n is_t is_u by cost it stand = k.rows.stands f i (with_body x b) t u c n is_t is_u by cost it stand
      stands f i x (inr b) t u c n is_t is_u by cost it stand = l.rows.stands f i (with_body x b) t u c n is_t is_u by cost it stand

      read_agree : (f g : Key → Option (List ℕ)) (i : List ℕ) (x : IndexOf (B ⊎ C)) (b : B ⊎ C) (r : ℤ)
          → ((j : Key) → j.owner ≡ i → own_in K L b j.kind ≡ true → g j ≡ f j) → read_in K L g i x b r ≡ read_in K L f i x b r
      read_agree f g i x (inl b) r same = ap inl (k.rows.read_agree f g i (with_body x b) r same)
      read_agree f g i x (inr b) r same = ap inr (l.rows.read_agree f g i (with_body x b) r same)

      changes_same : (f : Key → Option (List ℕ)) (i : List ℕ) (x : IndexOf (B ⊎ C)) (b : B ⊎ C) (columns : List Column) (c d : RowChange) (n : ℕ)
          → row_changes_of K L i x (after_row_in K L c n b) columns d (read_in K L f i x (after_row_in K L c n b) d.row) ≡ row_changes_of K L i x b columns d (read_in K L f i x b d.row)
      changes_same f i x (inl b) columns c d n = k.rows.changes_same f i (with_body x b) columns c d n
      changes_same f i x (inr b) columns c d n = l.rows.changes_same f i (with_body x b) columns c d n

      apart : (f : Key → Option (List ℕ)) (i : List ℕ) (x : IndexOf (B ⊎ C)) (b : B ⊎ C) (columns : List Column) (c : RowChange) (r : ℤ) → IsRow c.row → IsRow r → int_eq r c.row ≡ false
          → read_in K L (view (row_changes_of K L i x b columns c (read_in K L f i x b c.row)) f) i x b r ≡ read_in K L f i x b r
      apart f i x (inl b) columns c r row is_row away = ap inl (k.rows.apart f i (with_body x b) columns c r row is_row away)
      apart f i x (inr b) columns c r row is_row away = ap inr (l.rows.apart f i (with_body x b) columns c r row is_row away)

  -- ---- it is synchronised

  either_syncs : Synchronises (either K L)
  either_syncs = record {
    same = λ d t x. same d t x x.body;
    own = λ d t i x place. own d t i x x.body place;
    entry = λ d t i x place. entry d t i x x.body place;
    is = λ d t x. is d t x x.body;
    stands = λ f d t i x place. stands f d t i x x.body place;
  }
    where
      same : (d : D) (t : Table) (x : IndexOf (B ⊎ C)) (b : B ⊎ C) → SameKind (either K L) (with_body x b) (with_body x (after_sync_in K L d t x b))
      same d t x (inl b) = same_first (with_body x b) (synced_index K d t (with_body x b)) (k.syncs.same d t (with_body x b))
      same d t x (inr b) = same_second (with_body x b) (synced_index L d t (with_body x b)) (l.syncs.same d t (with_body x b))

      own : (d : D) (t : Table) (i : List ℕ) (x : IndexOf (B ⊎ C)) (b : B ⊎ C) (place : List ℕ) → AreOwnChanges (either K L) i (with_body x b) (sync_changes_in K L d t i x b place)
      own d t i x (inl b) place = own_first i (with_body x b) (K.sync_changes d t i (with_body x b) place) (k.syncs.own d t i (with_body x b) place)
      own d t i x (inr b) place = own_second i (with_body x b) (L.sync_changes d t i (with_body x b) place) (l.syncs.own d t i (with_body x b) place)

      entry : (d : D) (t : Table) (i : List ℕ) (x : IndexOf (B ⊎ C)) (b : B ⊎ C) (place : List ℕ)
          → LeadsEntry (either K L) i (with_body x b) place (with_body x (after_sync_in K L d t x b)) place (sync_changes_in K L d t i x b place)
      entry d t i x (inl b) place = k.syncs.entry d t i (with_body x b) place
      entry d t i x (inr b) place = l.syncs.entry d t i (with_body x b) place

      is : (d : D) (t : Table) (x : IndexOf (B ⊎ C)) (b : B ⊎ C) → IsTable t → IsPrefs x.prefs → can_sync_in K L x b ≡ true → IsIn K L t x b → IsIn K L t x (after_sync_in K L d t x b)
      is d t x (inl b) is_t prefs room it = k.syncs.is d t (with_body x b) is_t prefs room it
      is d t x (inr b) is_t prefs room it = l.syncs.is d t (with_body x b) is_t prefs room it

      stands : (f : Key → Option (List ℕ)) (d : D) (t : Table) (i : List ℕ) (x : IndexOf (B ⊎ C)) (b : B ⊎ C) (place : List ℕ) → IsTable t → IsPrefs x.prefs
          → can_sync_in K L x b ≡ true → IsIn K L t x b → StandsIn K L f i x b t
          → StandsIn K L (view (sync_changes_in K L d t i x b place) f) i x (after_sync_in K L d t x b) t
      stands f d t i x (inl b) place is_t prefs room it stand = k.syncs.stands f d t i (with_body x b) place is_t prefs room it stand
      stands f d t i x (inr b) place is_t prefs room it stand = l.syncs.stands f d t i (with_body x b) place is_t prefs room it stand

  -- ---- it is made

  either_creates : Creates (either K L)
  either_creates = record {
    on = λ a d t i target prefs. elim a as (λ a. AllOn i ((either K L).create_changes a d t i target prefs)) [ inl a ↦ k.creates.on a d t i target prefs | inr e ↦ l.creates.on e d t i target prefs ];
    of = λ a d t i target prefs. elim a as (λ a. AllOf (is_its (either K L) ((either K L).new_body a d t target prefs)) ((either K L).create_changes a d t i target prefs)) [
      | inl a ↦ k.creates.of a d t i target prefs
      | inr e ↦ l.creates.of e d t i target prefs
    ];
    entry = λ a d t i target prefs. elim a as (λ a. (place : List ℕ) × (either K L).resumes ((either K L).new_body a d t target prefs) place
        × ((old : Option (List ℕ)) → told ((either K L).create_changes a d t i target prefs) (key kind.Indexes i []) old ≡ Some (index_entry (either K L) (new_index_on (either K L) a d t target prefs) place))) [
          | inl a ↦ k.creates.entry a d t i target prefs
          | inr e ↦ l.creates.entry e d t i target prefs
        ];
    is = λ a d t target prefs is_t texts prefs_are. elim a as (λ a. (either K L).asks t prefs a → (either K L).can_create t a ≡ true → (either K L).is t (new_index_on (either K L) a d t target prefs)) [
      | inl a ↦ k.creates.is a d t target prefs is_t texts prefs_are
      | inr e ↦ l.creates.is e d t target prefs is_t texts prefs_are
    ];
    stands = λ f a d t i target prefs is_t texts prefs_are. elim a as (λ a. (either K L).asks t prefs a → (either K L).can_create t a ≡ true → HasNoEntries (either K L) f i
        → (either K L).stands (view ((either K L).create_changes a d t i target prefs) f) i (new_index_on (either K L) a d t target prefs) t) [
          | inl a ↦ k.creates.stands f a d t i target prefs is_t texts prefs_are
          | inr e ↦ l.creates.stands f e d t i target prefs is_t texts prefs_are
        ];
  }

  -- ---- the entries tell what it is

  either_tells : TellsOne (either K L)
  either_tells = record { one = λ f i x y t u. one f i x y x.body y.body t u }
    where
      -- an entry begins with the code of its kind
      kinds : (x y : IndexOf (B ⊎ C)) (p q : List ℕ) → index_entry (either K L) x p ≡ index_entry (either K L) y q → kind_in K L x.body ≡ kind_in K L y.body
      kinds x y p q e =
          kind_one (kind_in K L x.body) (kind_in K L y.body)
          (cons_parts (index_code (kind_in K L x.body)) (index_code (kind_in K L y.body))
          ((text_bytes x.table ++ x.column ∷ []) ++ (rest_in K L x x.body ++ p)) ((text_bytes y.table ++ y.column ∷ []) ++ (rest_in K L y y.body ++ q)) e).0

      one : (f : Key → Option (List ℕ)) (i : List ℕ) (x y : IndexOf (B ⊎ C)) (b c : B ⊎ C) (t u : Table) → IsTable t → IsTable u → IsIn K L t x b
          → IsIn K L u y c → IsPrefs x.prefs → IsPrefs y.prefs → (x.table ≡ y.table → t ≡ u)
          → (p q : List ℕ) → ResumesIn K L b p → ResumesIn K L c q → index_entry (either K L) (with_body x b) p ≡ index_entry (either K L) (with_body y c) q → StandsIn K L f i x b t → StandsIn K L f i y c u
          → with_body x ((either K L).unwasted b) ≡ with_body y ((either K L).unwasted c)
      one f i x y (inl b) (inl c) t u is_t is_u x_is y_is x_prefs y_prefs same p q x_resumes y_resumes entry x_stands y_stands =
          ap (λ (z : IndexOf B). with_body z (inl z.body)) (k.one.one f i (with_body x b) (with_body y c) t u is_t is_u x_is y_is x_prefs y_prefs same p q x_resumes y_resumes entry x_stands y_stands)
      one f i x y (inr b) (inr c) t u is_t is_u x_is y_is x_prefs y_prefs same p q x_resumes y_resumes entry x_stands y_stands =
          ap (λ (z : IndexOf C). with_body z (inr z.body)) (l.one.one f i (with_body x b) (with_body y c) t u is_t is_u x_is y_is x_prefs y_prefs same p q x_resumes y_resumes entry x_stands y_stands)
      one f i x y (inl b) (inr c) t u is_t is_u x_is y_is x_prefs y_prefs same p q x_resumes y_resumes entry x_stands y_stands = absurd (differ b c (kinds (with_body x (inl b)) (with_body y (inr c)) p q entry))
      one f i x y (inr b) (inl c) t u is_t is_u x_is y_is x_prefs y_prefs same p q x_resumes y_resumes entry x_stands y_stands = absurd (differ c b (sym (kinds (with_body x (inr b)) (with_body y (inl c)) p q entry)))

  -- ---- all of it

  pub either_laws : IndextypeLaws (either K L)
  either_laws = record { alone = either_alone; untidies = either_untidies; rows = either_rows; syncs = either_syncs; creates = either_creates; one = either_tells }
