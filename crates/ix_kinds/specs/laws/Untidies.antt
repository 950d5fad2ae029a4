-- What is made of all indexes before a row of their table is lost: of their entries, and of their rules.
use Rattle.std.proofs.Common.{◌≡◌, ℕ, Bool, true, false, cond, List, [], ◌∷◌, Option, Some, None, refl, sym, ap, subst, ◌∙◌, inr}
use Rattle.std.specs.Prelude.{◌&&◌, is_some}
use Rattle.std.specs.Option.{option_map}
use Rattle.std.specs.FinMap.{get, same_map, nat_cmp-IsAntisymmetric, slice_cmp-IsAntisymmetric}
use Rattle.std.proofs.lemmas.Cmp.{nat_list_cmp_total}
use Rattle.std.proofs.lemmas.Map.Lookups.{exact_bytes}
use Rattle.ct_base.specs.declared.lists.Value.{Value}
use Rattle.ct_base.specs.laws.Options.{option_map_some}
use Rattle.ct_entry.specs.declared.kinds.Kind.TheVariants as kind
use Rattle.ct_entry.specs.Keys.{Key, key, same_list}
use Rattle.ct_entry.specs.Changes.{put_value, told, view, AllOf, AllOn}
use Rattle.ct_entry.specs.Each.{each}
use Rattle.ct_entry.specs.Maps.{Names}
use Rattle.ct_entry.specs.laws.Changes.{told_frame}
use Rattle.ct_entry.specs.laws.Each.{all_each}
use Rattle.ct_entry.specs.laws.Keys.{key_same}
use Rattle.ct_entry.specs.laws.Maps.{get-each_at}
use Rattle.tb_table.specs.declared.columns.Column.{Column}
use Rattle.tb_table.specs.Tables.{Table, Tables}
use Rattle.ix_kinds.specs.Rows.{table_at, RowChange}
use Rattle.ix_kinds.specs.Indextypes.{IndexOf, Indextype, with_body, untidied_index}
use Rattle.ix_kinds.specs.Standing.{is_entry, index_entry, IndexStands, StandsAt, IndexesStand}
use Rattle.ix_kinds.specs.Rules.{IsIndex, AreIndexes}
use Rattle.ix_kinds.specs.Statements.{is_on, AreIndexesOn, untidied_on, indexes_untidied, place_of, untidying_in, untidying_at, row_cost, index_after_row, indexes_after_row, row_changes_in, row_changes_at}
use Rattle.ix_kinds.specs.IndextypeLaws.{IndextypeLaws}
use Rattle.ix_kinds.specs.RowSteps.{KeepEntries}
use Rattle.ix_kinds.specs.laws.Standing.{no_entry, place_is, own_stand, each_index}
use Rattle.ix_kinds.specs.laws.Rows.{get-after_row}

module _ {B A D R : Type 0} (K : Indextype B A D R) (laws : IndextypeLaws K) where
  -- ---- what is put

  -- it is on the entry of the index
  untidying_in_is : (f : Key → Option (List ℕ)) (i : List ℕ) (o : Option (IndexOf B)) → AllOn i (untidying_in K f i o) × AllOf is_entry (untidying_in K f i o)
  untidying_in_is f i None = (tt, tt)
  untidying_in_is f i (Some x) = go (index_entry K (untidied_index K x) (place_of K f i x)) (K.tidy x.body)
    where
      go : (value : List ℕ) (b : Bool) → AllOn i (cond b (put_value (key kind.Indexes i []) value ∷ []) []) × AllOf is_entry (cond b (put_value (key kind.Indexes i []) value ∷ []) [])
      go value true = ((refl, tt), (refl, tt))
      go value false = (tt, tt)

  pub untidying_on : (f : Key → Option (List ℕ)) (xs : Names (IndexOf B)) (i : List ℕ) → AllOn i (untidying_at K f xs i)
  untidying_on f xs i = (untidying_in_is f i (get xs i)).0

  pub untidying_of : (f : Key → Option (List ℕ)) (xs : Names (IndexOf B)) (names : List (List ℕ)) → AllOf is_entry (each (untidying_at K f xs) names)
  untidying_of f xs names = all_each is_entry (untidying_at K f xs) (λ i. (untidying_in_is f i (get xs i)).1) names

  -- ---- one index

  untidied_stands : (f : Key → Option (List ℕ)) (i : List ℕ) (x : IndexOf B) (t : Table) → IndexStands K f i x t → IndexStands K (view (untidying_in K f i (Some x)) f) i (untidied_index K x) t
  untidied_stands f i x t stand = go (K.tidy x.body) refl
    where
      place : place_of K f i x ≡ stand.entry.place
      place = place_is K f i x stand.entry

      resumes : K.resumes (K.untidied x.body) (place_of K f i x)
      resumes = subst (K.resumes (K.untidied x.body)) (sym place) ((laws.untidies.same x).resumes stand.entry.place stand.entry.resumes)

      put : List (Key × Option (List ℕ))
      put = put_value (key kind.Indexes i []) (index_entry K (untidied_index K x) (place_of K f i x)) ∷ []

      leads : told put (key kind.Indexes i []) (Some (index_entry K x stand.entry.place)) ≡ Some (index_entry K (untidied_index K x) (place_of K f i x))
      leads = ap (λ (b : Bool). cond b (Some (index_entry K (untidied_index K x) (place_of K f i x))) (Some (index_entry K x stand.entry.place))) (key_same (key kind.Indexes i []))

      part : K.stands (view put f) i (untidied_index K x) t
      part =
          laws.alone.agree f (view put f) i (untidied_index K x) t
          (λ k owner own. told_frame is_entry put k (f k) (refl, tt) (no_entry k.kind (laws.alone.part (K.untidied x.body) k.kind own))) (laws.untidies.stands f i x t stand.part)

      go : (b : Bool) → K.tidy x.body ≡ b → IndexStands K (view (cond b (put_value (key kind.Indexes i []) (index_entry K (untidied_index K x) (place_of K f i x)) ∷ []) []) f) i (untidied_index K x) t
      go true tidy =
          own_stand K laws.alone f i x (K.untidied x.body) t t put (place_of K f i x) (laws.untidies.same x) (record { on = (refl, tt); of = (refl, tt) }) stand resumes leads part
      go false loose = subst (λ (b : B). IndexStands K f i (with_body x b) t) (sym (laws.untidies.unchanged x.body loose)) stand

  -- ---- the indexes on a table

  pub get-untidied : (test : IndexOf B → Bool) (t : List ℕ) (xs : Names (IndexOf B)) (q : List ℕ)
      → get (indexes_untidied K test t xs) q ≡ option_map (untidied_on K test t q) (get xs q)
  get-untidied test t xs q = get-each_at nat_list_cmp_total exact_bytes (untidied_on K test t) xs q

  pub untidying_stands : (f : Key → Option (List ℕ)) (ts : Tables) (xs : Names (IndexOf B)) (t : List ℕ) (test : IndexOf B → Bool) (names : List (List ℕ)) → AreIndexesOn K test xs t names
      → IndexesStand K f ts xs → IndexesStand K (view (each (untidying_at K f xs) names) f) ts (indexes_untidied K test t xs)
  untidying_stands f ts xs t test names on stand =
      each_index K laws.alone f ts (indexes_untidied K test t xs) names (untidying_at K f xs) (untidying_on f xs) on.distinct
      (λ i among. those i (get xs i) refl (sym (on.each i) ∙ among)) (λ i apart. others i (get xs i) refl (sym (on.each i) ∙ apart))
    where
      at_index : (i : List ℕ) (x : IndexOf B) (b : Bool) → get xs i ≡ Some x → (same_list x.table t && test x) ≡ b → get (indexes_untidied K test t xs) i ≡ Some (cond b (untidied_index K x) x)
      at_index i x b is told =
          get-untidied test t xs i ∙ ap (option_map (untidied_on K test t i)) is
          ∙ ap (λ (b : Bool). Some (cond b (untidied_index K x) x)) told

      those : (i : List ℕ) (o : Option (IndexOf B)) → get xs i ≡ o → is_on K test t o ≡ true → StandsAt K (view (untidying_at K f xs i) f) ts i (get (indexes_untidied K test t xs) i)
      those i None is h = cc
      those i (Some x) is h =
          subst (λ (o : Option (IndexOf B)). StandsAt K (view (untidying_in K f i o) f) ts i (get (indexes_untidied K test t xs) i)) (sym is)
          (subst (StandsAt K (view (untidying_in K f i (Some x)) f) ts i) (sym (at_index i x true is h))
          (untidied_stands f i x (table_at ts x.table) (subst (StandsAt K f ts i) is (stand i))))

      others : (i : List ℕ) (o : Option (IndexOf B)) → get xs i ≡ o → is_on K test t o ≡ false → StandsAt K f ts i (get (indexes_untidied K test t xs) i)
      others i None is h =
          subst (StandsAt K f ts i) (sym (get-untidied test t xs i ∙ ap (option_map (untidied_on K test t i)) is)) (subst (StandsAt K f ts i) is (stand i))
      others i (Some x) is h = subst (StandsAt K f ts i) (sym (at_index i x false is h)) (subst (StandsAt K f ts i) is (stand i))

  -- ---- their rules

  pub untidying_keeps : (ts : Tables) (xs : Names (IndexOf B)) (t : List ℕ) (test : IndexOf B → Bool) → AreIndexes K ts xs → AreIndexes K ts (indexes_untidied K test t xs)
  untidying_keeps ts xs t test are = record {
    names = λ i y e. let was = before i y e in are.names i was.0 was.1;
    each = λ i y e. let was = before i y e in subst (IsIndex K ts) was.2 (index was.0 (same_list was.0.table t && test was.0) (are.each i was.0 was.1));
    one = λ i j y z e f tables columns kinds.
        let was = before i y e in
        let other = before j z f in
        are.one i j was.0 other.0 was.1 other.1 (was.3 ∙ tables ∙ sym other.3) (was.4 ∙ columns ∙ sym other.4) (was.5 ∙ kinds ∙ sym other.5);
  }
    where
      same_table : (x : IndexOf B) (b : Bool) → x.table ≡ (cond b (untidied_index K x) x).table
      same_table x true = refl
      same_table x false = refl

      same_column : (x : IndexOf B) (b : Bool) → x.column ≡ (cond b (untidied_index K x) x).column
      same_column x true = refl
      same_column x false = refl

      same_kind : (x : IndexOf B) (b : Bool) → K.kind x.body ≡ K.kind (cond b (untidied_index K x) x).body
      same_kind x true = sym (laws.untidies.same x).kind
      same_kind x false = refl

      before : (i : List ℕ) (y : IndexOf B) → get (indexes_untidied K test t xs) i ≡ Some y
          → (x : IndexOf B) × (get xs i ≡ Some x) × (untidied_on K test t i x ≡ y) × (x.table ≡ y.table) × (x.column ≡ y.column) × (K.kind x.body ≡ K.kind y.body)
      before i y e =
          let was = option_map_some (untidied_on K test t i) (get xs i) y (sym (get-untidied test t xs i) ∙ e) in (
            was.0,
            was.1,
            was.2,
            same_table was.0 (same_list was.0.table t && test was.0) ∙ ap (λ (k : IndexOf B). k.table) was.2,
            same_column was.0 (same_list was.0.table t && test was.0) ∙ ap (λ (k : IndexOf B). k.column) was.2,
            same_kind was.0 (same_list was.0.table t && test was.0) ∙ ap (λ (k : IndexOf B). K.kind k.body) was.2,
          )

      index : (x : IndexOf B) (b : Bool) → IsIndex K ts x → IsIndex K ts (cond b (untidied_index K x) x)
      index x true is = record { target = is.target; prefs = is.prefs; body = laws.untidies.is is.target.table x is.body }
      index x false is = is

  -- ---- where the test can't tell whether an index is tidy

  module _ (test : IndexOf B → Bool) (blind : (x : IndexOf B) → test (untidied_index K x) ≡ test x) (t : List ℕ) where
    on_table : (x : IndexOf B) (b : Bool) → (same_list x.table t && test (cond b (untidied_index K x) x)) ≡ (same_list x.table t && test x)
    on_table x true = ap (λ (b : Bool). same_list x.table t && b) (blind x)
    on_table x false = refl

    -- the names are the same
    pub names_untidied : (xs : Names (IndexOf B)) (names : List (List ℕ)) → AreIndexesOn K test xs t names → AreIndexesOn K test (indexes_untidied K test t xs) t names
    names_untidied xs names are = record {
      distinct = are.distinct;
      each = λ i. are.each i ∙ sym (ap (is_on K test t) (get-untidied test t xs i) ∙ go i (get xs i));
    }
      where
        at : (x : IndexOf B) (b : Bool) → is_on K test t (Some (cond b (untidied_index K x) x)) ≡ is_on K test t (Some x)
        at x true = on_table x true
        at x false = refl

        go : (i : List ℕ) (o : Option (IndexOf B)) → is_on K test t (option_map (untidied_on K test t i) o) ≡ is_on K test t o
        go i None = refl
        go i (Some x) = at x (same_list x.table t && test x)

    -- none of which it holds is tidy, so each change leaves their own entries
    pub keep_untidied : (c : RowChange) (xs : Names (IndexOf B)) → KeepEntries K test t c (indexes_untidied K test t xs)
    keep_untidied c xs i y e told =
        let was = option_map_some (untidied_on K test t i) (get xs i) y (sym (get-untidied test t xs i) ∙ e) in
        inr (go was.0 (same_list was.0.table t && test was.0) refl was.2)
      where
        go : (x : IndexOf B) (b : Bool) → (same_list x.table t && test x) ≡ b → cond b (untidied_index K x) x ≡ y → K.tidy y.body ≡ false
        go x true on same = sym (ap (λ (z : IndexOf B). K.tidy z.body) same) ∙ laws.untidies.loose x.body
        go x false on same = let wrong : false ≡ true = sym on ∙ ap (λ (z : IndexOf B). same_list z.table t && test z) same ∙ told in cc

    -- the index after the change, where the test holds of it
    abbrev after : RowChange → List ℕ → IndexOf B → IndexOf B
    after c q x = cond (same_list x.table t && test x) (index_after_row K c q x) x

    -- a row that is lost makes of them what it made of those before
    pub after_untidied : (c : RowChange) (xs : Names (IndexOf B)) → is_some c.old ≡ true → indexes_after_row K test t c (indexes_untidied K test t xs) ≡ indexes_after_row K test t c xs
    after_untidied c xs lost =
        same_map nat_list_cmp_total (slice_cmp-IsAntisymmetric nat_cmp-IsAntisymmetric) (indexes_after_row K test t c (indexes_untidied K test t xs)) (indexes_after_row K test t c xs)
        (λ q. get-after_row K laws test t c (indexes_untidied K test t xs) q ∙ ap (option_map (after c q)) (get-untidied test t xs q) ∙ go q (get xs q) ∙ sym (get-after_row K laws test t c xs q))
      where
        cost : (q : List ℕ) (x : IndexOf B) (o : Option (List Value)) → row_cost K q (untidied_index K x) o ≡ row_cost K q x o
        cost q x None = refl
        cost q x (Some vs) = laws.untidies.cost q x vs

        same : (q : List ℕ) (x : IndexOf B) → index_after_row K c q (untidied_index K x) ≡ index_after_row K c q x
        same q x =
            ap (λ (n : ℕ). with_body x (K.after_row c n (K.untidied x.body))) (cost q x c.old) ∙ ap (with_body x) (laws.untidies.after c (row_cost K q x c.old) x.body lost)

        at : (q : List ℕ) (x : IndexOf B) (b : Bool) → (same_list x.table t && test x) ≡ b → after c q (cond b (untidied_index K x) x) ≡ after c q x
        at q x true on =
            ap (λ (b : Bool). cond b (index_after_row K c q (untidied_index K x)) (untidied_index K x)) (on_table x true ∙ on) ∙ same q x
            ∙ sym (ap (λ (b : Bool). cond b (index_after_row K c q x) x) on)
        at q x false on = refl

        go : (q : List ℕ) (o : Option (IndexOf B)) → option_map (after c q) (option_map (untidied_on K test t q) o) ≡ option_map (after c q) o
        go q None = refl
        go q (Some x) = ap Some (at q x (same_list x.table t && test x) refl)

    -- and what it changes in each is the same
    pub changes_untidied : (f : Key → Option (List ℕ)) (xs : Names (IndexOf B)) (names : List (List ℕ)) (columns : List Column) (c : RowChange) (i : List ℕ)
        → row_changes_at K (view (each (untidying_at K f xs) names) f) (indexes_untidied K test t xs) columns c i ≡ row_changes_at K f xs columns c i
    changes_untidied f xs names columns c i = ap (row_changes_in K (view (each (untidying_at K f xs) names) f) columns c i) (get-untidied test t xs i) ∙ go (get xs i)
      where
        read_same : (x : IndexOf B) → row_changes_in K (view (each (untidying_at K f xs) names) f) columns c i (Some x) ≡ row_changes_in K f columns c i (Some x)
        read_same x =
            ap (K.row_changes i x columns c)
            (laws.rows.read_agree f (view (each (untidying_at K f xs) names) f) i x c.row
            (λ k owner own. told_frame is_entry (each (untidying_at K f xs) names) k (f k) (untidying_of f xs names) (no_entry k.kind (laws.alone.part x.body k.kind own))))

        at : (x : IndexOf B) (b : Bool) → row_changes_in K (view (each (untidying_at K f xs) names) f) columns c i (Some (cond b (untidied_index K x) x)) ≡ row_changes_in K f columns c i (Some x)
        at x true = read_same (untidied_index K x) ∙ laws.untidies.changes f i x columns c
        at x false = read_same x

        go : (o : Option (IndexOf B)) → row_changes_in K (view (each (untidying_at K f xs) names) f) columns c i (option_map (untidied_on K test t i) o) ≡ row_changes_in K f columns c i o
        go None = refl
        go (Some x) = at x (same_list x.table t && test x)
