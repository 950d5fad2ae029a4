-- What a statement makes of several rows, one after the other, where what is read of each is read before all of them.
use Rattle.std.proofs.Common.{◌≡◌, ℕ, ℤ, Bool, true, false, cond, List, [], ◌∷◌, ◌++◌, Option, Some, None, refl, sym, ap, subst, ◌∙◌, inl, inr}
use Rattle.std.specs.Prelude.{is_some, ◌||◌, ◌&&◌}
use Rattle.std.specs.Option.{option_map}
use Rattle.std.specs.Ordering.{int_eq, int_cmp}
use Rattle.std.specs.List.{list_any}
use Rattle.std.proofs.lemmas.Bool.{and_parts}
use Rattle.std.specs.FinMap.{get}
use Rattle.ct_base.specs.declared.lists.Value.{Value}
use Rattle.ct_entry.specs.declared.kinds.Kind.{Kind}
use Rattle.ct_entry.specs.Keys.{Key, same_list, IsRow}
use Rattle.ct_entry.specs.Changes.{told, view, AllOf}
use Rattle.ct_entry.specs.Each.{each, is_any_of}
use Rattle.ct_entry.specs.Lists.{IsIn, AreApart}
use Rattle.ct_entry.specs.Maps.{Names}
use Rattle.ct_entry.specs.laws.Changes.{told_frame, view-append}
use Rattle.ct_entry.specs.laws.Parts.{int_from_eq, int_same}
use Rattle.ct_entry.specs.laws.Rows.{keys_below, keys_rise_by, apart_below}
use Rattle.tb_table.specs.declared.columns.Column.{Column}
use Rattle.tb_table.specs.Tables.{Table, Tables, row_in, row_at}
use Rattle.tb_table.specs.Rules.{AreTables}
use Rattle.ix_kinds.specs.Rows.{table_at, RowChange, row_change}
use Rattle.ix_kinds.specs.Indextypes.{IndexOf, Indextype, untidied_index}
use Rattle.ix_kinds.specs.Standing.{is_of_indexes, IndexesStand}
use Rattle.ix_kinds.specs.Statements.{AreIndexesOn, indexes_untidied, untidying_at, untidying_for, indexes_after_row, indexes_after, index_after_row, row_cost, tables_after, row_changes_in, row_changes_at}
use Rattle.ix_kinds.specs.IndextypeLaws.{IndextypeLaws, by_row}
use Rattle.ix_kinds.specs.RowSteps.{HaveSameColumns, DifferInRow, AreUnseen, KeepEntries, IsStep, AreSteps, IndexesHold}
use Rattle.ix_kinds.specs.laws.Standing.{of_part, indexes_frame, told_own}
use Rattle.ix_kinds.specs.laws.Tables.{and_false, same_columns}
use Rattle.ix_kinds.specs.laws.Rows.{row_changes_on, get-after_row, row_stands, row_keeps, keep_later, names_stay}
use Rattle.ix_kinds.specs.laws.Untidies.{untidying_stands, untidying_keeps, names_untidied, keep_untidied, after_untidied, changes_untidied}

-- ---- rows

-- a row of a table has a key of 64 bits
pub row_is_row : (ts : Tables) → AreTables ts → (t : List ℕ) (r : ℤ) → is_some (row_at ts t r) ≡ true → IsRow r
row_is_row ts are t r there = go (get ts t) refl there
  where
    at : (x : Table) → get ts t ≡ Some x → (o : Option (List Value)) → get x.rows r ≡ o → is_some o ≡ true → IsRow r
    at x here None row h = cc
    at x here (Some vs) row h = (are.each t x here).keys r vs row

    go : (o : Option Table) → get ts t ≡ o → is_some (row_in o r) ≡ true → IsRow r
    go None here h = cc
    go (Some x) here h = at x here (get x.rows r) refl h

-- rows whose keys rise are apart
pub rising_apart : (rows : List ℤ) → keys_rise_by int_cmp rows ≡ true → AreApart rows
rising_apart [] rise = tt
rising_apart (r ∷ rows) rise = let b = and_parts (keys_below int_cmp r rows) (keys_rise_by int_cmp rows) rise in (once rows (apart_below int_cmp r rows b.0), rising_apart rows b.1)
  where
    once : (rows : List ℤ) → list_any (int_eq r) rows ≡ false → IsIn r rows → ⊥
    once [] none there = there
    once (s ∷ rows) none there = go (int_eq r s) refl none there (once rows)
      where
        itself : r ≡ s → int_eq r s ≡ true
        itself e = ap (int_eq r) (sym e) ∙ int_same r

        go : (b : Bool) → int_eq r s ≡ b → (b || list_any (int_eq r) rows) ≡ false → IsIn r (s ∷ rows) → (list_any (int_eq r) rows ≡ false → IsIn r rows → ⊥) → ⊥
        go true e none there rest = cc
        go false e none there rest = elim there [ inl one ↦ let wrong : true ≡ false = sym (itself one) ∙ e in cc | inr later ↦ rest none later ]

-- a row that is none of others is another than each of these
pub apart_test : (r s : ℤ) (rows : List ℤ) → (IsIn r rows → ⊥) → IsIn s rows → int_eq s r ≡ false
apart_test r s rows apart there = go (int_eq s r) refl
  where
    go : (b : Bool) → int_eq s r ≡ b → b ≡ false
    go true e = absurd (apart (subst (λ (z : ℤ). IsIn z rows) (int_from_eq s r e) there))
    go false e = refl

module _ {B A D R : Type 0} (K : Indextype B A D R) (laws : IndextypeLaws K) where
  -- ---- what is read of other rows

  -- those of a name are kept by the changes of other kinds of entries
  module _ (test : IndexOf B → Bool) (stays : (c : RowChange) (n : ℕ) (x : IndexOf B) → test (by_row K c n x) ≡ test x) (t : List ℕ) (names : List (List ℕ)) (first_entries : Key → Option (List ℕ)) (first_indexes : Names (IndexOf B)) (first : Tables)
      (step : Tables → ℤ → Tables) (change : ℤ → RowChange) (row_is : (r : ℤ) → (change r).row ≡ r) (p : Kind → Bool) (rest : ℤ → List (Key × Option (List ℕ))) (all : (r : ℤ) → AllOf p (rest r)) (other : (k : Kind) → is_of_indexes k ≡ true → p k ≡ false) where
    -- the changes of a row in the index of a name, by what was read at first
    abbrev pub as_read : ℤ → List ℕ → List (Key × Option (List ℕ))
    as_read r i = row_changes_at K first_entries first_indexes (table_at first t).columns (change r) i

    abbrev pub of_row : ℤ → List (Key × Option (List ℕ))
    of_row r = rest r ++ each (as_read r) names

    -- what is read of these rows in the indexes of the names is what was read at first
    abbrev Reads : (Key → Option (List ℕ)) → Names (IndexOf B) → List ℤ → Type 0
    Reads f xs rows = (i : List ℕ) (r : ℤ) → IsIn r rows → row_changes_at K f xs (table_at first t).columns (change r) i ≡ as_read r i

    -- the other changes leave it
    reads_frame : (f : Key → Option (List ℕ)) (xs : Names (IndexOf B)) (rows : List ℤ) (r : ℤ) → Reads f xs rows → Reads (view (rest r) f) xs rows
    reads_frame f xs rows r reads i s there = go (get xs i) ∙ reads i s there
      where
        go : (o : Option (IndexOf B)) → row_changes_in K (view (rest r) f) (table_at first t).columns (change s) i o ≡ row_changes_in K f (table_at first t).columns (change s) i o
        go None = refl
        go (Some x) =
            ap (K.row_changes i x (table_at first t).columns (change s))
            (laws.rows.read_agree f (view (rest r) f) i x (change s).row (λ k owner own. told_frame p (rest r) k (f k) (all r) (other k.kind (of_part k.kind (laws.alone.part x.body k.kind own)))))

    -- and so do the changes of another row
    reads_later : (f : Key → Option (List ℕ)) (xs : Names (IndexOf B)) (rows : List ℤ) (c : RowChange) → AreIndexesOn K test xs t names → IsRow c.row
        → ((s : ℤ) → IsIn s rows → IsRow (change s).row × (int_eq (change s).row c.row ≡ false)) → Reads f xs rows
        → Reads (view (each (row_changes_at K f xs (table_at first t).columns c) names) f) (indexes_after_row K test t c xs) rows
    reads_later f xs rows c on row apart reads i s there = go (get xs i) refl (is_any_of i names) refl ∙ reads i s there
      where
        columns : List Column
        columns = (table_at first t).columns

        -- on entries of the name, the changes of all names are those of the name
        here : (b : Bool) → is_any_of i names ≡ b → (k : Key) → k.owner ≡ i
            → view (each (row_changes_at K f xs (table_at first t).columns c) names) f k ≡ cond b (told (row_changes_at K f xs (table_at first t).columns c i) k (f k)) (f k)
        here b is k owner =
            told_own (row_changes_at K f xs (table_at first t).columns c) (row_changes_on K laws f xs (table_at first t) c) names on.distinct k (f k)
            ∙ ap (λ (l : List ℕ). cond (is_any_of l names) (told (row_changes_at K f xs (table_at first t).columns c l) k (f k)) (f k)) owner
            ∙ ap (λ (b : Bool). cond b (told (row_changes_at K f xs (table_at first t).columns c i) k (f k)) (f k)) is

        -- an index that is told of the row, and one that isn't, have the same changes for the other
        same_changes : (x : IndexOf B) (a : Bool) (g : Key → Option (List ℕ)) → K.read g i x (change s).row ≡ K.read f i x (change s).row
            → row_changes_in K g (table_at first t).columns (change s) i (Some (cond a (index_after_row K c i x) x)) ≡ row_changes_in K f (table_at first t).columns (change s) i (Some x)
        same_changes x true g same =
            laws.rows.changes_same g i x (table_at first t).columns c (change s) (row_cost K i x c.old)
            ∙ ap (K.row_changes i x (table_at first t).columns (change s)) same
        same_changes x false g same = ap (K.row_changes i x (table_at first t).columns (change s)) same

        after : (o : Option (IndexOf B)) → get xs i ≡ o
            → get (indexes_after_row K test t c xs) i ≡ option_map (λ x. cond (same_list x.table t && test x) (index_after_row K c i x) x) o
        after o is = get-after_row K laws test t c xs i ∙ ap (option_map (λ x. cond (same_list x.table t && test x) (index_after_row K c i x) x)) is

        read_is : (x : IndexOf B) → get xs i ≡ Some x → (b : Bool) → is_any_of i names ≡ b
            → K.read (view (each (row_changes_at K f xs (table_at first t).columns c) names) f) i x (change s).row ≡ K.read f i x (change s).row
        read_is x is true among =
            laws.rows.read_agree (view (row_changes_at K f xs (table_at first t).columns c i) f) (view (each (row_changes_at K f xs (table_at first t).columns c) names) f) i x (change s).row (λ k owner own. here true among k owner)
            ∙ ap (λ (o : Option (IndexOf B)). K.read (view (row_changes_in K f (table_at first t).columns c i o) f) i x (change s).row) is
            ∙ laws.rows.apart f i x (table_at first t).columns c (change s).row row (apart s there).0 (apart s there).1
        read_is x is false among =
            laws.rows.read_agree f (view (each (row_changes_at K f xs (table_at first t).columns c) names) f) i x (change s).row (λ k owner own. here false among k owner)

        go : (o : Option (IndexOf B)) → get xs i ≡ o → (b : Bool) → is_any_of i names ≡ b
            → row_changes_at K (view (each (row_changes_at K f xs (table_at first t).columns c) names) f) (indexes_after_row K test t c xs) (table_at first t).columns (change s) i
            ≡ row_changes_at K f xs (table_at first t).columns (change s) i
        go None is b among =
            ap (row_changes_in K (view (each (row_changes_at K f xs (table_at first t).columns c) names) f) (table_at first t).columns (change s) i) (after None is)
            ∙ sym (ap (row_changes_in K f (table_at first t).columns (change s) i) is)
        go (Some x) is b among =
            ap (row_changes_in K (view (each (row_changes_at K f xs (table_at first t).columns c) names) f) (table_at first t).columns (change s) i) (after (Some x) is)
            ∙ same_changes x (same_list x.table t && test x) (view (each (row_changes_at K f xs (table_at first t).columns c) names) f) (read_is x is b among)
            ∙ sym (ap (row_changes_in K f (table_at first t).columns (change s) i) is)

    -- ---- the rows, one after the other

    pub rows_stand : (rows : List ℤ) → AreSteps K test first step t change rows → AreApart rows → ((r : ℤ) → IsIn r rows → IsRow r)
        → (f : Key → Option (List ℕ)) (ts : Tables) (xs : Names (IndexOf B)) → HaveSameColumns first ts → ((r : ℤ) → IsIn r rows → row_at ts t r ≡ row_at first t r)
        → AreIndexesOn K test xs t names → Reads f xs rows → ((r : ℤ) → IsIn r rows → KeepEntries K test t (change r) xs) → IndexesHold K f ts xs
        → IndexesHold K (view (each of_row rows) f) (tables_after step ts rows) (indexes_after K test step ts t rows xs)
    rows_stand [] steps apart are f ts xs alike same on reads keep hold = hold
    rows_stand (r ∷ rows) steps apart are f ts xs alike same on reads keep hold =
        let one : IsStep K test ts (step ts r) t (change r) = steps ts r (inl refl) (record { rules = hold.tables; alike = alike; row = same r (inl refl) }) in
        let is : change r ≡ row_change ts (step ts r) t r = one.told ∙ ap (row_change ts (step ts r) t) (row_is r) in
        let differ : DifferInRow ts (step ts r) t r = subst (λ (s : ℤ). DifferInRow ts (step ts r) t s) (row_is r) one.differ in
        let unseen : AreUnseen K test ts (step ts r) t xs = λ i x here table h. one.unseen x h in
        let keep_own : KeepEntries K test t (row_change ts (step ts r) t r) xs = subst (λ (c : RowChange). KeepEntries K test t c xs) is (keep r (inl refl)) in
        let own_reads : Reads (view (rest r) f) xs (r ∷ rows) = reads_frame f xs (r ∷ rows) r reads in
        let as_told : (i : List ℕ) → row_changes_at K (view (rest r) f) xs (table_at first t).columns (row_change ts (step ts r) t r) i ≡ as_read r i =
        λ i. ap (λ (c : RowChange). row_changes_at K (view (rest r) f) xs (table_at first t).columns c i) (sym is) ∙ own_reads i r (inl refl) in
        let whole : (λ (i : List ℕ). row_changes_at K (view (rest r) f) xs (table_at first t).columns (row_change ts (step ts r) t r) i) ≡ as_read r = λ j i. as_told i j in
        let stood : IndexesStand K (view (each (as_read r) names) (view (rest r) f)) (step ts r) (indexes_after_row K test t (row_change ts (step ts r) t r) xs) =
        subst (λ (changes : List ℕ → List (Key × Option (List ℕ))). IndexesStand K (view (each changes names) (view (rest r) f)) (step ts r) (indexes_after_row K test t (row_change ts (step ts r) t r) xs)) whole
        (subst (λ (cs : List Column). IndexesStand K (view (each (row_changes_at K (view (rest r) f) xs cs (row_change ts (step ts r) t r)) names) (view (rest r) f)) (step ts r) (indexes_after_row K test t (row_change ts (step ts r) t r) xs))
        (same_columns first ts alike t)
        (row_stands K laws (view (rest r) f) ts (step ts r) xs t r test names hold.tables one.rules hold.rules on differ unseen keep_own (indexes_frame K laws.alone p (rest r) f ts xs (all r) other hold.stand))) in
        let held : IndexesHold K (view (of_row r) f) (step ts r) (indexes_after_row K test t (row_change ts (step ts r) t r) xs) = record {
          tables = one.rules;
          rules = row_keeps K laws ts (step ts r) xs t r test hold.tables one.rules differ unseen hold.rules;
          stand = subst (λ (g : Key → Option (List ℕ)). IndexesStand K g (step ts r) (indexes_after_row K test t (row_change ts (step ts r) t r) xs)) (sym (view-append (rest r) (each (as_read r) names) f)) stood;
        } in
        let later : Reads (view (of_row r) f) (indexes_after_row K test t (row_change ts (step ts r) t r) xs) rows =
        subst (λ (g : Key → Option (List ℕ)). Reads g (indexes_after_row K test t (row_change ts (step ts r) t r) xs) rows) (sym (view-append (rest r) (each (as_read r) names) f))
        (subst (λ (changes : List ℕ → List (Key × Option (List ℕ))). Reads (view (each changes names) (view (rest r) f)) (indexes_after_row K test t (row_change ts (step ts r) t r) xs) rows) whole
        (reads_later (view (rest r) f) xs rows (row_change ts (step ts r) t r) on (are r (inl refl))
        (λ s there. (subst IsRow (sym (row_is s)) (are s (inr there)), ap (λ (z : ℤ). int_eq z r) (row_is s) ∙ apart_test r s rows apart.0 there))
        (λ i s there. own_reads i s (inr there)))) in
        subst (λ (g : Key → Option (List ℕ)). IndexesHold K g (tables_after step (step ts r) rows) (indexes_after K test step (step ts r) t rows (indexes_after_row K test t (row_change ts (step ts r) t r) xs)))
        (sym (view-append (of_row r) (each of_row rows) f))
        (rows_stand rows (λ us s there. steps us s (inr there)) apart.1 (λ s there. are s (inr there)) (view (of_row r) f) (step ts r) (indexes_after_row K test t (row_change ts (step ts r) t r) xs)
        (λ q. differ.alike q ∙ alike q)
        (λ s there. differ.others t s (and_false (same_list t t) (int_eq s r) (apart_test r s rows apart.0 there)) ∙ same s (inr there))
        (names_stay K laws test t (row_change ts (step ts r) t r) xs names stays on) later (λ s there. keep_later K laws test t (row_change ts (step ts r) t r) (change s) xs (keep s (inr there))) held)

    -- Rows that change or go, from the first tables, indexes and entries on, where each index is first put as one that isn't tidy.
    pub lost_in_turn : (rows : List ℤ) → ((x : IndexOf B) → test (untidied_index K x) ≡ test x) → ((r : ℤ) → IsIn r rows → is_some (row_at first t r) ≡ true)
        → AreSteps K test first step t change rows → AreApart rows → ((r : ℤ) → IsIn r rows → IsRow r) → AreIndexesOn K test first_indexes t names
        → IndexesHold K first_entries first first_indexes
        → IndexesHold K (view (untidying_for K first_entries first_indexes names rows ++ each of_row rows) first_entries) (tables_after step first rows) (indexes_after K test step first t rows first_indexes)
    lost_in_turn [] blind there steps apart are on hold = hold
    lost_in_turn (r ∷ rows) blind there steps apart are on hold =
        subst (λ (g : Key → Option (List ℕ)). IndexesHold K g (tables_after step first (r ∷ rows)) (indexes_after K test step first t (r ∷ rows) first_indexes))
        (sym (view-append (each (untidying_at K first_entries first_indexes) names) (each of_row (r ∷ rows)) first_entries))
        (subst (λ (ys : Names (IndexOf B)). IndexesHold K (view (each of_row (r ∷ rows)) (view (each (untidying_at K first_entries first_indexes) names) first_entries)) (tables_after step first (r ∷ rows)) (indexes_after K test step (step first r) t rows ys))
        (after_untidied K laws test blind t (row_change first (step first r) t r) first_indexes (there r (inl refl)))
        (rows_stand (r ∷ rows) steps apart are (view (each (untidying_at K first_entries first_indexes) names) first_entries) first (indexes_untidied K test t first_indexes) (λ q. refl) (λ s among. refl)
        (names_untidied K laws test blind t first_indexes names on)
        (λ i s among. changes_untidied K laws test blind t first_entries first_indexes names (table_at first t).columns (change s) i)
        (λ s among. keep_untidied K laws test blind t (change s) first_indexes)
        (record {
          tables = hold.tables;
          rules = untidying_keeps K laws first first_indexes t test hold.rules;
          stand = untidying_stands K laws first_entries first first_indexes t test names on hold.stand;
        })))
