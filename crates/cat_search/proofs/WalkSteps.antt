-- The steps of a walk over a sub-index of a catalogue that the content holds.
use Rattle.std.proofs.Common.{ℕ, ℤ, ◌≡◌, ◌≤◌, Bool, true, false, cond, ◌||◌, List, [], ◌∷◌, ◌++◌, length, Option, Some, None, refl, sym, ap, subst, ◌∙◌, append-nil}
use Rattle.std.specs.Prelude.{Vec}
use Rattle.std.specs.Option.{option_map}
use Rattle.std.specs.Ordering.{int_cmp}
use Rattle.std.specs.declared.alloc.Global.{Global}
use Rattle.std.proofs.lemmas.List.{map-append}
use Rattle.ct_base.specs.declared.numbers.RowKey.{RowKey}
use Rattle.ct_keep.specs.Content.{Content}
use Rattle.ct_keep.specs.KeeperViews.{Counts, is_kind}
use Rattle.ct_entry.specs.laws.Rows.{keys_rise_by}
use Rattle.tb_table.specs.Tables.{Table, Tables}
use Rattle.tb_table.specs.Rules.{IsTable}
use Rattle.q_tree.specs.ReducedQueries.{Reduced}
use Rattle.q_tree.specs.Soundness.{is_sound}
use Rattle.ix_kinds.specs.Rows.{table_at}
use Rattle.ix_kinds.specs.Indextypes.{IndexOf}
use Rattle.ix_kinds.specs.laws.Tables.{table_is}
use Rattle.ix_context.specs.Indexes.{texts_in}
use Rattle.cat_index.specs.declared.catalogues.Catalogue.{Catalogue}
use Rattle.cat_index.specs.Catalogues.{CatalogueBody}
use Rattle.cat_walk.specs.Places.{IsFirstAfter, IsNext, comes_before, has_place, next_of}
use Rattle.cat_walk.specs.Walks.{Route, stops_at}
use Rattle.cat_walk.specs.Looks.{IsOfCatalogue, SameTexts}
use Rattle.cat_search.specs.Queries.{is_boolean}
use Rattle.cat_search.specs.Meeting.{row_words, row_meets, some_meets}
use Rattle.cat_search.specs.SubIndexes.{sub_place, place_row, HasSub, taken_rows, is_row_among, IsNextWithin}
use Rattle.cat_search.specs.Words.{is_exact, may_meet}
use Rattle.cat_search.specs.Walking.{sub_stem, AreWordsOfRows, StopsWhere, IsWalkFor, row_if}
use Rattle.cat_search.specs.Contents.{HoldsCatalogue, IsIndexOf, is_met_row}
use Rattle.cat_search.specs.Looking.{ReadsTexts, slot_key_rows, slot_rows}
use Rattle.cat_search.proofs.CatalogueEntries.{words_of_rows}
use Rattle.cat_search.proofs.RowLists.{keys_of}
use Rattle.cat_search.proofs.Finding.{AreFoundTo, all_found, fewer_left, found_begins, found_on, left, left_few}
use Rattle.cat_search.proofs.Counting.{ReadSoFar, read_begins, read_on, read_stays, read_ends}

-- ---- the next place, as code holds it

pub next_is : (taken test : List ℕ → Bool) (last after : List ℕ) (found : Option (Vec ℕ Global)) (place : Vec ℕ Global) → after ≡ last → found ≡ Some place → IsNextWithin taken test after (next_of found) → IsFirstAfter test last place.items
next_is taken test last after found place same is next =
    subst (λ (l : List ℕ). IsFirstAfter test l place.items) same (subst (λ (o : Option (Vec ℕ Global)). IsNextWithin taken test after (next_of o)) is next)

pub no_next : (taken test : List ℕ → Bool) (last after : List ℕ) (found : Option (Vec ℕ Global)) → after ≡ last → found ≡ None → IsNextWithin taken test after (next_of found) → IsNextWithin taken test last None
no_next taken test last after found same is next =
    subst (λ (l : List ℕ). IsNextWithin taken test l None) same (subst (λ (o : Option (Vec ℕ Global)). IsNextWithin taken test after (next_of o)) is next)

-- of all next places those that are taken
module _ (taken test : List ℕ → Bool) (after : List ℕ) (found : Option (Vec ℕ Global)) where
  pub none_within : found ≡ None → IsNext test after (next_of found) → IsNextWithin taken test after None
  none_within is next = λ p behind at. subst (λ (o : Option (Vec ℕ Global)). IsNext test after (next_of o)) is next p behind

  pub some_within : (place : Vec ℕ Global) → found ≡ Some place → IsNext test after (next_of found) → IsNextWithin taken test after (Some place.items)
  some_within place is next = subst (λ (o : Option (Vec ℕ Global)). IsNext test after (next_of o)) is next

  pub past_within : (place : Vec ℕ Global) (slice : List ℕ) → found ≡ Some place → slice ≡ place.items → ((later : List ℕ) → comes_before later slice ≡ false → taken later ≡ false) → IsNext test after (next_of found)
      → IsNextWithin taken test after None
  past_within place slice is same past next = λ p behind at. go p behind at (comes_before p place.items) refl
    where
      first : IsFirstAfter test after place.items
      first = subst (λ (o : Option (Vec ℕ Global)). IsNext test after (next_of o)) is next

      go : (p : List ℕ) → comes_before after p ≡ true → taken p ≡ true → (b : Bool) → comes_before p place.items ≡ b → test p ≡ false
      go p behind at true before = first.first p behind before
      go p behind at false later = let wrong : false ≡ true = sym (past p (ap (comes_before p) same ∙ later)) ∙ at in cc

-- ---- one step

module _ (m : Content) (ts : Tables) (i : List ℕ) (x : IndexOf CatalogueBody) (c : Catalogue) (q : Reduced) (holds : HoldsCatalogue m ts i x) (is : IsIndexOf c x)
    (boolean : is_boolean q ≡ true) (sound : is_sound q ≡ true) (sub : ℕ) (taken : List ℕ → Bool) (has : List ℕ → List ℕ → Bool) (route : Route)
    (stops : StopsWhere has (sub_place (table_at ts x.table) x sub) (row_words (table_at ts x.table) x) (may_meet q) route) (exact : Bool) (exact_is : exact ≡ is_exact q) where
  abbrev t : Table
  t = table_at ts x.table

  abbrev found : List ℤ
  found = taken_rows taken t x sub q

  rules : IsTable t
  rules = table_is ts x.table holds.target.table holds.tables.rules holds.target.there

  -- a row is tried by what the index is
  same_test : (o : Option ℤ) → row_if (is_met_row exact c q ts) o ≡ row_if (λ r. exact || row_meets t x q r) o
  same_test o =
      let same : row_if (λ r. exact || row_meets t x q r) o ≡ row_if (is_met_row exact c q ts) o =
      λ j. row_if (λ r. exact || some_meets (is.prefs j) q (texts_in (table_at ts (is.table j)) (is.column j) r)) o in
      sym same

  pub rows_begin : (first last : List ℕ) (rows : List ℤ) → last ≡ first → rows ≡ [] → ((place : List ℕ) → 1 ≤ length place → taken place ≡ true → comes_before first place ≡ true)
      → AreFoundTo found (sub_place t x sub) last rows
  rows_begin first last rows same none bound = found_begins t x q rules holds.prefs boolean sound sub taken first last rows same none bound

  pub rows_on : (last here place : List ℕ) (rows more : List ℤ) → place ≡ here → AreFoundTo found (sub_place t x sub) last rows → IsFirstAfter (stops_at has route) last here
      → more ≡ rows ++ cond (taken place) (row_if (is_met_row exact c q ts) (place_row place)) [] → AreFoundTo found (sub_place t x sub) here more
  rows_on last here place rows more same so_far next pushed =
      found_on t x q rules holds.prefs boolean sound sub taken has route stops last here rows more exact exact_is so_far next
      (pushed
      ∙ ap (λ (p : List ℕ). rows ++ cond (taken p) (row_if (is_met_row exact c q ts) (place_row p)) []) same
      ∙ ap (λ (l : List ℤ). rows ++ cond (taken here) l []) (same_test (place_row here)))

  pub rows_end : (last : List ℕ) (rows sorted : List ℤ) → AreFoundTo found (sub_place t x sub) last rows → IsNextWithin taken (stops_at has route) last None → keys_rise_by int_cmp sorted ≡ true
      → ((r : ℤ) → is_row_among r sorted ≡ is_row_among r rows) → sorted ≡ found
  rows_end last rows sorted so_far none rise same = all_found t x q rules holds.prefs boolean sound sub taken has route stops last rows sorted so_far none rise same

  abbrev rest_of : List ℕ → ℕ
  rest_of last = length (left t x sub q last)

  abbrev all_rows : ℕ
  all_rows = length (slot_key_rows t x q)

  pub texts_begin : (last : List ℕ) (old : Counts) → ReadSoFar exact (rest_of last) all_rows old old
  texts_begin last old = read_begins exact (rest_of last) all_rows old (left_few t x sub q last)

  pub texts_on : (last here : List ℕ) (old now mid new : Counts) → ReadSoFar exact (rest_of last) all_rows old now → IsFirstAfter (stops_at has route) last here
      → SameTexts now mid → ReadsTexts (cond exact 0 1) mid new → ReadSoFar exact (rest_of here) all_rows old new
  texts_on last here old now mid new so_far next same reads =
      read_on exact (rest_of last) (rest_of here) all_rows old now mid new so_far same reads (fewer_left t x q rules holds.prefs boolean sound sub taken has route stops last here next)

  as_rows : (old new : Counts) → ReadsTexts (cond exact 0 all_rows) old new → ReadsTexts (slot_rows t x q) old new
  as_rows old new reads = subst (λ (b : Bool). ReadsTexts (cond b 0 all_rows) old new) exact_is reads

  pub texts_stay : (rest : ℕ) (old now : Counts) → ReadSoFar exact rest all_rows old now → ReadsTexts (slot_rows t x q) old now
  texts_stay rest old now so_far = as_rows old now (read_stays exact rest all_rows old now so_far)

  pub texts_end : (rest : ℕ) (old now new : Counts) → ReadSoFar exact rest all_rows old now → SameTexts now new → ReadsTexts (slot_rows t x q) old new
  texts_end rest old now new so_far same = as_rows old new (read_ends exact rest all_rows old now new so_far same)

-- ---- the walk that was compiled

-- a stem that spells that of a sub-index is one of a catalogue
pub sub_is_catalogue : (i : List ℕ) (sub : ℕ) (made stem : List ℕ) → made ≡ sub_stem i sub → stem ≡ made → IsOfCatalogue stem
sub_is_catalogue i sub made stem is same = ap (is_kind 0x28) (same ∙ is)

-- it stops where the words of a row may meet the query
pub walk_there : (m : Content) (ts : Tables) (i : List ℕ) (x : IndexOf CatalogueBody) (sub : ℕ) (q : Reduced) (route : Route) (made one other : List ℕ) → HoldsCatalogue m ts i x → HasSub x sub → made ≡ sub_stem i sub → one ≡ made
    → other ≡ made → IsWalkFor m one (may_meet q) route → StopsWhere (has_place m other) (sub_place (table_at ts x.table) x sub) (row_words (table_at ts x.table) x) (may_meet q) route
walk_there m ts i x sub q route made one other holds has is first second walk =
    subst (λ (s : List ℕ). StopsWhere (has_place m s) (sub_place (table_at ts x.table) x sub) (row_words (table_at ts x.table) x) (may_meet q) route) (first ∙ sym second)
    (walk (sub_place (table_at ts x.table) x sub) (row_words (table_at ts x.table) x)
    (subst (λ (s : List ℕ). AreWordsOfRows m s (sub_place (table_at ts x.table) x sub) (row_words (table_at ts x.table) x)) (sym (first ∙ is)) (words_of_rows m ts i x holds sub has)))

-- ---- the row of a place, tried

module _ (test : ℤ → Bool) (place : List ℕ) (old : List RowKey) where
  -- what is there then
  abbrev with_it : Bool → List ℤ
  with_it taken = keys_of old ++ cond taken (row_if test (place_row place)) []

  pub tried : (taken : Bool) (spelt : Option RowKey) (row : RowKey) (met : Bool) (new : List RowKey) → option_map (λ (r : RowKey). r.0) spelt ≡ place_row place → spelt ≡ Some row → met ≡ test row.0
      → new ≡ old ++ cond met (row ∷ []) [] → taken ≡ true → keys_of new ≡ with_it taken
  tried taken spelt row met new read is met_is pushed at =
      ap keys_of pushed
      ∙ map-append (λ (r : RowKey). r.0) old (cond met (row ∷ []) [])
      ∙ ap (λ (l : List ℤ). keys_of old ++ l) (go met ∙ ap (λ (b : Bool). cond b (row.0 ∷ []) []) met_is ∙ ap (row_if test) (ap (option_map (λ (r : RowKey). r.0)) (sym is) ∙ read))
      ∙ sym (ap with_it at)
    where
      go : (b : Bool) → keys_of (cond b (row ∷ []) []) ≡ cond b (row.0 ∷ []) []
      go true = refl
      go false = refl

  pub untried : (taken : Bool) (spelt : Option RowKey) → option_map (λ (r : RowKey). r.0) spelt ≡ place_row place → spelt ≡ None → taken ≡ true → keys_of old ≡ with_it taken
  untried taken spelt read is at =
      sym (append-nil (keys_of old)) ∙ ap (λ (l : List ℤ). keys_of old ++ l) (ap (row_if test) (ap (option_map (λ (r : RowKey). r.0)) (sym is) ∙ read)) ∙ sym (ap with_it at)

  pub not_taken : (taken : Bool) → taken ≡ false → keys_of old ≡ with_it taken
  not_taken taken at = sym (append-nil (keys_of old)) ∙ sym (ap with_it at)
