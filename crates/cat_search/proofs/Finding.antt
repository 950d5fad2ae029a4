-- What a walk over a sub-index finds of a catalogue that the content holds.
use Rattle.std.proofs.Common.{ℕ, ℤ, ◌≡◌, ◌+◌, ◌-◌, ◌≤◌, inl, inr, Bool, true, false, cond, ◌&&◌, ◌||◌, List, [], ◌∷◌, ◌++◌, length, drop, map, Option, Some, None, refl, sym, ap, subst, ◌∙◌, arith, length-append}
use Rattle.std.specs.Prelude.{filter, is_some}
use Rattle.std.specs.List.{AllByRecursion, list_any}
use Rattle.std.specs.Ordering.{int_cmp, eq_by_cmp}
use Rattle.std.specs.FinMap.{get, entries}
use Rattle.std.proofs.lemmas.Bool.{and_parts, and_from, or_cases, or_left, or_right}
use Rattle.std.proofs.lemmas.Cmp.{int_cmp_total}
use Rattle.std.proofs.lemmas.List.{drop_at}
use Rattle.std.proofs.lemmas.List.Folds.{list_any-append}
use Rattle.ct_base.specs.declared.lists.Value.{Value}
use Rattle.ct_base.specs.laws.Bools.{or_false, same_tests}
use Rattle.ct_bytes.specs.RowKeys.{row_bytes}
use Rattle.ct_bytes.specs.laws.RowKeys.{length-row_bytes}
use Rattle.ct_keep.specs.laws.FoundKeys.{AllKeys, all_keys}
use Rattle.ct_entry.specs.Keys.{IsRow}
use Rattle.ct_entry.specs.Listings.{row_of}
use Rattle.ct_entry.specs.laws.Rows.{keys_rise_by, row_of-row_part}
use Rattle.tb_table.specs.Tables.{Table}
use Rattle.tb_table.specs.Rules.{IsTable}
use Rattle.tx_settings.specs.PrefsBytes.{IsPrefs}
use Rattle.q_tree.specs.ReducedQueries.{Reduced}
use Rattle.q_tree.specs.Soundness.{is_sound}
use Rattle.ix_kinds.specs.Rows.{row_keys_of}
use Rattle.ix_kinds.specs.Indextypes.{IndexOf}
use Rattle.ix_kinds.specs.laws.Tables.{and_false}
use Rattle.ix_context.specs.Indexes.{texts_in}
use Rattle.ix_context.specs.Postings.{IsShortOrNone}
use Rattle.ix_context.specs.laws.Texts.{texts_short}
use Rattle.cat_index.specs.Filings.{text_words}
use Rattle.cat_index.specs.Catalogues.{CatalogueBody, filing_in}
use Rattle.cat_walk.specs.Places.{IsFirstAfter, comes_before}
use Rattle.cat_walk.specs.Walks.{Route, stops_at}
use Rattle.cat_walk.specs.laws.Orders.{before_then, place_itself, same_place}
use Rattle.cat_search.specs.Queries.{is_boolean}
use Rattle.cat_search.specs.Meeting.{row_words, some_meets, row_meets, met_rows}
use Rattle.cat_search.specs.SubIndexes.{values_in, sub_place, place_row, taken_rows, is_row_among, IsNextWithin}
use Rattle.cat_search.specs.Words.{is_exact, may_meet, has_slot_word}
use Rattle.cat_search.specs.Looking.{has_slot_key, slot_key_rows}
use Rattle.cat_search.specs.Walking.{IsPlaceOf, StopsWhere, row_if}
use Rattle.cat_search.specs.laws.Few.{filters_fewer}
use Rattle.cat_search.specs.laws.Met.{filter_rises, left_listed, met_rows_rise, row_listed, same_key, seen_there}
use Rattle.cat_search.specs.laws.Ruling.{may_has_slot, no_words}
use Rattle.cat_search.specs.laws.Slots.{words_rule_out, words_tell}
use Rattle.cat_search.proofs.CatalogueEntries.{some_place}
use Rattle.cat_search.proofs.RowLists.{among_filter, each_among, key_itself, one_less, same_lists}

-- ---- places

module _ (t : Table) (x : IndexOf CatalogueBody) (sub : ℕ) where
  -- the row of a place
  row_of_place : (r : ℤ) → IsRow r → place_row (sub_place t x sub r) ≡ Some r
  row_of_place r row = ap row_of (ap (λ (n : ℕ). drop n (values ++ row_bytes r)) count ∙ drop_at values (row_bytes r) (length values) refl) ∙ row_of-row_part r row
    where
      values : List ℕ
      values = values_in sub (filing_in x t r)

      count : length (values ++ row_bytes r) - 8 ≡ length values
      count = let all = length-append values (row_bytes r) in let eight = length-row_bytes r in omega (arith, all, eight)

  places_apart : (r s : ℤ) → IsRow r → IsRow s → sub_place t x sub r ≡ sub_place t x sub s → r ≡ s
  places_apart r s row other same = let one : Some r ≡ Some s = sym (row_of_place r row) ∙ ap place_row same ∙ row_of_place s other in cc

-- the rows that are left behind a place of a sub-index, of those with a word that a slot takes
abbrev pub left : Table → IndexOf CatalogueBody → ℕ → Reduced → List ℕ → List ℤ
left t x sub q last = filter (λ r. has_slot_key t x q r && comes_before last (sub_place t x sub r)) (row_keys_of t)

pub left_few : (t : Table) (x : IndexOf CatalogueBody) (sub : ℕ) (q : Reduced) (last : List ℕ) → length (left t x sub q last) ≤ length (slot_key_rows t x q)
left_few t x sub q last =
    filters_fewer (λ r. has_slot_key t x q r && comes_before last (sub_place t x sub r)) (has_slot_key t x q) (λ r h. (and_parts (has_slot_key t x q r) (comes_before last (sub_place t x sub r)) h).0) (row_keys_of t)

-- THE ROWS FOUND SO FAR: each is one of those to be found, and each of these whose place doesn't stand behind the last one is there.
pub record AreFoundTo (found : List ℤ) (place_of : ℤ → List ℕ) (last : List ℕ) (rows : List ℤ) : Type 0 where
  pub from : (r : ℤ) → is_row_among r rows ≡ true → is_row_among r found ≡ true
  pub to : (r : ℤ) → comes_before last (place_of r) ≡ false → is_row_among r found ≡ true → is_row_among r rows ≡ true

-- ---- rows

-- the keys of a table's rows are keys of rows
each_row : (t : Table) → IsTable t → AllByRecursion IsRow (row_keys_of t)
each_row t is = go (entries t.rows) (all_keys int_cmp int_cmp_total IsRow t.rows is.keys)
  where
    go : (es : List (ℤ × List Value)) → AllKeys int_cmp IsRow es → AllByRecursion IsRow (map (λ e. e.0) es)
    go [] all = tt
    go (e ∷ es) all = (all.0, go es all.1)

module _ (t : Table) (x : IndexOf CatalogueBody) (q : Reduced) (is_table : IsTable t) (prefs : IsPrefs x.prefs) (boolean : is_boolean q ≡ true) (sound : is_sound q ≡ true) where
  abbrev test : ℤ → Bool
  test r = row_meets t x q r

  -- a row that meets the query may do so by its words
  rules_out : (r : ℤ) → test r ≡ true → may_meet q (row_words t x r) ≡ true
  rules_out r h = go (texts_in t x.column r) (texts_short t is_table x.column r) h
    where
      go : (o : Option (List ℕ)) → IsShortOrNone o → some_meets x.prefs q o ≡ true → may_meet q (text_words x.prefs o) ≡ true
      go None short h = cc
      go (Some text) short h = words_rule_out x.prefs text q prefs (omega (arith, short)) boolean sound h

  -- one whose words have one for a slot is there
  slot_there : (r : ℤ) → has_slot_key t x q r ≡ true → list_any (eq_by_cmp int_cmp r) (row_keys_of t) ≡ true
  slot_there r h = row_listed t r ∙ go (texts_in t x.column r) refl h
    where
      go : (o : Option (List ℕ)) → texts_in t x.column r ≡ o → has_slot_word q (text_words x.prefs o) ≡ true → is_some (get t.rows r) ≡ true
      go None seen h = let wrong : false ≡ true = sym (no_words q) ∙ h in cc
      go (Some text) seen h = seen_there t x.column r text seen

  may_slot : (r : ℤ) → may_meet q (row_words t x r) ≡ true → has_slot_key t x q r ≡ true
  may_slot r h = may_has_slot (row_words t x r) q sound h

  -- where the query is exact, one whose words may meet it does
  tells : (r : ℤ) → is_exact q ≡ true → may_meet q (row_words t x r) ≡ true → test r ≡ true
  tells r exact h = go (texts_in t x.column r) (texts_short t is_table x.column r) h
    where
      go : (o : Option (List ℕ)) → IsShortOrNone o → may_meet q (text_words x.prefs o) ≡ true → some_meets x.prefs q o ≡ true
      go None short h = let wrong : false ≡ true = sym (no_words q) ∙ may_has_slot [] q sound h in cc
      go (Some text) short h = words_tell x.prefs text q prefs (omega (arith, short)) boolean sound exact ∙ h

  -- rows are found along a sub-index, by the places that are taken there
  module _ (sub : ℕ) (taken : List ℕ → Bool) where
    abbrev place_of : ℤ → List ℕ
    place_of r = sub_place t x sub r

    abbrev found : List ℤ
    found = taken_rows taken t x sub q

    -- one that is found is taken, meets the query, and is a row
    pub record IsFound (r : ℤ) : Type 0 where
      pub is_row : IsRow r
      pub at : taken (place_of r) ≡ true
      pub meets : test r ≡ true

    pub found_is : (r : ℤ) → is_row_among r found ≡ true → IsFound r
    found_is r h =
        let outer = among_filter (λ s. taken (place_of s)) r (met_rows t x q) h in
        let inner = among_filter test r (row_keys_of t) outer.1 in
        record { is_row = each_among IsRow r (row_keys_of t) (each_row t is_table) inner.1; at = outer.0; meets = inner.0 }

    pub is_found : (r : ℤ) → taken (place_of r) ≡ true → test r ≡ true → is_row_among r found ≡ true
    is_found r at met =
        left_listed (λ s. taken (place_of s)) r at (met_rows t x q) (left_listed test r met (row_keys_of t) (slot_there r (may_slot r (rules_out r met))))

    pub found_rises : keys_rise_by int_cmp found ≡ true
    found_rises = filter_rises (λ s. taken (place_of s)) (met_rows t x q) (met_rows_rise t x q)

    -- before the first place that is taken there is none
    pub found_begins : (first last : List ℕ) (rows : List ℤ) → last ≡ first → rows ≡ [] → ((place : List ℕ) → 1 ≤ length place → taken place ≡ true → comes_before first place ≡ true) → AreFoundTo found place_of last rows
    found_begins first last rows is none bound = record { from = from; to = to }
      where
        from : (r : ℤ) → is_row_among r rows ≡ true → is_row_among r found ≡ true
        from r h = let wrong : false ≡ true = sym (ap (is_row_among r) none) ∙ h in cc

        to : (r : ℤ) → comes_before last (place_of r) ≡ false → is_row_among r found ≡ true → is_row_among r rows ≡ true
        to r not h =
            let wrong : false ≡ true = sym not ∙ ap (λ (p : List ℕ). comes_before p (place_of r)) is ∙ bound (place_of r) (some_place (values_in sub (filing_in x t r)) r) (found_is r h).at in
            cc

    module _ (has : List ℕ → List ℕ → Bool) (route : Route) (stops : StopsWhere has (sub_place t x sub) (row_words t x) (may_meet q) route) where
      -- the walk stops at the place of each that is to be found
      at_found : (r : ℤ) → is_row_among r found ≡ true → stops_at has route (place_of r) ≡ true
      at_found r h = let is = found_is r h in stops.rows r is.is_row ∙ rules_out r is.meets

      -- the place at which the walk stops next is that of a row
      pub record IsStop (last here : List ℕ) : Type 0 where
        pub row : ℤ
        pub is_row : IsRow row
        pub place : here ≡ place_of row
        pub may : may_meet q (row_words t x row) ≡ true
        pub first : IsFirstAfter (stops_at has route) last (place_of row)

      pub stop_of : (last here : List ℕ) → IsFirstAfter (stops_at has route) last here → IsStop last here
      stop_of last here next = go (stops.only here next.at)
        where
          go : IsPlaceOf (sub_place t x sub) here → IsStop last here
          go part =
              let first = subst (IsFirstAfter (stops_at has route) last) part.2 next in
              record { row = part.0; is_row = part.1; place = part.2; may = sym (stops.rows part.0 part.1) ∙ first.at; first = first }

      -- before the next place each that is to be found was found
      between : (last here : List ℕ) (rows : List ℤ) → AreFoundTo found place_of last rows → IsFirstAfter (stops_at has route) last here → (r : ℤ) → comes_before (place_of r) here ≡ true → is_row_among r found ≡ true → is_row_among r rows ≡ true
      between last here rows so_far next r before h = go (comes_before last (place_of r)) refl
        where
          go : (b : Bool) → comes_before last (place_of r) ≡ b → is_row_among r rows ≡ true
          go true behind = let wrong : false ≡ true = sym (next.first (place_of r) behind before) ∙ at_found r h in cc
          go false not = so_far.to r not h

      -- the row at a place, if it is to be found
      abbrev if_found : ℤ → List ℤ
      if_found r = cond (taken (place_of r) && test r) (r ∷ []) []

      among_it : (s r : ℤ) → is_row_among r (if_found s) ≡ true → is_row_among r found ≡ true
      among_it s r h = go (taken (place_of s)) refl (test s) refl h
        where
          go : (a : Bool) → taken (place_of s) ≡ a → (b : Bool) → test s ≡ b → is_row_among r (cond (a && b) (s ∷ []) []) ≡ true → is_row_among r found ≡ true
          go true at true met h = subst (λ (z : ℤ). is_row_among z found ≡ true) (sym (same_key r s (sym (or_false (eq_by_cmp int_cmp r s)) ∙ h))) (is_found s at met)
          go true at false met h = cc
          go false at b met h = cc

      it_is_there : (r : ℤ) → is_row_among r found ≡ true → is_row_among r (if_found r) ≡ true
      it_is_there r h =
          let is = found_is r h in
          ap (λ (b : Bool). is_row_among r (cond b (r ∷ []) [])) (and_from (taken (place_of r)) (test r) is.at is.meets) ∙ ap (λ (b : Bool). b || false) (key_itself r)

      -- the step to a place
      found_at : (last here : List ℕ) (rows more : List ℤ) (next : IsFirstAfter (stops_at has route) last here) → AreFoundTo found place_of last rows → (s : ℤ) → IsRow s → here ≡ place_of s → more ≡ rows ++ if_found s → AreFoundTo found place_of here more
      found_at last here rows more next so_far s is_row at pushed = record { from = from; to = to }
        where
          both : (r : ℤ) → is_row_among r more ≡ (is_row_among r rows || is_row_among r (if_found s))
          both r = ap (is_row_among r) pushed ∙ list_any-append (eq_by_cmp int_cmp r) rows (if_found s)

          from : (r : ℤ) → is_row_among r more ≡ true → is_row_among r found ≡ true
          from r h = elim (or_cases (is_row_among r rows) (is_row_among r (if_found s)) (sym (both r) ∙ h)) [
            | inl old ↦ so_far.from r old
            | inr it ↦ among_it s r it
          ]

          -- its place is this one
          it : (r : ℤ) → is_row_among r found ≡ true → place_of r ≡ here → is_row_among r (if_found s) ≡ true
          it r h same =
              let one = places_apart t x sub r s (found_is r h).is_row is_row (same ∙ at) in
              subst (λ (z : ℤ). is_row_among r (if_found z) ≡ true) one (it_is_there r h)

          parts : (r : ℤ) → comes_before here (place_of r) ≡ false → is_row_among r found ≡ true → (b : Bool) → comes_before (place_of r) here ≡ b → (is_row_among r rows || is_row_among r (if_found s)) ≡ true
          parts r not h true before = or_left (is_row_among r rows) (is_row_among r (if_found s)) (between last here rows so_far next r before h)
          parts r not h false after = or_right (is_row_among r rows) (is_row_among r (if_found s)) (it r h (same_place (place_of r) here after not))

          to : (r : ℤ) → comes_before here (place_of r) ≡ false → is_row_among r found ≡ true → is_row_among r more ≡ true
          to r not h = both r ∙ parts r not h (comes_before (place_of r) here) refl

      -- as code makes it: the row of the place is added, if the place is taken and the row is met
      pub found_on : (last here : List ℕ) (rows more : List ℤ) (exact : Bool) → exact ≡ is_exact q → AreFoundTo found place_of last rows → IsFirstAfter (stops_at has route) last here
          → more ≡ rows ++ cond (taken here) (row_if (λ r. exact || test r) (place_row here)) [] → AreFoundTo found place_of here more
      found_on last here rows more exact exact_is so_far next pushed =
          let s = stop_of last here next in
          found_at last here rows more next so_far s.row s.is_row s.place (pushed ∙ ap (λ (l : List ℤ). rows ++ l) (added s))
        where
          kept : (r : ℤ) (e : Bool) → e ≡ is_exact q → may_meet q (row_words t x r) ≡ true → cond (e || test r) (r ∷ []) [] ≡ cond (test r) (r ∷ []) []
          kept r true e may = sym (ap (λ (b : Bool). cond b (r ∷ []) []) (tells r (sym e) may))
          kept r false e may = refl

          joined : (r : ℤ) (b : Bool) → cond b (cond (test r) (r ∷ []) []) [] ≡ cond (b && test r) (r ∷ []) []
          joined r true = refl
          joined r false = refl

          added : (s : IsStop last here) → cond (taken here) (row_if (λ r. exact || test r) (place_row here)) [] ≡ if_found s.row
          added s =
              ap (λ (p : List ℕ). cond (taken p) (row_if (λ r. exact || test r) (place_row p)) []) s.place
              ∙ ap (λ (o : Option ℤ). cond (taken (place_of s.row)) (row_if (λ r. exact || test r) o) []) (row_of_place t x sub s.row s.is_row)
              ∙ ap (λ (l : List ℤ). cond (taken (place_of s.row)) l []) (kept s.row exact exact_is s.may)
              ∙ joined s.row (taken (place_of s.row))

      -- where the walk stops nowhere more that is taken, all were found
      pub all_found : (last : List ℕ) (rows sorted : List ℤ) → AreFoundTo found place_of last rows → IsNextWithin taken (stops_at has route) last None → keys_rise_by int_cmp sorted ≡ true
          → ((r : ℤ) → is_row_among r sorted ≡ is_row_among r rows) → sorted ≡ found
      all_found last rows sorted so_far none rise same =
          same_lists sorted found rise found_rises (λ r. same r ∙ same_tests (is_row_among r rows) (is_row_among r found) (so_far.from r) (λ h. go r h (comes_before last (place_of r)) refl))
        where
          go : (r : ℤ) → is_row_among r found ≡ true → (b : Bool) → comes_before last (place_of r) ≡ b → is_row_among r rows ≡ true
          go r h true behind = let wrong : false ≡ true = sym (none (place_of r) behind (found_is r h).at) ∙ at_found r h in cc
          go r h false not = so_far.to r not h

      -- fewer rows are left that may be read
      pub fewer_left : (last here : List ℕ) → IsFirstAfter (stops_at has route) last here → length (left t x sub q here) + 1 ≤ length (left t x sub q last)
      fewer_left last here next =
          let s = stop_of last here next in
          let slot = may_slot s.row s.may in
          one_less (λ r. has_slot_key t x q r && comes_before here (place_of r)) (λ r. has_slot_key t x q r && comes_before last (place_of r))
          (λ r h.
          let parts = and_parts (has_slot_key t x q r) (comes_before here (place_of r)) h in
          and_from (has_slot_key t x q r) (comes_before last (place_of r)) parts.0 (before_then last here (place_of r) next.behind parts.1))
          s.row
          (and_false (has_slot_key t x q s.row) (comes_before here (place_of s.row)) (ap (λ (p : List ℕ). comes_before p (place_of s.row)) s.place ∙ place_itself (place_of s.row)))
          (and_from (has_slot_key t x q s.row) (comes_before last (place_of s.row)) slot s.first.behind)
          (row_keys_of t) (slot_there s.row slot)
