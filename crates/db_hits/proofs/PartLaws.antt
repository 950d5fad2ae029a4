-- What is printed of hits with the values that a descriptor names is what a result set prints.
use Rattle.std.proofs.Common.{◌≡◌, ◌+◌, ℕ, suc, ℤ, Bool, true, false, cond, List, [], ◌∷◌, ◌++◌, map, Option, Some, None, refl, sym, ap, ◌∙◌}
use Rattle.std.specs.Prelude.{filter, slice_get}
use Rattle.std.specs.FinMap.{get}
use Rattle.std.specs.List.{cons_option, filter_map, flat_map, list_all, list_any}
use Rattle.std.specs.Option.{option_and_then, option_cmp, option_to_list}
use Rattle.std.specs.Ordering.{int_cmp, int_eq, is_eq, is_lt, ordering_then}
use Rattle.std.specs.List.{AllByRecursion, IsDistinct}
use Rattle.std.proofs.lemmas.Bool.{and_from, and_parts}
use Rattle.std.proofs.lemmas.List.{length-map}
use Rattle.ct_base.specs.declared.lists.Value.{Value}
use Rattle.ct_base.specs.laws.Orders.{less_from_test}
use Rattle.ct_entry.specs.Keys.{same_list}
use Rattle.ct_entry.specs.laws.Keys.{list_from_same, list_same}
use Rattle.ct_entry.specs.laws.Rows.{keys_below, keys_rise_by}
use Rattle.tb_table.specs.declared.columns.Column.{Column}
use Rattle.tb_table.specs.Rules.{AreTables}
use Rattle.tb_table.specs.Tables.{Table, Tables}
use Rattle.rs_result.specs.declared.descriptors.HitKey.{HitKey}
use Rattle.rs_result.specs.declared.descriptors.HitKey.TheVariants.{Score, Column as ColumnKey}
use Rattle.rs_result.specs.declared.descriptors.ResultPart.{ResultPart}
use Rattle.rs_result.specs.declared.descriptors.ResultPart.TheVariants.{Count, Hits, Group}
use Rattle.rs_result.specs.Comparing.{Ranked, nth_value, rank_cmp, ranked, turned, value_cmp}
use Rattle.rs_result.specs.Counts.{column_values, value_counts}
use Rattle.rs_result.specs.Orders.{HaveOwnKeys, cut, own_key}
use Rattle.rs_result.specs.Sorting.{sorted_by}
use Rattle.rs_result.specs.laws.Sorting.{sorted_through}
use Rattle.ix_search.specs.declared.hits.Hit.{Hit}
use Rattle.ix_search.specs.Hits.{hit_rows}
use Rattle.db_state.specs.Columns.{column_place, place_from}
use Rattle.db_rows.specs.Sources.{source_of, source_value}
use Rattle.db_rows.specs.Texts.{reads_among}
use Rattle.db_rows.specs.declared.sources.Source.{Source}
use Rattle.db_rows.specs.Values.{at_place, row_values, value_of_column, values_behind_key}
use Rattle.db_rows.specs.laws.Sources.{column_from, values_there}
use Rattle.db_rows.specs.laws.Texts.{HasNamed, either_first, either_second, named_among}
use Rattle.db_hits.specs.Descriptors.{is_in_part, is_key, is_named, named_texts}
use Rattle.db_hits.specs.Parts.{by_key, by_keys, count_line, group_line, hit_value, ordered_hits, part_text}
use Rattle.db_hits.specs.Rows.{Row, held_text, index_in, key_by, names_of, rank_line, rank_of, rank_read, sources_of}
use Rattle.db_hits.proofs.PrintLaws.{cut_mapped, flat_mapped}

-- ---- the value at the place of a name

abbrev there : Option ℕ → Option Value → Option Value
there None value = None
there (Some place) value = value

-- Take columns of which each with this name passes a test: among the values of those that pass it, the one at the place of the name is that in the column.
module _ (value : List ℕ → Option Value) (test : Column → Bool) (name : List ℕ) (named : HasNamed test name) where
  abbrev at_name : List (List ℕ) → Option Value
  at_name names = option_and_then (λ v. v) (slice_get (map value names) (index_in name names))

  value_in : (p : ℕ) (cs : List Column) → at_name (map (λ c. c.name) (filter test cs)) ≡ there (place_from p name cs) (value name)
  value_in p [] = refl
  value_in p (c ∷ cs) = go (same_list name c.name) refl (test c) refl (value_in (suc p) cs)
    where
      go : (s : Bool) → same_list name c.name ≡ s → (t : Bool) → test c ≡ t → at_name (map (λ c. c.name) (filter test cs)) ≡ there (place_from (suc p) name cs) (value name)
          → at_name (map (λ c. c.name) (cond t (c ∷ filter test cs) (filter test cs))) ≡ there (cond s (Some p) (place_from (suc p) name cs)) (value name)
      go true same true passes rest =
          ap (λ (b : Bool). option_and_then (λ (v : Option Value). v) (slice_get (value c.name ∷ map value (map (λ (c : Column). c.name) (filter test cs))) (cond b 0 (suc (index_in name (map (λ (c : Column). c.name) (filter test cs))))))) same
          ∙ ap value (sym (list_from_same name c.name same))
      go true same false passes rest = let wrong : false ≡ true = sym passes ∙ named c same in absurd (cc)
      go false other true passes rest =
          ap (λ (b : Bool). option_and_then (λ (v : Option Value). v) (slice_get (value c.name ∷ map value (map (λ (c : Column). c.name) (filter test cs))) (cond b 0 (suc (index_in name (map (λ (c : Column). c.name) (filter test cs))))))) other
          ∙ rest
      go false other false passes rest = rest

module _ (x : Table) (parts : List ResultPart) where
  abbrev names : List (List ℕ)
  names = names_of parts x.columns

  abbrev rank : ℤ × ℕ → Ranked
  rank h = rank_of x names h

  -- of a name of the descriptor
  value_at : (name : List ℕ) → HasNamed (is_named parts) name → (h : ℤ × ℕ) → nth_value (index_in name names) (rank h) ≡ hit_value x name h
  value_at name named h =
      value_in (λ n. hit_value x n h) (is_named parts) name named 0 x.columns ∙ go (column_place name x.columns) refl
    where
      go : (o : Option ℕ) → column_place name x.columns ≡ o → there o (hit_value x name h) ≡ hit_value x name h
      go None is = sym (ap (at_place h.0 (values_behind_key (get x.rows h.0))) is)
      go (Some place) is = refl

  -- ---- the order

  key_alike : (key : HitKey) → ((name : List ℕ) → is_key name key ≡ true → HasNamed (is_named parts) name) → (by : List HitKey)
      → ((a b : ℤ × ℕ) → rank_cmp (map (key_by names) by) (rank a) (rank b) ≡ by_keys x by a b)
      → (a b : ℤ × ℕ) → rank_cmp (map (key_by names) (key ∷ by)) (rank a) (rank b) ≡ by_keys x (key ∷ by) a b
  key_alike (Score down) named by rest a b = ap (ordering_then (by_key x (Score down) a b)) (rest a b)
  key_alike (ColumnKey name down) named by rest a b =
      let at : (h : ℤ × ℕ) → nth_value (index_in name names) (rank h) ≡ hit_value x name h = value_at name (named name (list_same name)) in
      λ i. ordering_then (turned down (option_cmp value_cmp (at a i) (at b i))) (rest a b i)

  keys_alike : (keys : List HitKey) → ((name : List ℕ) → list_any (is_key name) keys ≡ true → HasNamed (is_named parts) name)
      → (a b : ℤ × ℕ) → rank_cmp (map (key_by names) keys) (rank a) (rank b) ≡ by_keys x keys a b
  keys_alike [] named a b = refl
  keys_alike (key ∷ keys) named a b =
      key_alike key (λ name is. named name (either_first (is_key name key) _ is)) keys (keys_alike keys (λ name is. named name (either_second (is_key name key) _ is))) a b

  -- ---- the parts

  values_counted : (name : List ℕ) → HasNamed (is_named parts) name → (hs : List (ℤ × ℕ)) → column_values (index_in name names) (map rank hs) ≡ filter_map (hit_value x name) hs
  values_counted name named [] = refl
  values_counted name named (h ∷ hs) = put (nth_value (index_in name names) (rank h)) (hit_value x name h) (value_at name named h) (values_counted name named hs)
    where
      put : (o p : Option Value) → o ≡ p → column_values (index_in name names) (map rank hs) ≡ filter_map (hit_value x name) hs
          → option_to_list o ++ column_values (index_in name names) (map rank hs) ≡ cons_option p (filter_map (hit_value x name) hs)
      put None None is rest = rest
      put None (Some w) is rest = absurd (cc)
      put (Some v) None is rest = absurd (cc)
      put (Some v) (Some w) is rest = λ i. option_to_list (is i) ++ rest i

  part_is : (hs : List (ℤ × ℕ)) (part : ResultPart) → ((name : List ℕ) → is_in_part name part ≡ true → HasNamed (is_named parts) name) → held_text names (map rank hs) part ≡ part_text x hs part
  part_is hs Count named = ap count_line (length-map hs rank)
  part_is hs (Hits from to keys) named =
      let alike = keys_alike keys named in
      ap (λ (l : List Ranked). flat_map rank_line (cut from to l))
      (sorted_through (rank_cmp (map (key_by names) keys)) rank hs ∙ ap (map rank) (λ i. sorted_by (λ a b. alike a b i) hs))
      ∙ ap (flat_map rank_line) (cut_mapped rank from to (ordered_hits x keys hs))
      ∙ flat_mapped rank_line rank (cut from to (ordered_hits x keys hs))
  part_is hs (Group name) named = ap (λ (vs : List Value). flat_map group_line (value_counts vs)) (values_counted name (named name (list_same name)) hs)

  -- each column that the parts name passes the test
  parts_are : (hs : List (ℤ × ℕ)) (some : List ResultPart) → ((name : List ℕ) → list_any (is_in_part name) some ≡ true → HasNamed (is_named parts) name)
      → flat_map (held_text names (map rank hs)) some ≡ flat_map (part_text x hs) some
  parts_are hs [] named = refl
  parts_are hs (part ∷ some) named =
      λ i. part_is hs part (λ name is. named name (either_first (is_in_part name part) _ is)) i ++ parts_are hs some (λ name is. named name (either_second (is_in_part name part) _ is)) i

  all_named : (name : List ℕ) → list_any (is_in_part name) parts ≡ true → HasNamed (is_named parts) name
  all_named name is c same = ap (λ (n : List ℕ). list_any (is_in_part n) parts) (sym (list_from_same name c.name same)) ∙ is

  pub parts_text : (hs : List (ℤ × ℕ)) → flat_map (held_text names (map rank hs)) parts ≡ flat_map (part_text x hs) parts
  parts_text hs = parts_are hs parts all_named

-- ---- the values that are read

module _ (ts : Tables) (t : List ℕ) (x : Table) (tables : AreTables ts) (here : get ts t ≡ Some x) where
  value_read : (h : Hit) (name : List ℕ) → source_value h.key.0 (row_values ts t h.key.0) (source_of name x.columns) ≡ hit_value x name (h.key.0, h.score)
  value_read h name = sym (column_from ts t x tables here h.key.0 name) ∙ ap (λ (vs : List Value). value_of_column x.columns h.key.0 vs name) (values_there ts t x h.key.0 here)

  values_read : (h : Hit) (ns : List (List ℕ)) → map (source_value h.key.0 (row_values ts t h.key.0)) (sources_of x.columns ns) ≡ map (λ n. hit_value x n (h.key.0, h.score)) ns
  values_read h [] = refl
  values_read h (n ∷ ns) = λ i. value_read h n i ∷ values_read h ns i

  pub ranks_read : (ns : List (List ℕ)) (hits : List Hit) → map (rank_read ts t (sources_of x.columns ns)) hits ≡ map (rank_of x ns) (hit_rows hits)
  ranks_read ns [] = refl
  ranks_read ns (h ∷ hits) =
      let with_values : List (Option Value) → Ranked = λ vs. record { key = h.key.0; score = h.score; values = vs } in
      λ i. with_values (values_read h ns i) ∷ ranks_read ns hits i

-- ---- the texts that are read

module _ (parts : List ResultPart) (columns : List Column) where
  names_named : (cs : List Column) → list_all (reads_among (named_texts parts columns)) (sources_of columns (names_of parts cs)) ≡ true
  names_named [] = refl
  names_named (c ∷ cs) = go (is_named parts c) refl (names_named cs)
    where
      go : (b : Bool) → is_named parts c ≡ b → list_all (reads_among (named_texts parts columns)) (sources_of columns (names_of parts cs)) ≡ true
          → list_all (reads_among (named_texts parts columns)) (sources_of columns (map (λ c. c.name) (cond b (c ∷ filter (is_named parts) cs) (filter (is_named parts) cs)))) ≡ true
      go true named rest =
          and_from _ _
          (named_among (is_named parts) columns c.name (λ d same. ap (λ (n : List ℕ). list_any (is_in_part n) parts) (sym (list_from_same c.name d.name same)) ∙ named))
          rest
      go false other rest = rest

pub texts_named : (parts : List ResultPart) (columns : List Column) → list_all (reads_among (named_texts parts columns)) (sources_of columns (names_of parts columns)) ≡ true
texts_named parts columns = names_named parts columns columns

-- ---- keys of their own

differs_from_all : (k : ℤ) (js : List ℤ) → keys_below int_cmp k js ≡ true → AllByRecursion (λ j. int_eq k j ≡ false) js
differs_from_all k [] below = tt
differs_from_all k (j ∷ js) below =
    let first = and_parts (is_lt (int_cmp k j)) (keys_below int_cmp k js) below in
    (ap is_eq (less_from_test (int_cmp k j) first.0), differs_from_all k js first.1)

all_differ : (ks : List ℤ) → keys_rise_by int_cmp ks ≡ true → IsDistinct int_eq ks
unfolding IsDistinct
all_differ [] rise = tt
all_differ (k ∷ ks) rise =
    let first = and_parts (keys_below int_cmp k ks) (keys_rise_by int_cmp ks) rise in
    (differs_from_all k ks first.0, all_differ ks first.1)

ranked_keys : (rows : List Row) → map own_key rows ≡ map (λ (r : Ranked). r.key) (map ranked rows)
ranked_keys [] = refl
ranked_keys (row ∷ rows) = ap (λ (l : List ℤ). own_key row ∷ l) (ranked_keys rows)

read_keys : (ts : Tables) (t : List ℕ) (sources : List Source) (hits : List Hit) → map (λ (r : Ranked). r.key) (map (rank_read ts t sources) hits) ≡ map (λ h. h.0) (hit_rows hits)
read_keys ts t sources [] = refl
read_keys ts t sources (h ∷ hits) = ap (λ (l : List ℤ). h.key.0 ∷ l) (read_keys ts t sources hits)

pub own_rows : (ts : Tables) (t : List ℕ) (sources : List Source) (hits : List Hit) (rows : List Row) → map ranked rows ≡ map (rank_read ts t sources) hits
    → keys_rise_by int_cmp (map (λ h. h.0) (hit_rows hits)) ≡ true → HaveOwnKeys rows
own_rows ts t sources hits rows are rise =
    all_differ (map own_key rows) (ap (keys_rise_by int_cmp) (ranked_keys rows ∙ ap (map (λ (r : Ranked). r.key)) are ∙ read_keys ts t sources hits) ∙ rise)
