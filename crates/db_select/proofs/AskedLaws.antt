-- Of the rows that a search finds those that it asks for.
use Rattle.std.proofs.Common.{◌≡◌, ℕ, ℤ, Bool, true, false, cond, List, [], ◌∷◌, ◌++◌, length, map, Option, Some, None, refl, sym, ap, subst, ◌∙◌, ◌≤◌, ◌*◌, Result, Ok, Err, Vec, arith}
use Rattle.std.specs.Prelude.{◌&&◌, filter}
use Rattle.std.specs.FinMap.{entries, get}
use Rattle.std.specs.Ordering.{int_cmp, is_lt}
use Rattle.std.specs.declared.alloc.Global.{Global}
use Rattle.std.proofs.lemmas.Bool.{and_from, and_parts}
use Rattle.std.proofs.lemmas.List.Folds.{list_all-append}
use Rattle.ct_keep.specs.KeeperViews.{Counts}
use Rattle.ct_keep.specs.declared.keepers.KeepFault.{KeepFault}
use Rattle.ct_keep.specs.laws.RisingKeys.{below, entries_rise, rises}
use Rattle.ct_entry.specs.laws.Rows.{keys_below, keys_rise_by}
use Rattle.st_parse.specs.declared.statements.Cond.{Cond}
use Rattle.st_parse.specs.declared.statements.OrderItem.{OrderItem}
use Rattle.st_parse.specs.declared.statements.SelectList.{SelectList}
use Rattle.tb_table.specs.declared.columns.Column.{Column}
use Rattle.tb_table.specs.Tables.{Table, Tables}
use Rattle.cat_where.specs.declared.stages.Where.{Where}
use Rattle.ix_search.specs.declared.hits.Hit.{Hit}
use Rattle.ix_search.specs.Hits.{hit_rows}
use Rattle.ix_indexes.specs.Indexes.{Index}
use Rattle.db_state.specs.States.{StoreState}
use Rattle.db_rows.specs.Checking.{cond_column}
use Rattle.db_rows.specs.Meeting.{holds_of, key_meets}
use Rattle.db_rows.specs.Texts.{HasFewerLeft, RisesLeaving, conds_among, left_by, texts_alone}
use Rattle.db_rows.specs.laws.Texts.{leaves_then, rises_within}
use Rattle.db_rows.specs.Values.{value_of_column, values_behind_key}
use Rattle.db_find.specs.Finding.{AreEnough, found_in, search_rows}
use Rattle.db_find.specs.Searches.{Search}
use Rattle.db_find.specs.Seeking.{index_of_search}
use Rattle.db_find.specs.Structured.{asked_where}
use Rattle.db_select.specs.declared.finds.FoundRow.{FoundRow}
use Rattle.db_select.specs.Hits.{GivesAsked, HoldOwn, all_conds, asked_rows, found_rows, hits, hits_of, rows_left, unsearched_rows}
use Rattle.db_select.specs.Fields.{fields_among}
use Rattle.db_select.specs.Looking.{kept_texts, read_texts, shown_texts}
use Rattle.db_select.specs.Ordering.{in_order}
use Rattle.db_select.specs.Ranking.{OrdersRows, order_sources}
use Rattle.db_select.specs.Choosing.{Selection, asked_by}
use Rattle.db_select.proofs.HitSteps.{fewer_left, met_are}
use Rattle.db_select.proofs.ShownLaws.{conds_read, fewer_kept, fewer_shown, orders_kept}

-- ---- all conditions

pub filter_both : {X : Type 0} (p q : X → Bool) (xs : List X) → filter (λ x. p x && q x) xs ≡ filter q (filter p xs)
filter_both p q [] = refl
filter_both {X} p q (x ∷ xs) = go (p x) (filter_both p q xs)
  where
    go : (b : Bool) → filter (λ x. p x && q x) xs ≡ filter q (filter p xs)
        → cond (b && q x) (x ∷ filter (λ x. p x && q x) xs) (filter (λ x. p x && q x) xs) ≡ filter q (cond b (x ∷ filter p xs) (filter p xs))
    go true rest = ap (λ (l : List X). cond (q x) (x ∷ l) l) rest
    go false rest = rest

-- those of the search and those of the statement: a row meets all where it meets both
filter_all : (x : Table) (asked conds : List Cond) (hs : List (ℤ × ℕ))
    → filter (λ h. key_meets x (asked ++ conds) h.0) hs ≡ filter (λ h. key_meets x conds h.0) (filter (λ h. key_meets x asked h.0) hs)
filter_all x asked conds hs =
    let meets : ℤ → Cond → Bool = λ r cond. holds_of cond (value_of_column x.columns r (values_behind_key (get x.rows r)) (cond_column cond)) in
    let each : (h : ℤ × ℕ) → key_meets x (asked ++ conds) h.0 ≡ (key_meets x asked h.0 && key_meets x conds h.0) = λ h. list_all-append (meets h.0) asked conds in
    let parted : filter (λ h. key_meets x (asked ++ conds) h.0) hs ≡ filter (λ h. key_meets x asked h.0 && key_meets x conds h.0) hs = λ i. filter (λ (h : ℤ × ℕ). each h i) hs in
    parted ∙ filter_both (λ (h : ℤ × ℕ). key_meets x asked h.0) (λ (h : ℤ × ℕ). key_meets x conds h.0) hs

-- so the rows of enough that are asked for are those of all
pub enough_asked : (x : Table) (w : Where) (conds : List Cond) (rows enough : List (ℤ × ℕ)) → AreEnough x w.conds rows enough → asked_rows x w conds enough ≡ asked_rows x w conds rows
enough_asked x w conds rows enough are =
    ap (in_order x w.orders)
    (filter_all x w.conds conds enough
    ∙ ap (filter (λ (h : ℤ × ℕ). key_meets x conds h.0)) are.met
    ∙ sym (filter_all x w.conds conds rows))

-- ---- the keys of those that meet conditions rise

module _ (p : ℤ × ℕ → Bool) where
  below_filtered : (k : ℤ) (hs : List (ℤ × ℕ)) → keys_below int_cmp k (map (λ h. h.0) hs) ≡ true → keys_below int_cmp k (map (λ h. h.0) (filter p hs)) ≡ true
  below_filtered k [] low = refl
  below_filtered k (h ∷ hs) low =
      let both = and_parts (is_lt (int_cmp k h.0)) (keys_below int_cmp k (map (λ h. h.0) hs)) low in
      go (p h) both.0 (below_filtered k hs both.1)
    where
      go : (b : Bool) → is_lt (int_cmp k h.0) ≡ true → keys_below int_cmp k (map (λ h. h.0) (filter p hs)) ≡ true → keys_below int_cmp k (map (λ h. h.0) (cond b (h ∷ filter p hs) (filter p hs))) ≡ true
      go true first rest = and_from _ _ first rest
      go false first rest = rest

  pub rise_filtered : (hs : List (ℤ × ℕ)) → keys_rise_by int_cmp (map (λ h. h.0) hs) ≡ true → keys_rise_by int_cmp (map (λ h. h.0) (filter p hs)) ≡ true
  rise_filtered [] up = refl
  rise_filtered (h ∷ hs) up =
      let both = and_parts (keys_below int_cmp h.0 (map (λ h. h.0) hs)) (keys_rise_by int_cmp (map (λ h. h.0) hs)) up in
      go (p h) (below_filtered h.0 hs both.0) (rise_filtered hs both.1)
    where
      go : (b : Bool) → keys_below int_cmp h.0 (map (λ h. h.0) (filter p hs)) ≡ true → keys_rise_by int_cmp (map (λ h. h.0) (filter p hs)) ≡ true
          → keys_rise_by int_cmp (map (λ h. h.0) (cond b (h ∷ filter p hs) (filter p hs))) ≡ true
      go true first rest = and_from _ _ first rest
      go false first rest = rest

-- ---- as code holds them

-- rows that meet all conditions, put into the order asked for
pub rows_asked : (ts : Tables) (t : List ℕ) (x : Table) (w : Where) (conds all : List Cond) (orders : List OrderItem) (found : List Hit) (met rows : List FoundRow) → all ≡ all_conds w conds → orders ≡ w.orders
    → hits_of met ≡ filter (λ h. key_meets x all h.key.0) found → HoldOwn ts t met → OrdersRows ts t x orders met rows → GivesAsked x w conds found rows
rows_asked ts t x w conds all orders found met rows joined lent is own ordered rise =
    let p : ℤ × ℕ → Bool = λ h. key_meets x (all_conds w conds) h.0 in
    let are : hit_rows (hits_of met) ≡ filter p (hit_rows found) =
    met_are x (all_conds w conds) found (hits_of met) (hit_rows found) refl (is ∙ ap (λ (cs : List Cond). filter (λ (h : Hit). key_meets x cs h.key.0) found) joined) in
    let same : in_order x orders (hit_rows (hits_of met)) ≡ in_order x w.orders (filter p (hit_rows found)) = λ i. in_order x (lent i) (are i) in
    ordered own (ap (λ (hs : List (ℤ × ℕ)). keys_rise_by int_cmp (map (λ h. h.0) hs)) are ∙ rise_filtered p (hit_rows found) rise) ∙ same

-- rows that meet all conditions where nothing is searched, put into the order asked for
pub walked_are : (m : StoreState) (t : List ℕ) (x : Table) (conds : List Cond) (orders : List OrderItem) (met rows : List FoundRow) → hit_rows (hits_of met) ≡ unsearched_rows m t x conds
    → HoldOwn m.tables t met → OrdersRows m.tables t x orders met rows → hit_rows (hits_of rows) ≡ in_order x orders (unsearched_rows m t x conds)
walked_are m t x conds orders met rows are own ordered =
    let p : ℤ × ℕ → Bool = λ h. key_meets x conds h.0 in
    let all : keys_rise_by int_cmp (map (λ h. h.0) (found_rows m t x None)) ≡ true = all_rise (entries x.rows) (entries_rise int_cmp x.rows) in
    ordered own (ap (λ (hs : List (ℤ × ℕ)). keys_rise_by int_cmp (map (λ h. h.0) hs)) are ∙ rise_filtered p (found_rows m t x None) all) ∙ ap (in_order x orders) are
  where
    all_below : {V : Type 0} (k : ℤ) (es : List (ℤ × V)) → below int_cmp k es ≡ true → keys_below int_cmp k (map (λ h. h.0) (map {B = ℤ × ℕ} (λ e. (e.0, 0)) es)) ≡ true
    all_below k [] low = refl
    all_below k (e ∷ es) low = let both = and_parts (is_lt (int_cmp k e.0)) (below int_cmp k es) low in and_from _ _ both.0 (all_below k es both.1)

    all_rise : {V : Type 0} (es : List (ℤ × V)) → rises int_cmp es ≡ true → keys_rise_by int_cmp (map (λ h. h.0) (map {B = ℤ × ℕ} (λ e. (e.0, 0)) es)) ≡ true
    all_rise [] up = refl
    all_rise (e ∷ es) up = let both = and_parts (below int_cmp e.0 es) (rises int_cmp es) up in and_from _ _ (all_below e.0 es both.0) (all_rise es both.1)

-- of enough hits of a search these are the rows that a SELECT gives
pub searched_are : (m : StoreState) (t : List ℕ) (x : Table) (want : Selection) (s : Search) (conds : List Cond) (y : Index) (w : Where) (lent enough : List Hit) (rows : List FoundRow) → index_of_search m t x.columns s ≡ Some y
    → w ≡ asked_where s → lent ≡ enough → AreEnough x (asked_where s).conds (search_rows m.tables m.thesauri y s) (hit_rows enough) → GivesAsked x (asked_by want w) conds lent rows
    → hit_rows (hits_of rows) ≡ hits m t x want (Some s) conds
searched_are m t x want s conds y w lent enough rows needed asks same are gives =
    let lent_rows : asked_rows x (asked_by want w) conds (hit_rows lent) ≡ asked_rows x (asked_by want (asked_where s)) conds (hit_rows enough) =
    λ i. asked_rows x (asked_by want (asks i)) conds (hit_rows (same i)) in
    gives (ap (λ (l : List Hit). keys_rise_by int_cmp (map (λ h. h.0) (hit_rows l))) same ∙ are.rise)
    ∙ lent_rows
    ∙ enough_asked x (asked_by want (asked_where s)) conds (search_rows m.tables m.thesauri y s) (hit_rows enough) are
    ∙ sym (ap (λ (i : Option Index). asked_rows x (asked_by want (asked_where s)) conds (found_in m.tables m.thesauri i s)) needed)

-- ---- the texts that are read

-- of columns of which there are fewer, fewer texts are left
fewer_given : (some all : List ℕ) → HasFewerLeft some all → (result : Result (Vec FoundRow Global) KeepFault) → left_by (λ rows. rows_left some rows.items) result ≤ left_by (λ rows. rows_left all rows.items) result
fewer_given some all fewer (Ok rows) = fewer_left some all fewer rows.items
fewer_given some all fewer (Err fault) = omega arith

module _ (list : SelectList) (columns : List Column) (w : Where) (conds all : List Cond) (orders : List OrderItem) (kept : List ℕ) (n : ℕ) (joined : all ≡ all_conds w conds) (lent : orders ≡ w.orders)
    (kept_is : kept ≡ kept_texts list orders columns) where
  abbrev read : List ℕ
  read = read_texts list w.orders (all_conds w conds) columns

  -- n rows were tried
  pub rows_tried : (left : ℕ) (x y : Counts) → ((places : List ℕ) → HasFewerLeft kept places → conds_among places columns all ≡ true → RisesLeaving (texts_alone (n * length places)) left x y)
      → RisesLeaving (texts_alone (n * length read)) left x y
  rows_tried left x y tries =
      tries read
      (subst (λ (places : List ℕ). HasFewerLeft places read) (sym (kept_is ∙ ap (λ (os : List OrderItem). kept_texts list os columns) lent)) (fewer_kept list w.orders (all_conds w conds) columns))
      (ap (conds_among read columns) joined ∙ conds_read list w.orders (all_conds w conds) columns)

  -- and put into order
  pub rows_read : (met : List FoundRow) (result : Result (Vec FoundRow Global) KeepFault) (x y z : Counts)
      → ((places : List ℕ) → HasFewerLeft kept places → conds_among places columns all ≡ true → RisesLeaving (texts_alone (n * length places)) (rows_left kept met) x y)
      → ((places : List ℕ) → fields_among places (order_sources columns orders) ≡ true → RisesLeaving (texts_alone (rows_left places met)) (left_by (λ rows. rows_left places rows.items) result) y z)
      → RisesLeaving (texts_alone (n * length read)) (left_by (λ rows. rows_left (shown_texts list columns) rows.items) result) x z
  rows_read met result x y z tries orders_them =
      let among : fields_among kept (order_sources columns orders) ≡ true = ap (λ (places : List ℕ). fields_among places (order_sources columns orders)) kept_is ∙ orders_kept list columns orders in
      let fewer : HasFewerLeft (shown_texts list columns) kept = subst (HasFewerLeft (shown_texts list columns)) (sym kept_is) (fewer_shown list orders columns) in
      rises_within (n * length read) (n * length read) (left_by (λ rows. rows_left kept rows.items) result) (left_by (λ rows. rows_left (shown_texts list columns) rows.items) result) x z
      (omega arith) (fewer_given (shown_texts list columns) kept fewer result)
      (leaves_then (texts_alone (n * length read)) (rows_left kept met) (left_by (λ rows. rows_left kept rows.items) result) x y z (rows_tried (rows_left kept met) x y tries) (orders_them kept among))
