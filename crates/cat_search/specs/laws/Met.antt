-- What a query finds: which rows, and in which order.
use Rattle.std.proofs.Common.{ℕ, ℤ, ◌≡◌, ◌<ℤ◌, Bool, true, false, cond, ◌||◌, List, [], ◌∷◌, Contains, Option, Some, None, refl, sym, ap, subst, ◌∙◌}
use Rattle.std.specs.Prelude.{filter, is_some}
use Rattle.std.specs.List.{list_any}
use Rattle.std.specs.Option.{option_and_then}
use Rattle.std.specs.declared.cmp.Ordering.{Ordering}
use Rattle.std.specs.Ordering.{int_cmp, is_lt, eq_by_cmp, MatchOrdering}
use Rattle.std.specs.FinMap.{get, entries}
use Rattle.std.proofs.lemmas.Bool.{and_parts, and_from, or_left, or_right}
use Rattle.std.proofs.lemmas.Cmp.{int_cmp_total, int_ranked}
use Rattle.std.proofs.lemmas.List.Elements.{All-contains, filter_passes}
use Rattle.std.proofs.lemmas.Map.Views.{Contains-from_any}
use Rattle.ct_base.specs.declared.lists.Value.{Value}
use Rattle.ct_base.specs.laws.Orders.{equal_from_test}
use Rattle.ct_entry.specs.laws.Rows.{keys_below, keys_rise_by, listed_rise, has_key, keys_always}
use Rattle.tb_table.specs.Tables.{Table, text_in_column}
use Rattle.ix_kinds.specs.Rows.{row_keys_of}
use Rattle.ix_context.specs.Indexes.{texts_in}
use Rattle.cat_search.specs.Meeting.{row_meets, some_meets, met_rows}
use Rattle.cat_search.specs.Promises.{IsMet, MetRowsAreExact, MetRowsRise}

-- ---- the keys of a table's rows

-- each value counts
abbrev kept : List Value → Option (List ℕ)
kept vs = Some []

keys_are : (t : Table) → row_keys_of t ≡ Rattle.ct_entry.specs.Listings.keys_where kept (entries t.rows)
keys_are t = sym (keys_always (λ (vs : List Value). []) (entries t.rows))

pub keys_rise : (t : Table) → keys_rise_by int_cmp (row_keys_of t) ≡ true
keys_rise t = ap (keys_rise_by int_cmp) (keys_are t) ∙ listed_rise int_cmp kept t.rows

-- a row that the table has is listed
pub row_listed : (t : Table) (r : ℤ) → list_any (eq_by_cmp int_cmp r) (row_keys_of t) ≡ is_some (get t.rows r)
row_listed t r = ap (list_any (eq_by_cmp int_cmp r)) (keys_are t) ∙ has_key int_cmp int_cmp_total kept t.rows r ∙ there (get t.rows r)
  where
    there : (o : Option (List Value)) → is_some (option_and_then kept o) ≡ is_some o
    there None = refl
    there (Some vs) = refl

-- ---- in order

module _ (test : ℤ → Bool) where
  below_filter : (k : ℤ) (ks : List ℤ) → keys_below int_cmp k ks ≡ true → keys_below int_cmp k (filter test ks) ≡ true
  below_filter k [] low = refl
  below_filter k (j ∷ js) low =
      let b = and_parts (is_lt (int_cmp k j)) (keys_below int_cmp k js) low in
      go (test j) b.0 (below_filter k js b.1)
    where
      go : (b : Bool) → is_lt (int_cmp k j) ≡ true → keys_below int_cmp k (filter test js) ≡ true → keys_below int_cmp k (cond b (j ∷ filter test js) (filter test js)) ≡ true
      go true here rest = and_from (is_lt (int_cmp k j)) (keys_below int_cmp k (filter test js)) here rest
      go false here rest = rest

  pub filter_rises : (ks : List ℤ) → keys_rise_by int_cmp ks ≡ true → keys_rise_by int_cmp (filter test ks) ≡ true
  filter_rises [] up = refl
  filter_rises (k ∷ ks) up =
      let b = and_parts (keys_below int_cmp k ks) (keys_rise_by int_cmp ks) up in
      go (test k) (below_filter k ks b.0) (filter_rises ks b.1)
    where
      go : (b : Bool) → keys_below int_cmp k (filter test ks) ≡ true → keys_rise_by int_cmp (filter test ks) ≡ true → keys_rise_by int_cmp (cond b (k ∷ filter test ks) (filter test ks)) ≡ true
      go true low rest = and_from (keys_below int_cmp k (filter test ks)) (keys_rise_by int_cmp (filter test ks)) low rest
      go false low rest = rest

pub met_rows_rise : MetRowsRise
met_rows_rise t x q = filter_rises (row_meets t x q) (row_keys_of t) (keys_rise t)

-- ---- which rows

-- a row of which there is a text is there
pub seen_there : (t : Table) (column : ℕ) (r : ℤ) (text : List ℕ) → texts_in t column r ≡ Some text → is_some (get t.rows r) ≡ true
seen_there t column r text seen = go (get t.rows r) seen
  where
    go : (o : Option (List Value)) → option_and_then (λ vs. text_in_column vs column) o ≡ Some text → is_some o ≡ true
    go None e = cc
    go (Some vs) e = refl

-- keys that tie are one
pub same_key : (a b : ℤ) → eq_by_cmp int_cmp a b ≡ true → a ≡ b
same_key a b h = subst (λ (o : Ordering). MatchOrdering o (a <ℤ b) (a ≡ b) (b <ℤ a)) (equal_from_test (int_cmp a b) h) (int_ranked a b (int_cmp a b) refl)

-- one that passes a test is left by it
pub left_listed : (test : ℤ → Bool) (r : ℤ) → test r ≡ true → (ks : List ℤ) → list_any (eq_by_cmp int_cmp r) ks ≡ true → list_any (eq_by_cmp int_cmp r) (filter test ks) ≡ true
left_listed test r pass [] there = there
left_listed test r pass (k ∷ ks) there = go (left_listed test r pass ks) (eq_by_cmp int_cmp r k) refl (test k) refl there
  where
    go : (list_any (eq_by_cmp int_cmp r) ks ≡ true → list_any (eq_by_cmp int_cmp r) (filter test ks) ≡ true) → (e : Bool) → eq_by_cmp int_cmp r k ≡ e → (b : Bool) → test k ≡ b
        → (e || list_any (eq_by_cmp int_cmp r) ks) ≡ true → list_any (eq_by_cmp int_cmp r) (cond b (k ∷ filter test ks) (filter test ks)) ≡ true
    go later true is true stays there = or_left (eq_by_cmp int_cmp r k) (list_any (eq_by_cmp int_cmp r) (filter test ks)) is
    go later true is false goes there = let wrong : false ≡ true = sym goes ∙ ap test (sym (same_key r k is)) ∙ pass in cc
    go later false is true stays there = or_right (eq_by_cmp int_cmp r k) (list_any (eq_by_cmp int_cmp r) (filter test ks)) (later there)
    go later false is false goes there = later there

pub met_rows_are_exact : MetRowsAreExact
met_rows_are_exact t x q r = (from, to)
  where
    by_text : (o : Option (List ℕ)) → texts_in t x.column r ≡ o → some_meets x.prefs q o ≡ true → IsMet t x q r
    by_text None seen h = absurd (cc)
    by_text (Some text) seen h = record { text = text; seen = seen; meets = h }

    from : Contains (met_rows t x q) r → IsMet t x q r
    from among = by_text (texts_in t x.column r) refl (All-contains (λ (k : ℤ). row_meets t x q k ≡ true) (met_rows t x q) r (filter_passes (row_meets t x q) (row_keys_of t)) among)

    to : IsMet t x q r → Contains (met_rows t x q) r
    to met =
        Contains-from_any same_key r (met_rows t x q)
        (left_listed (row_meets t x q) r (ap (some_meets x.prefs q) met.seen ∙ met.meets) (row_keys_of t) (row_listed t r ∙ seen_there t x.column r met.text met.seen))
