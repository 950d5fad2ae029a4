-- All rows that a search finds are enough, since they are in the order of their keys.
use Rattle.std.proofs.Common.{◌≡◌, ℕ, ℤ, Bool, true, false, List, [], ◌∷◌, length, map, Option, Some, None, refl, sym, ap, ◌∙◌, arith}
use Rattle.std.specs.Prelude.{filter, nat_lt}
use Rattle.std.specs.Bool.{if◌then◌else◌}
use Rattle.std.specs.FinMap.{entries}
use Rattle.std.specs.List.{filter_map, cons_option}
use Rattle.std.specs.Ordering.{int_cmp, is_lt}
use Rattle.std.proofs.lemmas.Bool.{and_parts, and_from}
use Rattle.ct_keep.specs.laws.RisingKeys.{below, rises, entries_rise}
use Rattle.ct_entry.specs.laws.Rows.{keys_below, keys_rise_by}
use Rattle.st_parse.specs.declared.statements.Cond.{Cond}
use Rattle.tb_table.specs.Tables.{Table, Tables}
use Rattle.tx_settings.specs.declared.preferences.Prefs.{Prefs}
use Rattle.q_tree.specs.ReducedQueries.{Reduced}
use Rattle.ix_docmap.specs.Marks.{Mark, Pending, Settled}
use Rattle.ix_kinds.specs.Rows.{table_at}
use Rattle.ix_kinds.specs.Indextypes.{IndexOf}
use Rattle.ix_context.specs.Indexes.{ContextIndex, texts_in}
use Rattle.ix_search.specs.Finding.{query_score, scored, found_at, found}
use Rattle.db_rows.specs.Meeting.{key_meets}
use Rattle.db_find.specs.Querying.{Meaning, Refuses, Finds}
use Rattle.db_find.specs.Catalogues.{unscored}
use Rattle.db_find.specs.Finding.{AreEnough, found_by}

pub all_are_enough : (t : Table) (conds : List Cond) (rows enough : List (ℤ × ℕ)) → enough ≡ rows → keys_rise_by int_cmp (map (λ h. h.0) rows) ≡ true → AreEnough t conds rows enough
all_are_enough t conds rows enough same up =
    let count : length enough ≡ length rows = ap length same in
    record {
      met = ap (filter (λ h. key_meets t conds h.0)) same;
      few = omega (arith, count);
      rise = ap (λ (l : List (ℤ × ℕ)). keys_rise_by int_cmp (map (λ h. h.0) l)) same ∙ up;
    }

-- ---- CONTAINS

-- what is given of entries whose keys rise, each under its own key, has rising keys
module _ {X : Type 0} (f : ℤ × X → Option (ℤ × ℕ)) (own : (e : ℤ × X) (h : ℤ × ℕ) → f e ≡ Some h → h.0 ≡ e.0) where
  abbrev keys_given : Option (ℤ × ℕ) → List (ℤ × X) → List ℤ
  keys_given o es = map (λ h. h.0) (cons_option o (filter_map f es))

  below_given : (k : ℤ) (es : List (ℤ × X)) → below int_cmp k es ≡ true → keys_below int_cmp k (keys_given None es) ≡ true
  below_given k [] low = refl
  below_given k (e ∷ es) low =
      let b = and_parts (is_lt (int_cmp k e.0)) (below int_cmp k es) low in
      go (f e) refl b.0 (below_given k es b.1)
    where
      go : (o : Option (ℤ × ℕ)) → f e ≡ o → is_lt (int_cmp k e.0) ≡ true → keys_below int_cmp k (keys_given None es) ≡ true → keys_below int_cmp k (keys_given o es) ≡ true
      go None is here rest = rest
      go (Some h) is here rest = and_from (is_lt (int_cmp k h.0)) (keys_below int_cmp k (keys_given None es)) (ap (λ (z : ℤ). is_lt (int_cmp k z)) (own e h is) ∙ here) rest

  rises_given : (es : List (ℤ × X)) → rises int_cmp es ≡ true → keys_rise_by int_cmp (keys_given None es) ≡ true
  rises_given [] up = refl
  rises_given (e ∷ es) up =
      let b = and_parts (below int_cmp e.0 es) (rises int_cmp es) up in
      go (f e) refl (below_given e.0 es b.0) (rises_given es b.1)
    where
      go : (o : Option (ℤ × ℕ)) → f e ≡ o → keys_below int_cmp e.0 (keys_given None es) ≡ true → keys_rise_by int_cmp (keys_given None es) ≡ true → keys_rise_by int_cmp (keys_given o es) ≡ true
      go None is low rest = rest
      go (Some h) is low rest =
          and_from (keys_below int_cmp h.0 (keys_given None es)) (keys_rise_by int_cmp (keys_given None es)) (ap (λ (z : ℤ). keys_below int_cmp z (keys_given None es)) (own e h is) ∙ low) rest

own_scored : (p : Prefs) (q : Reduced) (n : ℕ) (r : ℤ) (text : Option (List ℕ)) (h : ℤ × ℕ) → scored p q n r text ≡ Some h → h.0 ≡ r
own_scored p q n r None h is = absurd (cc)
own_scored p q n r (Some text) h is = go (nat_lt n (query_score p q text)) is
  where
    go : (b : Bool) → (if b then Some (r, query_score p q text) else None) ≡ Some h → h.0 ≡ r
    go true is = let same : (r, query_score p q text) ≡ h = cc in ap (λ (k : ℤ × ℕ). k.0) (sym same)
    go false is = absurd (cc)

own_key : (t : Table) (x : IndexOf ContextIndex) (q : Reduced) (n : ℕ) (r : ℤ) (m : Mark (Unit {0})) (h : ℤ × ℕ) → found_at t x q n r m ≡ Some h → h.0 ≡ r
own_key t x q n r Pending h is = absurd (cc)
own_key t x q n r (Settled _) h is = own_scored x.prefs q n r (texts_in t x.column r) h is

found_rise : (t : Table) (x : IndexOf ContextIndex) (q : Reduced) (n : ℕ) → keys_rise_by int_cmp (map (λ h. h.0) (found t x q n)) ≡ true
found_rise t x q n = rises_given (λ e. found_at t x q n e.0 e.1) (λ e h is. own_key t x q n e.0 e.1 h is) (entries x.body.marks) (entries_rise int_cmp x.body.marks)

pub found_by_rise : (ts : Tables) (x : IndexOf ContextIndex) (meaning : Meaning) (threshold : Option ℕ) → keys_rise_by int_cmp (map (λ h. h.0) (found_by ts x meaning threshold)) ≡ true
found_by_rise ts x (Refuses refusal) threshold = refl
found_by_rise ts x (Finds None) threshold = refl
found_by_rise ts x (Finds (Some q)) None = refl
found_by_rise ts x (Finds (Some q)) (Some n) = found_rise (table_at ts x.table) x q n

-- ---- CATSEARCH

pub unscored_keys : (rows : List ℤ) → map (λ h. h.0) (map unscored rows) ≡ rows
unscored_keys [] = refl
unscored_keys (r ∷ rows) = ap (λ l. r ∷ l) (unscored_keys rows)
