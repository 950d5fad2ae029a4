-- What is found between two places of a sub-index is enough for the conditions that gave them.
use Rattle.std.proofs.Common.{◌≡◌, ◌<◌, ℕ, ℤ, zero, suc, Bool, true, false, cond, List, [], ◌∷◌, ◌++◌, length, map, Option, Some, None, refl, sym, ap, subst, ◌∙◌, arith}
use Rattle.std.specs.Prelude.{filter}
use Rattle.std.specs.FinMap.{get}
use Rattle.std.specs.Ordering.{int_cmp}
use Rattle.std.specs.Option.{option_and_then}
use Rattle.std.proofs.lemmas.List.{length-map}
use Rattle.ct_base.specs.declared.lists.Value.{Value}
use Rattle.ct_base.specs.declared.numbers.RowKey.{RowKey}
use Rattle.ct_bytes.specs.RowKeys.{row_bytes}
use Rattle.ct_entry.specs.laws.Rows.{keys_rise_by}
use Rattle.tb_table.specs.declared.columns.Column.{Column}
use Rattle.tb_table.specs.Tables.{Table, text_in_column}
use Rattle.tb_table.specs.Rules.{IsTable}
use Rattle.st_parse.specs.declared.statements.Cond.{Cond}
use Rattle.q_tree.specs.ReducedQueries.{Reduced}
use Rattle.ix_kinds.specs.Rows.{row_keys_of}
use Rattle.ix_kinds.specs.Indextypes.{IndexOf}
use Rattle.cat_index.specs.Filings.{at_place}
use Rattle.cat_index.specs.Catalogues.{CatalogueBody, filing_of, place_of}
use Rattle.cat_index.specs.Rules.{IsCatalogue}
use Rattle.cat_walk.specs.Places.{is_between}
use Rattle.cat_search.specs.Meeting.{met_rows, row_meets, some_meets}
use Rattle.cat_search.specs.SubIndexes.{HasSub, or_empty, sub_place, taken_rows}
use Rattle.cat_search.specs.laws.Met.{filter_rises, met_rows_rise}
use Rattle.db_rows.specs.Meeting.{key_meets, row_meets as values_meet}
use Rattle.db_rows.specs.Values.{values_behind_key}
use Rattle.db_rows.specs.laws.Texts.{most_pass}
use Rattle.db_range.specs.declared.choosing.SubRange.{SubRange}
use Rattle.db_range.specs.Ranges.{Covers, IsSubRange}
use Rattle.db_range.specs.laws.Filings.{filed_at}
use Rattle.db_find.specs.Catalogues.{unscored}
use Rattle.db_find.specs.Finding.{AreEnough}
use Rattle.db_find.specs.laws.Filtering.{filter_mapped}
use Rattle.db_find.proofs.CatalogueSteps.{keys_unscored}
use Rattle.db_find.proofs.Enough.{unscored_keys}

-- ---- lists

-- of those that pass one test, a second takes all that pass a third: then those that pass the third are the same with it and without
module _ {X : Type 0} (asked taken met : X → Bool) (covers : (x : X) → met x ≡ true → asked x ≡ true → taken x ≡ true) where
  passes_alike : (xs : List X) → filter asked (filter taken (filter met xs)) ≡ filter asked (filter met xs)
  passes_alike [] = refl
  passes_alike (x ∷ xs) = go (met x) refl (passes_alike xs)
    where
      rest : List X
      rest = filter met xs

      here : (t : Bool) → taken x ≡ t → (a : Bool) → asked x ≡ a → met x ≡ true → filter asked (filter taken rest) ≡ filter asked rest
          → filter asked (cond t (x ∷ filter taken rest) (filter taken rest)) ≡ cond a (x ∷ filter asked rest) (filter asked rest)
      here true is true asks meets later = ap (λ (b : Bool). cond b (x ∷ filter asked (filter taken rest)) (filter asked (filter taken rest))) asks ∙ ap (λ (l : List X). x ∷ l) later
      here true is false asks meets later = ap (λ (b : Bool). cond b (x ∷ filter asked (filter taken rest)) (filter asked (filter taken rest))) asks ∙ later
      here false is true asks meets later = let wrong : false ≡ true = sym is ∙ covers x meets asks in cc
      here false is false asks meets later = later

      go : (m : Bool) → met x ≡ m → filter asked (filter taken rest) ≡ filter asked rest → filter asked (filter taken (cond m (x ∷ rest) rest)) ≡ filter asked (cond m (x ∷ rest) rest)
      go true meets later = here (taken x) refl (asked x) refl meets later
      go false meets later = later

at_within : {X : Type 0} (n : ℕ) (xs : List X) (x : X) → at_place n xs ≡ Some x → n < length xs
at_within n [] x at = absurd (cc)
at_within zero (y ∷ xs) x at = omega arith
at_within (suc n) (y ∷ xs) x at = let within = at_within n xs x at in omega (arith, within)

-- ---- a range that conditions gave

module _ (t : Table) (x : IndexOf CatalogueBody) (own : IsCatalogue t x) (columns : List Column) (conds : List Cond) (subs : List (List (List ℕ))) (best : SubRange)
    (names : x.body.names ≡ subs) (is : IsSubRange columns conds subs best) where
  its_names : at_place best.sub ([] ∷ x.body.names) ≡ Some is.names
  its_names = ap (λ (l : List (List (List ℕ))). at_place best.sub ([] ∷ l)) names ∙ is.at

  pub has_sub : HasSub x best.sub
  has_sub =
      let within = at_within best.sub ([] ∷ x.body.names) is.names its_names in
      let as_many : length x.body.places ≡ length x.body.names = ap length own.places ∙ length-map x.body.names (map (place_of t.columns)) in
      omega (arith, within, as_many)

  module _ (rules : IsTable t) (are : t.columns ≡ columns) where
    abbrev taken : List ℕ → Bool
    taken place = is_between best.range.low best.range.high place

    covered : (q : Reduced) (r : ℤ) → row_meets t x q r ≡ true → key_meets t conds r ≡ true → taken (sub_place t x best.sub r) ≡ true
    covered q r = go (get t.rows r) refl
      where
        go : (o : Option (List Value)) → get t.rows r ≡ o → some_meets x.prefs q (option_and_then (λ vs. text_in_column vs x.column) o) ≡ true → values_meet t.columns conds r (values_behind_key o) ≡ true
            → taken (or_empty (at_place best.sub (filing_of x r o).values) ++ row_bytes r) ≡ true
        go None there met asked = absurd (cc)
        go (Some vs) there met asked =
            let covers : Covers t.columns is.names conds best.range = subst (λ (cs : List Column). Covers cs is.names conds best.range) (sym are) is.covers in
            ap (λ (o : Option (List ℕ)). taken (or_empty o ++ row_bytes r)) (filed_at t x own best.sub is.names its_names r vs)
            ∙ covers r vs (rules.keys r vs there) (rules.rows r vs there) asked

    enough : (q : Reduced) → AreEnough t conds (map unscored (met_rows t x q)) (map unscored (taken_rows taken t x best.sub q))
    enough q =
        let test : ℤ → Bool = λ r. taken (sub_place t x best.sub r) in
        let rows = met_rows t x q in
        let few = most_pass test rows in
        record {
          met =
              sym (filter_mapped (λ (h : ℤ × ℕ). key_meets t conds h.0) unscored (filter test rows))
              ∙ ap (map unscored) (passes_alike (key_meets t conds) test (row_meets t x q) (covered q) (row_keys_of t))
              ∙ filter_mapped (λ (h : ℤ × ℕ). key_meets t conds h.0) unscored rows;
          few = omega (arith, few, length-map rows unscored, length-map (filter test rows) unscored);
          rise = ap (keys_rise_by int_cmp) (unscored_keys (filter test rows)) ∙ filter_rises test rows (met_rows_rise t x q);
        }

    pub narrowed : (q : Reduced) (rows : List RowKey) → map (λ (r : RowKey). r.0) rows ≡ taken_rows taken t x best.sub q
        → AreEnough t conds (map unscored (met_rows t x q)) (map (λ r. unscored r.0) rows)
    narrowed q rows same = subst (AreEnough t conds (map unscored (met_rows t x q))) (sym (keys_unscored rows ∙ ap (map unscored) same)) (enough q)
