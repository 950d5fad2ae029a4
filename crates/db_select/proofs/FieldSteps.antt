-- The steps of reading the values of a row, of which the fields of a line are those that are there.
use Rattle.std.proofs.Common.{◌≡◌, ◌<◌, ◌≤◌, ◌+◌, ℕ, true, List, [], ◌∷◌, ◌++◌, length, map, get_or, take, Option, Some, None, refl, sym, ap, ◌∙◌, append_assoc, append-nil}
use Rattle.std.specs.List.{cons_option, filter_map}
use Rattle.std.proofs.lemmas.List.{get_or_default, map_more, take_all}
use Rattle.ct_base.specs.declared.lists.Value.{Value}
use Rattle.ix_search.specs.declared.hits.Hit.{Hit}
use Rattle.db_rows.specs.Reading.{IsReadOf}
use Rattle.db_rows.specs.declared.reading.RowRead.{RowRead}
use Rattle.db_rows.specs.laws.Texts.{all_at}
use Rattle.db_select.specs.declared.sources.FieldSource.{FieldSource}
use Rattle.db_select.specs.Fields.{field_among, fields_among, found_value}

-- ---- the values of a row

-- the first `i` values were read
pub record HasValues (hit : Hit) (vs : List Value) (sources : List FieldSource) (i : ℕ) (read : RowRead) (values : List (Option Value)) : Type 0 where
  pub own : IsReadOf vs read
  pub are : values ≡ map (found_value hit vs) (take i sources)

module _ (hit : Hit) (vs : List Value) (sources : List FieldSource) where
  pub no_values : (read : RowRead) → IsReadOf vs read → HasValues hit vs sources 0 read []
  no_values read own = record { own = own; are = refl }

  pub one_value : (i : ℕ) (old new : RowRead) (values more : List (Option Value)) (d : FieldSource) (value : Option Value) → HasValues hit vs sources i old values
      → i < length sources → IsReadOf vs new → value ≡ found_value hit vs (get_or sources i d) → more ≡ values ++ value ∷ [] → HasValues hit vs sources (i + 1) new more
  one_value i old new values more d value before within own is pushed =
      let both : values ++ value ∷ [] ≡ map (found_value hit vs) (take i sources) ++ found_value hit vs (get_or sources i d) ∷ [] = λ j. before.are j ++ is j ∷ [] in
      record { own = own; are = pushed ∙ both ∙ sym (map_more (found_value hit vs) sources i d within) }

  pub all_values : (i : ℕ) (read : RowRead) (values : List (Option Value)) → HasValues hit vs sources i read values → length sources ≤ i → values ≡ map (found_value hit vs) sources
  all_values i read values has past = has.are ∙ ap (map (found_value hit vs)) (take_all i sources past)

-- one of the fields
pub field_at : (places : List ℕ) (sources : List FieldSource) (i : ℕ) (d : FieldSource) → i < length sources → fields_among places sources ≡ true → field_among places (get_or sources i d) ≡ true
field_at places sources i d within among = all_at (field_among places) sources i (get_or sources i d) within (get_or_default sources i d (get_or sources i d) within) among

-- ---- those that are there

some_first : (o : Option Value) (fields rest : List Value) → fields ++ cons_option o rest ≡ (fields ++ cons_option o []) ++ rest
some_first None fields rest = ap (λ (l : List Value). l ++ rest) (sym (append-nil fields))
some_first (Some v) fields rest = sym (append_assoc fields (v ∷ []) rest)

-- one value more of those that are left
pub one_present : (left rest : List (Option Value)) (value : Option Value) (fields more whole : List Value) → left ≡ value ∷ rest → more ≡ fields ++ cons_option value []
    → fields ++ filter_map (λ o. o) left ≡ whole → more ++ filter_map (λ o. o) rest ≡ whole
one_present left rest value fields more whole is pushed before =
    ap (λ (l : List Value). l ++ filter_map (λ (o : Option Value). o) rest) pushed
    ∙ sym (some_first value fields (filter_map (λ (o : Option Value). o) rest))
    ∙ ap (λ (os : List (Option Value)). fields ++ filter_map (λ (o : Option Value). o) os) (sym is)
    ∙ before

pub present_values : (f : FieldSource → Option Value) (sources : List FieldSource) → filter_map (λ o. o) (map f sources) ≡ filter_map f sources
present_values f [] = refl
present_values f (source ∷ sources) = ap (cons_option (f source)) (present_values f sources)
