-- The steps of reading the values of a row, and of all hits.
use Rattle.std.proofs.Common.{◌≡◌, ◌<◌, ◌≤◌, ◌+◌, ◌*◌, ℕ, true, List, [], ◌∷◌, ◌++◌, length, map, get_or, take, Option, refl, sym, ap, ◌∙◌, add-one, arith}
use Rattle.std.specs.List.{list_all}
use Rattle.std.proofs.lemmas.List.{get_or_default, map_more, take_all}
use Rattle.std.proofs.Math.Nat.{mul-le-mul_right, suc-mul}
use Rattle.ct_base.specs.declared.lists.Value.{Value}
use Rattle.ct_keep.specs.KeeperViews.{Counts}
use Rattle.ct_keep.specs.Looks.{RisesBy}
use Rattle.rs_result.specs.Comparing.{Ranked, ranked}
use Rattle.ix_search.specs.declared.hits.Hit.{Hit}
use Rattle.db_rows.specs.Reading.{IsReadOf}
use Rattle.db_rows.specs.Texts.{RisesLeaving, reads_among, texts_alone, texts_left}
use Rattle.db_rows.specs.declared.reading.RowRead.{RowRead}
use Rattle.db_rows.specs.declared.sources.Source.{Source}
use Rattle.db_rows.specs.laws.Texts.{all_at, left_within}
use Rattle.db_hits.specs.Rows.{Row}

-- the first `i` values were read, by what each place gives
pub record HasValues (f : Source → Option Value) (vs : List Value) (sources : List Source) (i : ℕ) (read : RowRead) (values : List (Option Value)) : Type 0 where
  pub own : IsReadOf vs read
  pub are : values ≡ map f (take i sources)

module _ (f : Source → Option Value) (vs : List Value) (sources : List Source) where
  pub no_values : (read : RowRead) (values : List (Option Value)) → IsReadOf vs read → values ≡ [] → HasValues f vs sources 0 read values
  no_values read values own none = record { own = own; are = none }

  pub one_value : (i : ℕ) (read : RowRead) (values more : List (Option Value)) (d : Source) (value : Option Value) → i < length sources → values ≡ map f (take i sources) → IsReadOf vs read
      → value ≡ f (get_or sources i d) → more ≡ values ++ value ∷ [] → HasValues f vs sources (i + 1) read more
  one_value i read values more d value within before own is pushed = record {
    own = own;
    are = pushed ∙ (λ j. before j ++ is j ∷ []) ∙ sym (map_more f sources i d within);
  }

  pub all_values : (i : ℕ) (read : RowRead) (values : List (Option Value)) → HasValues f vs sources i read values → length sources ≤ i → values ≡ map f sources
  all_values i read values has past = has.are ∙ ap (map f) (take_all i sources past)

-- one of the places
pub source_at : (places : List ℕ) (sources : List Source) (i : ℕ) (d : Source) → i < length sources → list_all (reads_among places) sources ≡ true → reads_among places (get_or sources i d) ≡ true
source_at places sources i d within among = all_at (reads_among places) sources i (get_or sources i d) within (get_or_default sources i d (get_or sources i d) within) among

-- nothing was read yet
pub none_read : (places : List ℕ) (read : RowRead) (c : Counts) → RisesLeaving (texts_alone (length places)) (texts_left places read) c c
none_read places read c =
    let few = left_within places read in
    record { texts = omega (arith, few); rows = omega arith; rules = omega arith }

-- ---- all hits

module _ (f : Hit → Ranked) (hits : List Hit) where
  pub one_row : (i : ℕ) (rows more : List Row) (row : Row) (d : Hit) → map ranked rows ≡ map f (take i hits) → i < length hits → ranked row ≡ f (get_or hits i d) → more ≡ rows ++ row ∷ []
      → map ranked more ≡ map f (take (i + 1) hits)
  one_row i rows more row d before within is pushed =
      ap (map ranked) pushed
      ∙ map_append rows
      ∙ (λ j. before j ++ is j ∷ [])
      ∙ sym (map_more f hits i d within)
    where
      map_append : (rs : List Row) → map ranked (rs ++ row ∷ []) ≡ map ranked rs ++ ranked row ∷ []
      map_append [] = refl
      map_append (r ∷ rs) = ap (λ (l : List Ranked). ranked r ∷ l) (map_append rs)

  pub all_rows : (i : ℕ) (rows : List Row) → map ranked rows ≡ map f (take i hits) → length hits ≤ i → map ranked rows ≡ map f hits
  all_rows i rows are past = are ∙ ap (map f) (take_all i hits past)

-- so many texts of one row more
pub rises_one : (i n : ℕ) (a b c : Counts) → RisesBy (texts_alone (i * n)) a b → RisesBy (texts_alone n) b c → RisesBy (texts_alone ((i + 1) * n)) a c
rises_one i n a b c first second =
    let one : (i + 1) * n ≡ i * n + n = ap (λ (j : ℕ). j * n) (add-one i) ∙ suc-mul i n in
    let now : c.texts ≤ b.texts + n = second.texts in
    let before : b.texts ≤ a.texts + i * n = first.texts in
    record { texts = omega (arith, one, now, before); rows = omega (arith, first.rows, second.rows); rules = omega (arith, first.rules, second.rules) }

pub rises_few : (i j n : ℕ) (a b : Counts) → i ≤ j → RisesBy (texts_alone (i * n)) a b → RisesBy (texts_alone (j * n)) a b
rises_few i j n a b few rises =
    let most : i * n ≤ j * n = mul-le-mul_right n few in
    let texts : b.texts ≤ a.texts + i * n = rises.texts in
    record { texts = omega (arith, most, texts); rows = rises.rows; rules = rises.rules }
