-- Texts of tables are short enough to be read, and a catalogue's sub-indexes are within the limits.
use Rattle.std.specs.Prelude.{ℕ, ℤ, ◌≡◌, ◌≤◌, ◌^◌, ◌&&◌, zero, suc, nat_le, true, List, [], ◌∷◌, length, map, Some, refl}
use Rattle.std.specs.List.{list_all}
use Rattle.std.specs.FinMap.{get}
use Rattle.std.proofs.Common.{arith, ap, ◌∙◌}
use Rattle.std.proofs.lemmas.Bool.{and_from, and_parts}
use Rattle.std.proofs.lemmas.List.{length-map}
use Rattle.ct_base.specs.Limits.{sub_index_limit}
use Rattle.ct_base.specs.declared.lists.Value.{Value}
use Rattle.ct_base.specs.declared.lists.Value.TheVariants.{Number as NumberValue, Text as TextValue}
use Rattle.tb_table.specs.declared.columns.Sort.{Sort}
use Rattle.tb_table.specs.declared.columns.Sort.TheVariants.{Number, Varchar2, Clob}
use Rattle.tb_table.specs.declared.columns.Column.{Column}
use Rattle.tb_table.specs.Tables.{Table, as_text, text_in, text_in_column}
use Rattle.tb_table.specs.Rules.{AllColumns, FitColumns, HasAllowedSize, IsOfSort, IsTable, others}
use Rattle.tx_sets.specs.Sets.{are_sub_indexes, is_sub_index, sub_column_limit}
use Rattle.tx_sets.specs.laws.Sets.{each_sub_index, few_sub_indexes}
use Rattle.cat_index.specs.Filings.{IsShortOrNone, fit_sub_index}
use Rattle.cat_index.specs.Catalogues.{place_of, places_in}

-- ---- texts of tables are short

short_value : (c : Column) (v : Value) → IsOfSort c.sort v → HasAllowedSize c.sort → IsShortOrNone (as_text v)
short_value c (NumberValue n) fits allowed = tt
short_value c (TextValue t) fits allowed = go c.sort fits allowed
  where
    go : (s : Sort) → IsOfSort s (TextValue t) → HasAllowedSize s → length t ≤ 2 ^ 19
    go Number fits allowed = absurd fits
    go (Varchar2 size) fits allowed = let short = fits.0 in let most = allowed.1 in omega (arith, short, most)
    go Clob fits allowed = let short = fits.0 in omega (arith, short)

short_text : (cs : List Column) (vs : List Value) (place : ℕ) → AllColumns cs → FitColumns cs vs → IsShortOrNone (text_in vs place)
short_text cs [] place are fit = tt
short_text [] (v ∷ vs) place are fit = absurd fit
short_text (c ∷ cs) (v ∷ vs) zero are fit = short_value c v fit.0 are.1
short_text (c ∷ cs) (v ∷ vs) (suc place) are fit = short_text cs vs place are.2 fit.1

pub text_is_short : (x : Table) (r : ℤ) (vs : List Value) (column : ℕ) → IsTable x → get x.rows r ≡ Some vs → IsShortOrNone (text_in_column vs column)
text_is_short x r vs zero is there = tt
text_is_short x r vs (suc place) is there = short_text (others x.columns) vs place (behind x.columns is.columns.each) (is.rows r vs there)
  where
    behind : (cs : List Column) → AllColumns cs → AllColumns (others cs)
    behind [] are = tt
    behind (c ∷ cs) are = are.2

-- ---- places within the limits

fit_places : (cs : List Column) (set : List (List (List ℕ))) → list_all is_sub_index set ≡ true → list_all fit_sub_index (places_in cs set) ≡ true
fit_places cs [] each = refl
fit_places cs (names ∷ set) each =
    let p = and_parts (is_sub_index names) (list_all is_sub_index set) each in
    and_from (fit_sub_index (map (place_of cs) names)) (list_all fit_sub_index (places_in cs set)) (ap (λ (n : ℕ). nat_le 1 n && nat_le n sub_column_limit) (length-map names (place_of cs)) ∙ p.0) (fit_places cs set p.1)

pub each_fits : (cs : List Column) (set : List (List (List ℕ))) (places : List (List ℕ)) → places ≡ places_in cs set → are_sub_indexes set ≡ true → list_all fit_sub_index places ≡ true
each_fits cs set places is are = ap (list_all fit_sub_index) is ∙ fit_places cs set (each_sub_index set are)

pub few_places : (cs : List Column) (set : List (List (List ℕ))) (places : List (List ℕ)) → places ≡ places_in cs set → are_sub_indexes set ≡ true → length places ≤ sub_index_limit
few_places cs set places is are =
    let long = ap length is in
    let same = length-map set (map (place_of cs)) in
    let few = few_sub_indexes set are in
    omega (arith, long, same, few)
