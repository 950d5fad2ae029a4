-- The values by which a row stands in a sub-index are those of the columns with its names.
use Rattle.std.proofs.Common.{◌≡◌, ◌+◌, ℕ, ℤ, zero, suc, Bool, true, false, cond, List, [], ◌∷◌, map, Option, Some, refl, sym, ap, subst, ◌∙◌, arith, add-zero}
use Rattle.std.specs.List.{flat_map}
use Rattle.std.specs.Option.{option_map}
use Rattle.ct_base.specs.declared.lists.Value.{Value}
use Rattle.ct_entry.specs.Keys.{same_list}
use Rattle.ct_entry.specs.Lists.{EachIs}
use Rattle.tb_table.specs.declared.columns.Column.{Column}
use Rattle.tb_table.specs.Tables.{Table}
use Rattle.ix_kinds.specs.Rows.{value_at_place}
use Rattle.ix_kinds.specs.Indextypes.{IndexOf}
use Rattle.cat_index.specs.Catalogues.{CatalogueBody, filing, place_of, value_at}
use Rattle.cat_index.specs.Filings.{at_place, value_bytes}
use Rattle.cat_index.specs.Rules.{IsCatalogue, IsSubColumn, column_named}
use Rattle.db_state.specs.Columns.{place_from}
use Rattle.db_rows.specs.Values.{at_place as value_there, value_at as column_value, value_of_column}
use Rattle.db_range.specs.Ranges.{row_values_bytes}

-- ---- lists

at_mapped : {X Y : Type 0} (f : X → Y) (n : ℕ) (xs : List X) → at_place n (map f xs) ≡ option_map f (at_place n xs)
at_mapped f n [] = refl
at_mapped f zero (x ∷ xs) = refl
at_mapped f (suc n) (x ∷ xs) = at_mapped f n xs

each_at : {X : Type 0} (P : X → Type 0) (n : ℕ) (xs : List X) (x : X) → EachIs P xs → at_place n xs ≡ Some x → P x
each_at P n [] x each at = cc
each_at P zero (y ∷ xs) x each at = let same : y ≡ x = cc in subst P same each.0
each_at P (suc n) (y ∷ xs) x each at = each_at P n xs x each.1 at

-- ---- columns

place_is : (cs : List Column) (place : ℕ) (name : List ℕ) → IsSubColumn (column_named cs name) → place_from place name cs ≡ Some (place + place_of cs name)
place_is [] place name is = absurd is
place_is (c ∷ cs) place name is = go (same_list name c.name) (place_is cs (suc place) name) is
  where
    go : (b : Bool) → (IsSubColumn (column_named cs name) → place_from (suc place) name cs ≡ Some (suc place + place_of cs name))
        → IsSubColumn (cond b (Some c) (column_named cs name)) → cond b (Some place) (place_from (suc place) name cs) ≡ Some (place + cond b 0 (suc (place_of cs name)))
    go true later is = ap Some (sym (add-zero place))
    go false later is = later is ∙ (let next : suc place + place_of cs name ≡ place + suc (place_of cs name) = omega arith in ap Some next)

same_value : (r : ℤ) (vs : List Value) (place : ℕ) → value_at r vs place ≡ column_value r vs place
same_value r vs zero = refl
same_value r vs (suc place) = behind_key vs place
  where
    behind_key : (vs : List Value) (place : ℕ) → value_at_place vs place ≡ column_value r vs (suc place)
    behind_key [] place = refl
    behind_key (v ∷ vs) zero = refl
    behind_key (v ∷ vs) (suc place) = behind_key vs place

value_is : (cs : List Column) (r : ℤ) (vs : List Value) (name : List ℕ) → IsSubColumn (column_named cs name) → value_at r vs (place_of cs name) ≡ value_of_column cs r vs name
value_is cs r vs name is =
    let there : 0 + place_of cs name ≡ place_of cs name = omega arith in
    same_value r vs (place_of cs name) ∙ sym (ap (value_there r vs) (place_is cs 0 name is ∙ ap Some there))

values_are : (cs : List Column) (r : ℤ) (vs : List Value) (names : List (List ℕ)) → EachIs (λ name. IsSubColumn (column_named cs name)) names
    → map (value_at r vs) (map (place_of cs) names) ≡ map (value_of_column cs r vs) names
values_are cs r vs [] each = refl
values_are cs r vs (name ∷ names) each =
    ap (λ (v : Option Value). v ∷ map (value_at r vs) (map (place_of cs) names)) (value_is cs r vs name each.0)
    ∙ ap (λ (l : List (Option Value)). value_of_column cs r vs name ∷ l) (values_are cs r vs names each.1)

-- ---- sub-indexes

-- in the sub-index of this number, which has the columns with these names: 0 is the plain one, which has none
pub filed_at : (t : Table) (x : IndexOf CatalogueBody) → IsCatalogue t x → (sub : ℕ) (names : List (List ℕ)) → at_place sub ([] ∷ x.body.names) ≡ Some names
    → (r : ℤ) (vs : List Value) → at_place sub (filing x r vs).values ≡ Some (row_values_bytes t.columns r vs names)
filed_at t x is zero names at r vs = ap (option_map (row_values_bytes t.columns r vs)) at
filed_at t x is (suc sub) names at r vs =
    let cs = t.columns in
    at_mapped (flat_map value_bytes) sub (map (map (value_at r vs)) x.body.places)
    ∙ ap (option_map (flat_map value_bytes)) (at_mapped (map (value_at r vs)) sub x.body.places ∙ ap (option_map (map (value_at r vs))) (ap (at_place sub) is.places ∙ at_mapped (map (place_of cs)) sub x.body.names ∙ ap (option_map (map (place_of cs))) at))
    ∙ ap (λ (l : List (Option Value)). Some (flat_map value_bytes l)) (values_are cs r vs names (each_at (EachIs (λ name. IsSubColumn (column_named cs name))) sub x.body.names names is.asked.subs.columns at))
