-- What is read of a row.
use Rattle.std.proofs.Common.{◌≡◌, ◌<◌, ℕ, ℤ, zero, suc, Bool, true, false, cond, eqb, eqb-true, List, [], ◌∷◌, ◌++◌, Option, Some, None, refl, sym, ap, ◌∙◌}
use Rattle.std.specs.Option.{option_map, option_and_then}
use Rattle.std.specs.Map.{lookup}
use Rattle.ct_base.specs.declared.lists.Value.{Value}
use Rattle.ct_keep.specs.Content.{Content}
use Rattle.ct_entry.specs.declared.kinds.Kind.TheVariants as kind
use Rattle.ct_entry.specs.Keys.{at, key, row_part, text_part, IsRow}
use Rattle.tb_table.specs.Tables.{row_at, numbers_of, text_in_column}
use Rattle.tb_table.specs.Readings.{SpellsText, SpellsNumbers}
use Rattle.tb_table.specs.laws.Reading.{text_read, numbers_read}
use Rattle.db_state.specs.States.{StoreState, StandsForState}
use Rattle.db_rows.specs.Values.{values_behind_key, row_values}
use Rattle.db_rows.specs.Reading.{KnowTexts}

-- ---- texts that were read

known_push : (vs : List Value) (texts : List (ℕ × Option (List ℕ))) (place : ℕ) (new : Option (List ℕ)) → new ≡ text_in_column vs place
    → (column : ℕ) (text : Option (List ℕ)) → (lookup (λ place. eqb column place) texts ≡ Some text → text ≡ text_in_column vs column) → lookup (λ place. eqb column place) (texts ++ (place, new) ∷ []) ≡ Some text → text ≡ text_in_column vs column
known_push vs [] place new is column text before found = go (eqb column place) refl found
  where
    go : (b : Bool) → eqb column place ≡ b → cond b (Some new) None ≡ Some text → text ≡ text_in_column vs column
    go true e found = let same : new ≡ text = cc in sym same ∙ is ∙ ap (text_in_column vs) (sym (eqb-true column place e))
    go false e found = cc
known_push vs (x ∷ xs) place new is column text before found = go (eqb column x.0) before found (known_push vs xs place new is column text)
  where
    go : (b : Bool) → (cond b (Some x.1) (lookup (λ place. eqb column place) xs) ≡ Some text → text ≡ text_in_column vs column)
        → cond b (Some x.1) (lookup (λ place. eqb column place) (xs ++ (place, new) ∷ [])) ≡ Some text
        → ((lookup (λ place. eqb column place) xs ≡ Some text → text ≡ text_in_column vs column) → lookup (λ place. eqb column place) (xs ++ (place, new) ∷ []) ≡ Some text → text ≡ text_in_column vs column) → text ≡ text_in_column vs column
    go true before found rest = before found
    go false before found rest = rest before found

pub know_more : (vs : List Value) (texts : List (ℕ × Option (List ℕ))) (column : ℕ) (text : Option (List ℕ)) → KnowTexts vs texts
    → text ≡ text_in_column vs column → KnowTexts vs (texts ++ (column, text) ∷ [])
know_more vs texts column text know is = λ place found. known_push vs texts column text is place found (know place found)

-- ---- a row as it is read

text_values : (o : Option (List Value)) (column : ℕ) → option_and_then (λ vs. text_in_column vs column) o ≡ text_in_column (values_behind_key o) column
text_values None zero = refl
text_values None (suc column) = refl
text_values (Some vs) column = refl

pub text_is : (m : StoreState) (c : Content) → StandsForState c m → (t : List ℕ) (column : ℕ) (r : ℤ) → column < 256 → IsRow r
    → (found : Option (List ℕ)) → SpellsText (at c (key kind.RowTexts t (text_part column r))) found
    → found ≡ text_in_column (row_values m.tables t r) column
text_is m c stands t column r few row found spelt = text_read (at c) m.tables stands.tables stands.state.tables t column r few row found spelt ∙ text_values (row_at m.tables t r) column

number_values : (o : Option (List Value)) → option_map numbers_of o ≡ None → numbers_of (values_behind_key o) ≡ []
number_values None e = refl
number_values (Some vs) e = cc

number_values_some : (o : Option (List Value)) (zs : List ℤ) → option_map numbers_of o ≡ Some zs → numbers_of (values_behind_key o) ≡ zs
number_values_some None zs e = cc
number_values_some (Some vs) zs e = cc

pub numbers_are : (m : StoreState) (c : Content) → StandsForState c m → (t : List ℕ) (r : ℤ) → IsRow r → (zs : List ℤ)
    → SpellsNumbers (at c (key kind.RowNumbers t (row_part r))) (Some zs) → zs ≡ numbers_of (row_values m.tables t r)
numbers_are m c stands t r row zs spelt = sym (number_values_some (row_at m.tables t r) zs (sym (numbers_read (at c) m.tables stands.tables stands.state.tables t r row (Some zs) spelt)))

pub numbers_none : (m : StoreState) (c : Content) → StandsForState c m → (t : List ℕ) (r : ℤ) → IsRow r
    → SpellsNumbers (at c (key kind.RowNumbers t (row_part r))) None → [] ≡ numbers_of (row_values m.tables t r)
numbers_none m c stands t r row spelt = sym (number_values (row_at m.tables t r) (sym (numbers_read (at c) m.tables stands.tables stands.state.tables t r row None spelt)))
