-- Each entry that spells a table is among those of all.
use Rattle.std.proofs.Common.{◌≡◌, ℕ, zero, suc, ◌+◌, ◌<◌, ℤ, List, [], ◌∷◌, Option, Some, None, refl, sym, ap, subst, ◌∙◌, inl, inr, arith}
use Rattle.std.specs.List.{flat_map}
use Rattle.std.specs.FinMap.{get, entries, nat_cmp-IsAntisymmetric, int_cmp-IsAntisymmetric, slice_cmp-IsAntisymmetric}
use Rattle.ct_base.specs.declared.lists.Value.{Value}
use Rattle.ct_base.specs.declared.lists.Value.TheVariants.{Number, Text}
use Rattle.ct_entry.specs.declared.kinds.Kind.TheVariants as kind
use Rattle.ct_entry.specs.Keys.{Key, key, row_part, text_part, IsRow}
use Rattle.ct_base.specs.laws.Options.{option_map_some, and_then_some}
use Rattle.tb_table.specs.Tables.{Table, Tables, row_in, row_at, numbers_of, as_text, text_in, text_in_column, texts_from, texts_of}
use Rattle.tb_table.specs.Spelling.{columns_bytes, row_numbers_bytes, TablesStand}
use Rattle.ct_entry.specs.Lists.{IsIn}
use Rattle.ct_entry.specs.laws.Lists.{in_mapped, in_flat_mapped}
use Rattle.ct_entry.specs.laws.MapEntries.{get_in}
use Rattle.db_state.proofs.WeighEntries.{Entry, entry, text_entry, row_entries, table_entries}

-- ---- rows and texts

row_there : (o : Option Table) (r : ℤ) (vs : List Value) → row_in o r ≡ Some vs → (x : Table) × (o ≡ Some x) × (get x.rows r ≡ Some vs)
row_there None r vs is = cc
row_there (Some x) r vs is = (x, refl, is)

text_here : (v : Value) (text : List ℕ) (column : ℕ) (vs : List Value) → as_text v ≡ Some text → IsIn (column, text) (texts_from column (v ∷ vs))
text_here (Number n) text column vs is = cc
text_here (Text x) text column vs is = let e : text ≡ x = cc in inl (ap (λ (t : List ℕ). (column, t)) e)

text_behind : (v : Value) (e : ℕ × List ℕ) (column : ℕ) (vs : List Value) → IsIn e (texts_from (suc column) vs) → IsIn e (texts_from column (v ∷ vs))
text_behind (Number n) e column vs h = h
text_behind (Text x) e column vs h = inr h

text_from : (vs : List Value) (place column at : ℕ) (text : List ℕ) → at ≡ column + place → text_in vs place ≡ Some text → IsIn (at, text) (texts_from column vs)
text_from [] place column at text sums is = cc
text_from (v ∷ vs) zero column at text sums is = let e : column ≡ at = omega arith in subst (λ (c : ℕ). IsIn (c, text) (texts_from column (v ∷ vs))) e (text_here v text column vs is)
text_from (v ∷ vs) (suc place) column at text sums is = text_behind v (at, text) column vs (text_from vs place (suc column) at text (omega arith) is)

text_there : (vs : List Value) (c : ℕ) (text : List ℕ) → text_in_column vs c ≡ Some text → IsIn (c, text) (texts_of vs)
text_there vs zero text is = cc
text_there vs (suc place) text is = text_from vs place 1 (suc place) text (omega arith) is

-- ---- the entries of tables

module _ (ts : Tables) where
  -- what is among a table's entries
  in_table : (t : List ℕ) (x : Table) (e : Entry) → get ts t ≡ Some x → IsIn e (table_entries (t, x)) → IsIn e (flat_map table_entries (entries ts))
  in_table t x e is h = in_flat_mapped table_entries (t, x) (entries ts) e (get_in (slice_cmp-IsAntisymmetric nat_cmp-IsAntisymmetric) ts t x is) h

  -- what is among a row's
  in_row : (t : List ℕ) (r : ℤ) (vs : List Value) (e : Entry) → row_at ts t r ≡ Some vs → IsIn e (row_entries t (r, vs)) → IsIn e (flat_map table_entries (entries ts))
  in_row t r vs e is h =
      let x = row_there (get ts t) r vs is in
      in_table t x.0 e x.1 (inr (in_flat_mapped (row_entries t) (r, vs) (entries x.0.rows) e (get_in int_cmp-IsAntisymmetric x.0.rows r vs x.2) h))

  module _ (f : Key → Option (List ℕ)) (stand : TablesStand f ts) where
    pub table_in : (t v : List ℕ) → f (key kind.Tables t []) ≡ Some v → IsIn (entry (key kind.Tables t []) v) (flat_map table_entries (entries ts))
    table_in t v has =
        let x = option_map_some (λ (x : Table). columns_bytes x.columns) (get ts t) v (sym (stand.tables t) ∙ has) in
        in_table t x.0 _ x.1 (inl (ap (entry (key kind.Tables t [])) (sym x.2)))

    pub numbers_in : (t v : List ℕ) (r : ℤ) → IsRow r → f (key kind.RowNumbers t (row_part r)) ≡ Some v → IsIn (entry (key kind.RowNumbers t (row_part r)) v) (flat_map table_entries (entries ts))
    numbers_in t v r row has =
        let vs = option_map_some (λ (vs : List Value). row_numbers_bytes (numbers_of vs)) (row_at ts t r) v (sym (stand.numbers t r row) ∙ has) in
        in_row t r vs.0 _ vs.1 (inl (ap (entry (key kind.RowNumbers t (row_part r))) (sym vs.2)))

    pub text_in_all : (t v : List ℕ) (c : ℕ) (r : ℤ) → c < 256 → IsRow r → f (key kind.RowTexts t (text_part c r)) ≡ Some v → IsIn (entry (key kind.RowTexts t (text_part c r)) v) (flat_map table_entries (entries ts))
    text_in_all t v c r few row has =
        let vs = and_then_some (λ (vs : List Value). text_in_column vs c) (row_at ts t r) v (sym (stand.texts t c r few row) ∙ has) in
        in_row t r vs.0 _ vs.1 (inr (in_mapped (text_entry t r) (c, v) (texts_of vs.0) (text_there vs.0 c v vs.2)))
