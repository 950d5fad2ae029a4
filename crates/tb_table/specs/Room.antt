-- How much room tables take: what their entries weigh.
use Rattle.std.specs.Prelude.{ℕ, ℤ, ◌+◌, sum_by, List, [], pos, ◌≡◌, ◌∷◌, replicate, codes, refl}
use Rattle.std.specs.FinMap.{entries, entries-from_sorted}
use Rattle.ct_base.specs.declared.lists.Value.{Value}
use Rattle.ct_keep.specs.Content.{entry_weight}
use Rattle.ct_entry.specs.declared.kinds.Kind.TheVariants as kind
use Rattle.ct_entry.specs.Keys.{Key, key, bytes, row_part, text_part}
use Rattle.tb_table.specs.Tables.{Table, numbers_of, texts_of, docs_table, docs_rows}
use Rattle.tb_table.specs.Spelling.{columns_bytes, row_numbers_bytes}
use Rattle.std.specs.Ordering.{int_cmp}
use Rattle.std.proofs.Common.{ap}
use Rattle.ct_base.specs.declared.lists.Value.TheVariants.{Number, Text}
use Rattle.ct_bytes.specs.Varints.{varint}
use Rattle.ct_bytes.specs.RowKeys.{row_bytes}

-- what the entry of a key weighs with this value
abbrev pub key_weight : Key → List ℕ → ℕ
key_weight k value = entry_weight (bytes k, value)

abbrev pub text_room : List ℕ → ℤ → ℕ × List ℕ → ℕ
text_room t r e = key_weight (key kind.RowTexts t (text_part e.0 r)) e.1

abbrev pub row_room : List ℕ → ℤ × List Value → ℕ
row_room t e = key_weight (key kind.RowNumbers t (row_part e.0)) (row_numbers_bytes (numbers_of e.1)) + sum_by (text_room t e.0) (texts_of e.1)

abbrev pub table_room : List ℕ × Table → ℕ
table_room e = key_weight (key kind.Tables e.0 []) (columns_bytes e.1.columns) + sum_by (row_room e.0) (entries e.1.rows)

-- computed examples

-- the key has 2 + 4 + 1 + 8 bytes
a_short_text : text_room (codes "docs") (pos 1) (1, codes "quick fox quick") ≡ 64
unfolding row_bytes
a_short_text = refl

a_long_text : text_room (codes "docs") (pos 1) (1, replicate 60 0x61) ≡ 75
unfolding row_bytes
a_long_text = refl

-- an entry for the numbers, and one for each text
a_row : row_room (codes "docs") (pos 1, Text (replicate 60 0x61) ∷ Number (pos 0) ∷ Text [] ∷ []) ≡ 64 + 75 + 64
unfolding row_bytes
a_row = refl

-- five entries of 64
pub docs_room : table_room (codes "docs", docs_table) ≡ 320
unfolding row_bytes varint
docs_room = ap (λ (es : List (ℤ × List Value)). 64 + sum_by (row_room (codes "docs")) es) (entries-from_sorted int_cmp docs_rows tt)
