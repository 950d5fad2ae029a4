-- What new tables and rows put is well shaped, over any content.
use Rattle.std.proofs.Common.{ℕ, ℤ, ◌*◌, ◌≤◌, List, [], ◌∷◌, length, refl, arith, length-append, FitsSigned, w64}
use Rattle.std.specs.List.{All, flat_map}
use Rattle.std.proofs.lemmas.List.Elements.{All-head, All-tail}
use Rattle.ct_base.specs.Names.{IsName}
use Rattle.ct_base.specs.Limits.{column_limit}
use Rattle.ct_bytes.specs.Varints.{varint}
use Rattle.ct_bytes.specs.laws.Varints.{varint_length}
use Rattle.ct_entry.specs.Keys.{IsRow}
use Rattle.ct_entry.specs.Changes.{spell, AllPut}
use Rattle.ct_entry.specs.Shapes.{AreShaped}
use Rattle.ct_entry.specs.laws.Shapes.{HasWithin, are_shaped}
use Rattle.tb_table.specs.declared.columns.Column.{Column}
use Rattle.tb_table.specs.Spelling.{column_bytes, columns_bytes, table_changes, row_text_changes, insert_changes}
use Rattle.tb_table.specs.Readings.{IsSpellable, EachSpellable, EachFits}
use Rattle.tb_table.specs.Shapes.{HasTableValue, HasShortText, HaveShortTexts, IsTextEntry, text_entry_limit}
use Rattle.tb_table.specs.laws.Spelling.{length-row_numbers_bytes}
use Rattle.tb_table.specs.laws.Well.{EachPlace, are_create, are_insert, short_create, short_insert, length-column_bytes_le}

-- ---- tables

pub each_spellable : (cs : List Column) → All IsSpellable cs → EachSpellable cs
each_spellable [] all = tt
each_spellable (c ∷ cs) all = (All-head IsSpellable c cs all, each_spellable cs (All-tail IsSpellable c cs all))

length-each_column_le : (cs : List Column) → EachSpellable cs → length (flat_map column_bytes cs) ≤ 38 * length cs
length-each_column_le [] each = omega arith
length-each_column_le (c ∷ cs) each =
    let both = length-append (column_bytes c) (flat_map column_bytes cs) in
    let one = length-column_bytes_le c each.0.name in
    let rest = length-each_column_le cs each.1 in
    omega (arith, both, one, rest)

pub length-few_columns_le : (cs : List Column) → EachSpellable cs → length cs ≤ column_limit → length (columns_bytes cs) ≤ 613
length-few_columns_le cs each few =
    let both = length-append (varint (length cs)) (flat_map column_bytes cs) in
    let count = varint_length (length cs) in
    let rest = length-each_column_le cs each in
    omega (arith, both, count, rest, few)

pub create_shaped : (t : List ℕ) (cs : List Column) → IsName t → All IsSpellable cs → length cs ≤ column_limit → AreShaped HasTableValue (spell (table_changes t cs))
create_shaped t cs name all few =
    let each = each_spellable cs all in
    let short = length-few_columns_le cs each few in
    are_shaped HasTableValue (table_changes t cs) (are_create t cs name) (short_create t cs) (
      record { bounded = omega (arith, short); has = (cs, record { each = each; few = omega (arith, few) }, refl) },
      tt,
    )

-- ---- rows

pub each_fits : (zs : List ℤ) → All (FitsSigned w64) zs → EachFits zs
each_fits [] all = tt
each_fits (z ∷ zs) all = (All-head (FitsSigned w64) z zs all, each_fits zs (All-tail (FitsSigned w64) z zs all))

each_place : (texts : List (ℕ × List ℕ)) → All IsTextEntry texts → EachPlace texts
each_place [] are = tt
each_place (x ∷ texts) are = ((All-head IsTextEntry x texts are).place, each_place texts (All-tail IsTextEntry x texts are))

put_texts : (t : List ℕ) (r : ℤ) (texts : List (ℕ × List ℕ)) → All IsTextEntry texts → HaveShortTexts texts → AllPut (HasWithin HasTableValue) (row_text_changes t r texts)
put_texts t r [] are short = tt
put_texts t r (x ∷ texts) are short =
    let one : length x.1 ≤ text_entry_limit = All-head HasShortText x texts short in (
      record { bounded = omega (arith, one); has = (one, (All-head IsTextEntry x texts are).utf8) },
      put_texts t r texts (All-tail IsTextEntry x texts are) (All-tail HasShortText x texts short),
    )

pub insert_shaped : (t : List ℕ) (r : ℤ) (numbers : List ℤ) (texts : List (ℕ × List ℕ)) → IsName t → IsRow r → All (FitsSigned w64) numbers → length numbers ≤ column_limit → All IsTextEntry texts → HaveShortTexts texts
    → AreShaped HasTableValue (spell (insert_changes t r numbers texts))
insert_shaped t r numbers texts name row fit few are short =
    let long = length-row_numbers_bytes numbers in
    are_shaped HasTableValue (insert_changes t r numbers texts) (are_insert t r numbers texts name row (each_place texts are)) (short_insert t r numbers texts) (
      record { bounded = omega (arith, long, few); has = (numbers, each_fits numbers fit, refl) },
      put_texts t r texts are short,
    )
