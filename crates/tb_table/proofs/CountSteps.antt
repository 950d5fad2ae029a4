-- Where each entry of a table's rows is that of a row, there are as many rows as entries.
use Rattle.std.proofs.Common.{◌≡◌, ℕ, ℤ, suc, List, [], ◌∷◌, length, Option, Some, None, refl, sym, ap, ◌∙◌, subst}
use Rattle.std.specs.Prelude.{is_some}
use Rattle.std.specs.List.{cons_option}
use Rattle.std.specs.Ordering.{nat_cmp}
use Rattle.std.specs.Cmp.Lexicographic.{slice_cmp}
use Rattle.std.specs.FinMap.{entries, get}
use Rattle.std.proofs.lemmas.Cmp.{nat_list_cmp_total}
use Rattle.ct_keep.specs.Content.{Content}
use Rattle.ct_keep.specs.laws.Rising.{Entry}
use Rattle.ct_keep.specs.Tail.{tail}
use Rattle.ct_keep.specs.laws.Tail.{get-tail, get-tail_nil}
use Rattle.ct_entry.specs.declared.kinds.Kind.TheVariants as kind
use Rattle.ct_entry.specs.Keys.{Key, key, bytes, prefix_of, IsRowPart, IsPart, HasKeysOnly}
use Rattle.ct_entry.specs.laws.Keys.{key_from_bytes}
use Rattle.ct_keep.specs.laws.FoundKeys.{AllKeys, all_keys}
use Rattle.ct_entry.specs.Listings.{row_of, rows_of, rows_under}
use Rattle.ct_entry.specs.laws.Rows.{row_of-row_part}

-- ---- each rest is that of a row

abbrev AllRows : List Entry → Type 0
AllRows es = AllKeys (slice_cmp nat_cmp) IsRowPart es

all_rows : (t : List ℕ) (m : Content) → HasKeysOnly m → AllRows (entries (tail (prefix_of kind.RowNumbers t) m))
all_rows t m only = all_keys (slice_cmp nat_cmp) nat_list_cmp_total IsRowPart (tail (prefix_of kind.RowNumbers t) m) found
  where
    found : (q x : List ℕ) → get (tail (prefix_of kind.RowNumbers t) m) q ≡ Some x → IsRowPart q
    found [] x is = let wrong : None ≡ Some x = sym (get-tail_nil (prefix_of kind.RowNumbers t) m) ∙ is in cc
    found (y ∷ q) x is =
        let k = only (bytes (key kind.RowNumbers t (y ∷ q))) (ap is_some (sym (get-tail (prefix_of kind.RowNumbers t) m y q) ∙ is)) in
        let same : k.0 ≡ key kind.RowNumbers t (y ∷ q) = key_from_bytes k.0 (key kind.RowNumbers t (y ∷ q)) (sym k.1) in
        subst (λ (j : Key). IsPart j.kind j.part) same k.2.part

-- so there are as many rows as entries
count_rows : (es : List Entry) → AllRows es → length (rows_of es) ≡ length es
count_rows [] all = refl
count_rows (e ∷ es) all =
    let row = all.0 in
    ap (λ (o : Option ℤ). length (cons_option o (rows_of es))) (ap row_of row.2 ∙ row_of-row_part row.0 row.1) ∙ ap suc (count_rows es all.1)

pub rows_counted : (t : List ℕ) (m : Content) → HasKeysOnly m → length (entries (tail (prefix_of kind.RowNumbers t) m)) ≡ length (rows_under kind.RowNumbers t m)
rows_counted t m only = sym (count_rows (entries (tail (prefix_of kind.RowNumbers t) m)) (all_rows t m only))
