-- What holds of the bytes of all columns and numbers: they can be read back.
use Rattle.std.proofs.Common.{◌≡◌, ℕ, ℤ, ◌*◌, ◌^◌, ◌<◌, List, [], ◌∷◌, ◌++◌, length, Option, Some, None, refl, sym, ap, ◌∙◌, arith, append_assoc, length-append, append-nil}
use Rattle.std.specs.List.{flat_map}
use Rattle.std.proofs.lemmas.Option.{same_Some}
use Rattle.tb_table.specs.Promises.{ColumnsHaveTheirOwnBytes, NumbersHaveTheirOwnBytes}
use Rattle.ct_bytes.specs.Varints.{text_bytes}
use Rattle.ct_bytes.specs.laws.Varints.{varint_apart, text_apart}
use Rattle.ct_bytes.specs.laws.Numbers.{two_bytes_one}
use Rattle.ct_bytes.specs.RowKeys.{row_bytes}
use Rattle.ct_bytes.specs.laws.RowKeys.{length-row_bytes, row_bytes_apart}
use Rattle.tb_table.specs.declared.columns.Sort.{Sort}
use Rattle.tb_table.specs.declared.columns.Sort.TheVariants.{Number, Varchar2, Clob}
use Rattle.tb_table.specs.declared.columns.Column.{Column}
use Rattle.tb_table.specs.Spelling.{sort_code, sort_size, column_bytes, row_numbers_bytes}
use Rattle.tb_table.specs.Readings.{IsSpellable, EachSpellable, sort_bytes, SpellsColumns, SpellsNumbers, SpellsText}

-- ---- the laws

-- ---- sorts

pub sort_from_parts : (s t : Sort) → sort_code s ≡ sort_code t → sort_size s ≡ sort_size t → s ≡ t
sort_from_parts Number Number c e = refl
sort_from_parts Number (Varchar2 n) c e = cc
sort_from_parts Number Clob c e = cc
sort_from_parts (Varchar2 m) Number c e = cc
sort_from_parts (Varchar2 m) (Varchar2 n) c e = ap Varchar2 e
sort_from_parts (Varchar2 m) Clob c e = cc
sort_from_parts Clob Number c e = cc
sort_from_parts Clob (Varchar2 n) c e = cc
sort_from_parts Clob Clob c e = refl

three : (a b c a' b' c' : ℕ) (r s : List ℕ) → a ∷ b ∷ c ∷ r ≡ a' ∷ b' ∷ c' ∷ s → (a ≡ a') × (b ∷ c ∷ [] ≡ b' ∷ c' ∷ []) × (r ≡ s)
three a b c a' b' c' r s e = (cc, cc, cc)

pub sort_apart : (s t : Sort) (x y : List ℕ) → sort_size s < 2 ^ 16 → sort_size t < 2 ^ 16 → sort_bytes s ++ x ≡ sort_bytes t ++ y → (s ≡ t) × (x ≡ y)
sort_apart s t x y f g e =
    let h = three _ _ _ _ _ _ x y e in
    (sort_from_parts s t h.0 (two_bytes_one (sort_size s) (sort_size t) f g h.1), h.2)

-- ---- columns

pub column_apart : (c d : Column) (x y : List ℕ) → IsSpellable c → IsSpellable d → column_bytes c ++ x ≡ column_bytes d ++ y → (c ≡ d) × (x ≡ y)
column_apart c d x y f g e =
    let names = text_apart c.name d.name (sort_bytes c.sort ++ x) (sort_bytes d.sort ++ y) (sym (append_assoc (text_bytes c.name) (sort_bytes c.sort) x) ∙ e ∙ append_assoc (text_bytes d.name) (sort_bytes d.sort) y) in
    let sorts = sort_apart c.sort d.sort x y f.size g.size names.1 in
    (λ i. record { name = names.0 i; sort = sorts.0 i }, sorts.1)

-- so many columns at the beginning
pub each_column_apart : (cs ds : List Column) (x y : List ℕ) → EachSpellable cs → EachSpellable ds → length cs ≡ length ds → flat_map column_bytes cs ++ x ≡ flat_map column_bytes ds ++ y → (cs ≡ ds) × (x ≡ y)
each_column_apart [] [] x y f g l e = (refl, e)
each_column_apart [] (d ∷ ds) x y f g l e = absurd (omega arith)
each_column_apart (c ∷ cs) [] x y f g l e = absurd (omega arith)
each_column_apart (c ∷ cs) (d ∷ ds) x y f g l e =
    let head = column_apart c d (flat_map column_bytes cs ++ x) (flat_map column_bytes ds ++ y) f.0 g.0 (sym (append_assoc (column_bytes c) (flat_map column_bytes cs) x) ∙ e ∙ append_assoc (column_bytes d) (flat_map column_bytes ds) y) in
    let rest = each_column_apart cs ds x y f.1 g.1 (omega arith) head.1 in
    (λ i. head.0 i ∷ rest.0 i, rest.1)

pub columns_apart : ColumnsHaveTheirOwnBytes
columns_apart cs ds f g e =
    let count = varint_apart (length cs) (length ds) (flat_map column_bytes cs) (flat_map column_bytes ds) e in
    (each_column_apart cs ds [] [] f.each g.each count.0 (append-nil (flat_map column_bytes cs) ∙ count.1 ∙ sym (append-nil (flat_map column_bytes ds)))).0

-- ---- numbers

pub length-row_numbers_bytes : (zs : List ℤ) → length (row_numbers_bytes zs) ≡ 8 * length zs
length-row_numbers_bytes [] = refl
length-row_numbers_bytes (z ∷ zs) = length-append (row_bytes z) (row_numbers_bytes zs) ∙ (let eight = length-row_bytes z in let rest = length-row_numbers_bytes zs in omega arith)

pub numbers_apart : NumbersHaveTheirOwnBytes
numbers_apart [] [] f g e = refl
numbers_apart [] (z ∷ zs) f g e = absurd (let l = ap length e ∙ length-row_numbers_bytes (z ∷ zs) in omega (arith, l))
numbers_apart (y ∷ ys) [] f g e = absurd (let l = sym (length-row_numbers_bytes (y ∷ ys)) ∙ ap length e in omega (arith, l))
numbers_apart (y ∷ ys) (z ∷ zs) f g e =
    let head = row_bytes_apart y z (row_numbers_bytes ys) (row_numbers_bytes zs) f.0 g.0 e in
    let rest : ys ≡ zs = numbers_apart ys zs f.1 g.1 head.1 in
    λ i. head.0 i ∷ rest i

-- ---- an entry is read in one way

pub columns_one : (entry : Option (List ℕ)) (a b : Option (List Column)) → SpellsColumns entry a → SpellsColumns entry b → a ≡ b
columns_one entry None None f g = refl
columns_one entry None (Some ds) f g = absurd (f ds g.0 g.1)
columns_one entry (Some cs) None f g = absurd (g cs f.0 f.1)
columns_one entry (Some cs) (Some ds) f g = ap Some (columns_apart cs ds f.0 g.0 (same_Some _ _ (sym f.1 ∙ g.1)))

pub numbers_one : (entry : Option (List ℕ)) (a b : Option (List ℤ)) → SpellsNumbers entry a → SpellsNumbers entry b → a ≡ b
numbers_one entry None None f g = refl
numbers_one entry None (Some zs) f g = absurd (f zs g.1)
numbers_one entry (Some ys) None f g = absurd (g ys f.1)
numbers_one entry (Some ys) (Some zs) f g = ap Some (numbers_apart ys zs f.0 g.0 (same_Some _ _ (sym f.1 ∙ g.1)))

pub text_one : (entry : Option (List ℕ)) (a b : Option (List ℕ)) → SpellsText entry a → SpellsText entry b → a ≡ b
text_one entry None None f g = refl
text_one entry None (Some t) f g = absurd (f t g.0 g.1)
text_one entry (Some t) None f g = absurd (g t f.0 f.1)
text_one entry (Some t) (Some u) f g = sym f.1 ∙ g.1
