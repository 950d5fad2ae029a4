-- Which entries of tables are well shaped, each by itself.
use Rattle.std.specs.Prelude.{ℕ, ℤ, ◌≡◌, ◌≤◌, ◌<◌, ◌^◌, List, [], ◌∷◌, length, codes, pos, negsuc, refl}
use Rattle.std.specs.Str.{IsUtf8}
use Rattle.std.specs.List.{All}
use Rattle.std.proofs.Common.{arith}
use lib.Utf8.{encode}
use Rattle.ct_bytes.specs.Varints.{varint}
use Rattle.ct_bytes.specs.RowKeys.{row_bytes}
use Rattle.ct_entry.specs.declared.kinds.Kind.{Kind}
use Rattle.ct_entry.specs.declared.kinds.Kind.TheVariants.{Tables, RowNumbers, RowTexts, Pending}
use Rattle.ct_entry.specs.Keys.{Key, key, row_part, text_part, IsPart}
use Rattle.ct_entry.specs.Shapes.{IsShaped}
use Rattle.tb_table.specs.declared.columns.Sort.TheVariants.{Number, Varchar2}
use Rattle.tb_table.specs.declared.columns.Column.{Column}
use Rattle.tb_table.specs.Spelling.{columns_bytes, row_numbers_bytes}
use Rattle.tb_table.specs.Readings.{AreSpellable, EachFits}

-- how many bytes the text of an entry has at most; those of statements are shorter
abbrev pub text_entry_limit : ℕ
text_entry_limit = 16777216

-- the values that keys of a kind have; those of other kinds aren't of tables
abbrev pub IsTableValue : Kind → List ℕ → Type 0
IsTableValue Tables value = (cs : List Column) × AreSpellable cs × (value ≡ columns_bytes cs)
IsTableValue RowNumbers value = (zs : List ℤ) × EachFits zs × (value ≡ row_numbers_bytes zs)
IsTableValue RowTexts value = (length value ≤ text_entry_limit) × IsUtf8 value
IsTableValue kind value = ⊥

-- the rule of tables
abbrev pub HasTableValue : Key → List ℕ → Type 0
HasTableValue k value = IsTableValue k.kind value

-- a rest that keys of the kind have, and a value that they have, whatever their owner
pub record IsTableShape (kind : Kind) (part value : List ℕ) : Type 0 where
  pub rest : IsPart kind part
  pub has : IsTableValue kind value

-- ---- the texts of a row, each with its column

-- a text in UTF-8, of a column that a key may have
pub record IsTextEntry (x : ℕ × List ℕ) : Type 0 where
  pub place : x.0 < 256
  pub utf8 : IsUtf8 x.1

-- a text that is short enough for an entry
abbrev pub HasShortText : ℕ × List ℕ → Type 0
HasShortText x = length x.1 ≤ text_entry_limit

abbrev pub HaveShortTexts : List (ℕ × List ℕ) → Type 0
HaveShortTexts texts = All HasShortText texts

-- computed examples: the limit, and the entries of a table `t` with the columns `id` and `w`, with a row 7
sixteen_mebibytes : text_entry_limit ≡ 2 ^ 24
sixteen_mebibytes = refl

a_table : IsShaped HasTableValue (0x01 ∷ 1 ∷ 0x74 ∷ []) (2 ∷ 2 ∷ 0x69 ∷ 0x64 ∷ 1 ∷ 0 ∷ 0 ∷ 1 ∷ 0x77 ∷ 2 ∷ 1 ∷ 44 ∷ [])
unfolding varint
a_table = record {
  key = key Tables (codes "t") [];
  spelt = refl;
  parts = record { owner = record { spelt = refl; lower = refl }; part = refl };
  has = (
    record { name = codes "id"; sort = Number } ∷ record { name = codes "w"; sort = Varchar2 300 } ∷ [],
    record {
      each = (
        record { name = record { spelt = refl; lower = refl }; size = omega arith },
        (record { name = record { spelt = refl; lower = refl }; size = omega arith }, tt),
      );
      few = omega arith;
    },
    refl,
  );
}

numbers_of_a_row : IsShaped HasTableValue (0x02 ∷ 1 ∷ 0x74 ∷ 0x80 ∷ 0 ∷ 0 ∷ 0 ∷ 0 ∷ 0 ∷ 0 ∷ 7 ∷ []) (0x7f ∷ 0xff ∷ 0xff ∷ 0xff ∷ 0xff ∷ 0xff ∷ 0xff ∷ 0xff ∷ [])
unfolding row_bytes
numbers_of_a_row = record {
  key = key RowNumbers (codes "t") (row_part (pos 7));
  spelt = refl;
  parts = record { owner = record { spelt = refl; lower = refl }; part = (pos 7, omega arith, refl) };
  has = (negsuc 0 ∷ [], (omega arith, tt), refl);
}

a_text_of_a_row : IsShaped HasTableValue (0x03 ∷ 1 ∷ 0x74 ∷ 1 ∷ 0x80 ∷ 0 ∷ 0 ∷ 0 ∷ 0 ∷ 0 ∷ 0 ∷ 7 ∷ []) (codes "fox")
unfolding row_bytes encode
a_text_of_a_row = record {
  key = key RowTexts (codes "t") (text_part 1 (pos 7));
  spelt = refl;
  parts = record { owner = record { spelt = refl; lower = refl }; part = (1, (pos 7, omega arith, omega arith, refl)) };
  has = (omega arith, (codes "fox", (refl, refl)));
}

-- the key of a table has no rest
no_table : IsTableShape Tables (0 ∷ []) (0 ∷ []) → ⊥
no_table is = let e : ◌≡◌ {A = List ℕ} (0 ∷ []) [] = is.rest in cc

-- an entry of an index is none of a table
no_index : HasTableValue (key Pending (codes "t") (row_part (pos 7))) [] → ⊥
no_index is = is
