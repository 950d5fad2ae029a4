-- Which entries of catalogues are well shaped, each by itself.
use Rattle.std.specs.Prelude.{ℕ, ℤ, ◌≡◌, ◌⊎◌, ◌+◌, ◌≤◌, zero, suc, pos, List, [], ◌∷◌, ◌++◌, length, Option, Result, OnOk, codes, refl}
use Rattle.std.specs.Str.{IsUtf8}
use Rattle.std.specs.List.{flat_map}
use Rattle.std.proofs.Common.{arith, inl, inr}
use lib.Utf8.{encode}
use Rattle.ct_base.specs.Limits.{sub_index_limit}
use Rattle.ct_bytes.specs.RowKeys.{row_bytes}
use Rattle.ct_entry.specs.declared.kinds.Kind.{Kind}
use Rattle.ct_entry.specs.declared.kinds.Kind.TheVariants as kind
use Rattle.ct_entry.specs.Keys.{Key, key, counted_bytes, catalogue_part, IsRow, IsRowPart, IsToken, IsPart}
use Rattle.ct_entry.specs.Lists.{EachIs}
use Rattle.ct_entry.specs.Shapes.{AreShaped}
use Rattle.tx_sets.specs.Sets.{sub_column_limit}
use Rattle.cat_index.specs.declared.catalogues.Catalogue.{Catalogue}
use Rattle.cat_index.specs.declared.filings.Filing.{Filing}
use Rattle.cat_index.specs.Filings.{sub_text_limit}
use Rattle.cat_index.specs.Spelling.{catalogue_bytes, IsSpellable}

-- ---- values in keys

-- a text of at most 100 bytes, after its length
pub record IsSubText (bytes : List ℕ) : Type 0 where
  pub text : List ℕ
  pub short : length text ≤ sub_text_limit
  pub utf8 : IsUtf8 text
  pub spelt : bytes ≡ counted_bytes text

-- a number or such a text
abbrev pub IsItem : List ℕ → Type 0
IsItem bytes = IsRowPart bytes ⊎ IsSubText bytes

abbrev pub joined : List (List ℕ) → List ℕ
joined items = flat_map (λ item. item) items

-- the bytes of one to so many of these
pub record AreItems (most : ℕ) (bytes : List ℕ) : Type 0 where
  pub items : List (List ℕ)
  pub some : 1 ≤ length items
  pub few : length items ≤ most
  pub each : EachIs IsItem items
  pub spelt : bytes ≡ joined items

-- The values in a key of the sub-index of this number: the plain one, with the number 0, has none, and each other has one to three.
abbrev pub AreSubValues : ℕ → List ℕ → Type 0
AreSubValues zero bytes = bytes ≡ []
AreSubValues (suc sub) bytes = AreItems sub_column_limit bytes

-- of each sub-index, from this number on
abbrev pub AreValues : ℕ → List (List ℕ) → Type 0
AreValues sub [] = Unit {0}
AreValues sub (v ∷ vs) = AreSubValues sub v × AreValues (sub + 1) vs

-- What a row may have: words of 1 to 255 bytes, and values in the plain sub-index and at most sixteen others.
pub record IsFiling (w : Filing) : Type 0 where
  pub words : EachIs IsToken w.words
  pub values : AreValues 0 w.values
  pub few : length w.values ≤ sub_index_limit + 1

-- ---- entries

-- a sub-index by its number, a word, values of the sub-index, and a row
pub record IsWordPart (part : List ℕ) : Type 0 where
  pub sub : ℕ
  pub word : List ℕ
  pub values : List ℕ
  pub row : ℤ
  pub few : sub ≤ sub_index_limit
  pub token : IsToken word
  pub are : AreSubValues sub values
  pub is_row : IsRow row
  pub spelt : part ≡ catalogue_part sub word values row

-- the entry of a catalogue on a column of some table, whether or not there is such a table
pub record IsCatalogueEntry (value : List ℕ) : Type 0 where
  pub catalogue : Catalogue
  pub spellable : IsSpellable catalogue
  pub spelt : value ≡ catalogue_bytes catalogue

-- the value that a key of a kind of catalogues has, by the rest of the key
abbrev pub CatalogueValueAt : Kind → List ℕ → List ℕ → Type 0
CatalogueValueAt kind.Indexes part value = IsCatalogueEntry value
CatalogueValueAt kind.Catalogue part value = IsWordPart part × (value ≡ [])
CatalogueValueAt k part value = ⊥

-- the rule by which entries of catalogues are well shaped
abbrev pub HasCatalogueValue : Key → List ℕ → Type 0
HasCatalogueValue k value = CatalogueValueAt k.kind k.part value

-- the rest of a key of this kind, and a value that it may have
abbrev pub IsCatalogueShape : Kind → List ℕ → List ℕ → Type 0
IsCatalogueShape kind part value = IsPart kind part × CatalogueValueAt kind part value

-- Unless the call failed, a batch of well shaped entries of catalogues is one still.
abbrev pub KeepsShape : {T E : Type 0} → List (List ℕ × Option (List ℕ)) → List (List ℕ × Option (List ℕ)) → Result T E → Type 0
KeepsShape old new result = OnOk result (AreShaped HasCatalogueValue old → AreShaped HasCatalogueValue new)

-- computed examples: a row in the plain sub-index, and in one of a price and a text
in_the_plain_one : HasCatalogueValue (key kind.Catalogue (codes "ci") (catalogue_part 0 (codes "red") [] (pos 7))) []
in_the_plain_one = (record { sub = 0; word = codes "red"; values = []; row = pos 7; few = omega arith; token = record { some = omega arith; short = omega arith }; are = refl; is_row = omega arith; spelt = refl }, refl)

of_two_columns : AreSubValues 1 (row_bytes (pos 9) ++ (3 ∷ codes "hat"))
unfolding encode
of_two_columns = record {
  items = row_bytes (pos 9) ∷ (3 ∷ codes "hat") ∷ [];
  some = omega arith;
  few = omega arith;
  each = (inl (pos 9, omega arith, refl), (inr (record { text = codes "hat"; short = omega arith; utf8 = (codes "hat", (refl, refl)); spelt = refl }), tt));
  spelt = refl;
}

no_value_in_the_plain_one : AreSubValues 0 (0 ∷ []) → ⊥
no_value_in_the_plain_one are = cc
