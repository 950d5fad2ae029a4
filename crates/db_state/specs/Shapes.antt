-- Which entries a store has, each by itself, and what statements ask of a keeper: that it takes these.
use Rattle.std.specs.Prelude.{ℕ, pos, ◌⊎◌, ◌∷◌, [], List, Option, codes, refl}
use Rattle.std.proofs.Common.{arith, inl}
use Rattle.ct_bytes.specs.RowKeys.{row_bytes}
use Rattle.ct_keep.specs.KeeperViews.{KeeperView, Accepts}
use Rattle.ct_entry.specs.declared.kinds.Kind.TheVariants as kind
use Rattle.ct_entry.specs.Keys.{Key, key, row_part}
use Rattle.ct_entry.specs.Shapes.{IsShaped, AreShaped}
use Rattle.tb_table.specs.Shapes.{HasTableValue}
use Rattle.ix_indexes.specs.Shapes.{HasIndexValue}
use Rattle.tx_prefs.specs.Shapes.{HasPrefValue}
use Rattle.th_store.specs.Shapes.{HasThesaurusValue}

-- The value is one that entries of tables, of indexes, of what is defined for indexes, or of thesauri have under the key. No kind of entry is
-- of two of these; and there is no other kind in a store.
abbrev pub HasStoreValue : Key → List ℕ → Type 0
HasStoreValue k value = HasTableValue k value ⊎ (HasIndexValue k value ⊎ (HasPrefValue k value ⊎ HasThesaurusValue k value))

-- an entry of a store, by its key and its value; that it is within the bounds of keys and values is asked beside it, as of every entry of a keeper
abbrev pub IsStoreEntry : List ℕ → List ℕ → Type 0
IsStoreEntry spelling value = IsShaped HasStoreValue spelling value

-- Each entry that a change puts is within the bounds, and one that a store has.
abbrev pub AreStoreChanges : List (List ℕ × Option (List ℕ)) → Type 0
AreStoreChanges changes = AreShaped HasStoreValue changes

-- It may be read and changed, and takes every entry that a store has.
abbrev pub AcceptsStatements : KeeperView → Type 0
AcceptsStatements k = Accepts IsStoreEntry k

-- computed example: the entry of the row 7 of a table `t` that has no other column of numbers
a_row : IsStoreEntry (0x02 ∷ 1 ∷ 0x74 ∷ 0x80 ∷ 0 ∷ 0 ∷ 0 ∷ 0 ∷ 0 ∷ 0 ∷ 7 ∷ []) []
unfolding row_bytes
a_row = record {
  key = key kind.RowNumbers (codes "t") (row_part (pos 7));
  spelt = refl;
  parts = record { owner = record { spelt = refl; lower = refl }; part = (pos 7, omega arith, refl) };
  has = inl ([], tt, refl);
}
