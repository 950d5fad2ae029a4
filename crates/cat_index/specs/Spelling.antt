-- The entry that spells a catalogue.
use Rattle.std.specs.Prelude.{ℕ, ◌≡◌, ◌<◌, true, List, [], ◌∷◌, ◌++◌, Option, Some, None, codes, refl}
use Rattle.std.specs.List.{list_all}
use lib.Utf8.{encode}
use Rattle.ct_base.specs.Names.{IsName, is_kept}
use Rattle.ct_bytes.specs.Varints.{varint, text_bytes}
use Rattle.ct_entry.specs.declared.kinds.Kind.TheVariants as kind
use Rattle.ct_entry.specs.Keys.{Key, key}
use Rattle.ct_entry.specs.Changes.{put_value}
use Rattle.tx_settings.specs.declared.preferences.Prefs.{Prefs}
use Rattle.tx_settings.specs.Defaults.{default_prefs}
use Rattle.tx_settings.specs.PrefsBytes.{prefs_bytes, IsPrefs}
use Rattle.tx_sets.specs.Sets.{are_sub_indexes, set_bytes}
use Rattle.ix_kinds.specs.Standing.{no_place}
use Rattle.cat_index.specs.declared.catalogues.Catalogue.{Catalogue}

-- what stands at the end: no next document, in four bytes, the tidiness 0, and no place to resume at
abbrev pub last_bytes : List ℕ
last_bytes = 0 ∷ 0 ∷ 0 ∷ 0 ∷ 0 ∷ 0 ∷ 0 ∷ []

-- of it what stands before the place
abbrev pub no_number : List ℕ
no_number = 0 ∷ 0 ∷ 0 ∷ 0 ∷ 0 ∷ []

-- what stands behind the head: that the index isn't transactional, its preferences, its sub-indexes, and this
abbrev pub rest_bytes : Prefs → List (List (List ℕ)) → List ℕ
rest_bytes prefs names = 0 ∷ (prefs_bytes prefs ++ (set_bytes names ++ last_bytes))

-- the same before the place
abbrev pub told_bytes : Prefs → List (List (List ℕ)) → List ℕ
told_bytes prefs names = 0 ∷ (prefs_bytes prefs ++ (set_bytes names ++ no_number))

-- The entry of a catalogue: its kind 2, its table as a text, its column in one byte, and this.
abbrev pub catalogue_bytes : Catalogue → List ℕ
catalogue_bytes x = 2 ∷ text_bytes x.target.table ++ (x.target.column ∷ rest_bytes x.prefs x.subs)

-- the change that gives a catalogue its entry
abbrev pub catalogue_change : List ℕ → Catalogue → Key × Option (List ℕ)
catalogue_change i x = put_value (key kind.Indexes i []) (catalogue_bytes x)

-- What an entry may say: the table and the columns have names, the column has one byte, preferences are such as an index may have, and the
-- sub-indexes are within the limits.
pub record IsSpellable (x : Catalogue) : Type 0 where
  pub table : IsName x.target.table
  pub column : x.target.column < 256
  pub prefs : IsPrefs x.prefs
  pub subs : are_sub_indexes x.subs ≡ true
  pub named : list_all (list_all is_kept) x.subs ≡ true

-- the entry is that of this catalogue; or of none
abbrev pub SpellsCatalogue : Option (List ℕ) → Option Catalogue → Type 0
SpellsCatalogue entry (Some x) = IsSpellable x × (entry ≡ Some (catalogue_bytes x))
SpellsCatalogue entry None = (x : Catalogue) → IsSpellable x → entry ≡ Some (catalogue_bytes x) → ⊥

-- computed example: a catalogue on the column 1 of the table `docs`, with the price as a sub-index
abbrev of_prices : Catalogue
of_prices = record { target = record { table = codes "docs"; column = 1 }; prefs = default_prefs; subs = (codes "price" ∷ []) ∷ [] }

an_entry : catalogue_bytes of_prices ≡ 2 ∷ 4 ∷ codes "docs" ++ (1 ∷ 0 ∷ 0 ∷ 0 ∷ 2 ∷ 0 ∷ 0 ∷ 1 ∷ 1 ∷ 5 ∷ codes "price" ++ (0 ∷ 0 ∷ 0 ∷ 0 ∷ 0 ∷ 0 ∷ 0 ∷ []))
unfolding varint encode
an_entry = refl

the_last : no_number ++ no_place ≡ last_bytes
the_last = refl

no_entry : SpellsCatalogue None None
no_entry x is e = cc
