-- What is read from the entry of a catalogue.
use Rattle.std.specs.Prelude.{ℕ, ◌≡◌, List, Option, Some}
use Rattle.tx_settings.specs.declared.preferences.Prefs.{Prefs}
use Rattle.cat_index.specs.declared.catalogues.Catalogue.{Catalogue}
use Rattle.cat_index.specs.Spelling.{catalogue_bytes, IsSpellable}

-- its table, its column, its preferences and its sub-indexes
abbrev pub Parts : Type 0
Parts = List ℕ × ℕ × Prefs × List (List (List ℕ))

abbrev pub parts_of : Catalogue → Parts
parts_of x = (x.target.table, x.target.column, x.prefs, x.subs)

-- Where the bytes are the entry of a catalogue, these are its parts.
abbrev pub HasParts : List ℕ → Option Parts → Type 0
HasParts value parts = (x : Catalogue) → IsSpellable x → value ≡ catalogue_bytes x → parts ≡ Some (parts_of x)
