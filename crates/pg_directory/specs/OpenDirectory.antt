-- The directory of a store that is opened.
use Rattle.std.specs.Prelude.{ℕ, List, Option, None, Some}
use Rattle.pg_directory.specs.declared.directories.Directory.{Directory as OpenDirectory}
use Rattle.pg_directory.specs.declared.entries.EntryAt.{EntryAt}
use Rattle.pg_directory.specs.Levels.{HasLevels}
use Rattle.pg_directory.specs.Trees.{StorePage, IsDirectory}

-- the directory from a page at its top, or there is none
abbrev pub IsOpenOr : Option OpenDirectory → List StorePage → ℕ → Type 0
IsOpenOr (Some d) pages top = (es : List EntryAt) × HasLevels pages top d.inner.items d.leaves.items es
IsOpenOr None pages top = (es : List EntryAt) → IsDirectory pages top es → ⊥
