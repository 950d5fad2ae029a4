-- The index of a kind on a column, and its name.
use Rattle.std.specs.Prelude.{ℕ, ◌≡◌, Bool, List, Option, Some, None, ◌==◌, ◌&&◌, [], ◌∷◌, codes, refl}
use Rattle.std.specs.FinMap.{get, entries}
use Rattle.ct_entry.specs.Maps.{Names, Rows}
use Rattle.ix_docmap.specs.Marks.{Mark}
use Rattle.tx_settings.specs.Defaults.{default_prefs}
use Rattle.ix_context.specs.Indexes.{no_part}
use Rattle.ix_indexes.specs.Indexes.{Index, kinds}
use Rattle.db_names.specs.declared.heads.IndexKind.{IndexKind}
use Rattle.db_names.specs.declared.heads.IndexKind.TheVariants.{Context, Catalogue}
use Rattle.db_names.specs.Heads.{index_code}
use Rattle.std.specs.Bool.{if◌then◌else◌}
use Rattle.std.proofs.Common.{inl}
use Rattle.ct_entry.specs.Keys.{same_list}

-- the index is of this kind, and on the column, by its place in the table
abbrev pub is_on_column : IndexKind → List ℕ → ℕ → Index → Bool
is_on_column kind t place x = same_list x.table t && (x.column == place) && (index_code (kinds.kind x.body) == index_code kind)

-- the index of this kind on the column
abbrev pub index_among : IndexKind → List ℕ → ℕ → List (List ℕ × Index) → Option Index
index_among kind t place [] = None
index_among kind t place (e ∷ es) = if is_on_column kind t place e.1 then Some e.1 else index_among kind t place es

abbrev pub index_on : IndexKind → Names Index → List ℕ → ℕ → Option Index
index_on kind xs t place = index_among kind t place (entries xs)

-- this is its name; or none is on the column
abbrev pub FoundOn : IndexKind → Names Index → List ℕ → ℕ → Option (List ℕ) → Type 0
FoundOn kind xs t place (Some i) = (x : Index) × ((get xs i ≡ Some x) × (index_on kind xs t place ≡ Some x))
FoundOn kind xs t place None = index_on kind xs t place ≡ None

-- computed examples: two indexes on columns of `docs`, whatever their marks, and none on another column, or of another kind
abbrev on_docs : ℕ → Rows (Mark (Unit {0})) → Index
on_docs column marks = record { table = codes "docs"; column = column; prefs = default_prefs; body = inl (record { part = no_part; marks = marks }) }

the_second : (ms : Rows (Mark (Unit {0}))) → index_among Context (codes "docs") 2 ((codes "di", on_docs 1 ms) ∷ (codes "dj", on_docs 2 ms) ∷ []) ≡ Some (on_docs 2 ms)
the_second ms = refl

none_on_it : (ms : Rows (Mark (Unit {0}))) → index_among Context (codes "docs") 3 ((codes "di", on_docs 1 ms) ∷ (codes "dj", on_docs 2 ms) ∷ []) ≡ None
none_on_it ms = refl

none_of_the_kind : (ms : Rows (Mark (Unit {0}))) → index_among Catalogue (codes "docs") 2 ((codes "dj", on_docs 2 ms) ∷ []) ≡ None
none_of_the_kind ms = refl
