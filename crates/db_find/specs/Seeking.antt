-- The index that a search needs.
use Rattle.std.specs.Prelude.{ℕ, ◌≡◌, List, [], ◌∷◌, Option, Some, None, codes, refl}
use Rattle.std.specs.Option.{option_and_then}
use Rattle.std.proofs.Common.{inl}
use Rattle.std.specs.Bool.{if◌then◌else◌}
use Rattle.std.specs.FinMap.{get, entries}
use Rattle.ct_entry.specs.Maps.{Names, Rows}
use Rattle.tx_settings.specs.Defaults.{default_prefs}
use Rattle.ix_context.specs.Indexes.{no_part}
use Rattle.tb_table.specs.declared.columns.Column.{Column}
use Rattle.db_names.specs.declared.heads.IndexKind.{IndexKind}
use Rattle.db_names.specs.declared.heads.IndexKind.TheVariants.{Context}
use Rattle.ix_indexes.specs.Indexes.{Index}
use Rattle.db_state.specs.States.{StoreState}
use Rattle.db_state.specs.Columns.{column_place}
use Rattle.db_state.specs.Lookups.{index_on, is_on_column}
use Rattle.ix_docmap.specs.Marks.{Mark}
use Rattle.db_find.specs.Searches.{Search, search_column, search_kind}

-- that on its column, of the kind that answers it
abbrev pub index_of_search : StoreState → List ℕ → List Column → Search → Option Index
index_of_search m t columns s = option_and_then (λ (place : ℕ). index_on (search_kind s) m.indexes t place) (column_place (search_column s) columns)

-- the index of a kind on a column, with its name
abbrev pub named_index_among : IndexKind → List ℕ → ℕ → List (List ℕ × Index) → Option (List ℕ × Index)
named_index_among kind t place [] = None
named_index_among kind t place (e ∷ es) = if is_on_column kind t place e.1 then Some e else named_index_among kind t place es

abbrev pub named_on : IndexKind → Names Index → List ℕ → ℕ → Option (List ℕ × Index)
named_on kind xs t place = named_index_among kind t place (entries xs)

-- that which a search needs, with its name
abbrev pub named_index : StoreState → List ℕ → List Column → Search → Option (List ℕ × Index)
named_index m t columns s = option_and_then (λ (place : ℕ). named_on (search_kind s) m.indexes t place) (column_place (search_column s) columns)

-- this is the name of the index that the search needs; or there is none
abbrev pub NeedsIndex : StoreState → List ℕ → List Column → Search → Option (List ℕ) → Type 0
NeedsIndex m t columns s (Some i) = (x : Index) × ((get m.indexes i ≡ Some x) × (index_of_search m t columns s ≡ Some x))
NeedsIndex m t columns s None = index_of_search m t columns s ≡ None

-- computed examples: where there are no columns, there is no such index
no_columns : (m : StoreState) (s : Search) → NeedsIndex m (codes "docs") [] s None
no_columns m s = refl

-- of two indexes on columns of `docs`, whatever their marks, the second with its name
abbrev at_column : ℕ → Rows (Mark (Unit {0})) → Index
at_column column marks = record { table = codes "docs"; column = column; prefs = default_prefs; body = inl (record { part = no_part; marks = marks }) }

with_its_name : (ms : Rows (Mark (Unit {0}))) → named_index_among Context (codes "docs") 2 ((codes "di", at_column 1 ms) ∷ (codes "dj", at_column 2 ms) ∷ []) ≡ Some (codes "dj", at_column 2 ms)
with_its_name ms = refl
