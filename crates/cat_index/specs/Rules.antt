-- The rules that a catalogue keeps over its table.
use Rattle.std.specs.Prelude.{ℕ, ◌≡◌, ◌≤◌, true, List, [], ◌∷◌, Option, Some, None, codes, refl}
use Rattle.std.specs.Bool.{if◌then◌else◌}
use Rattle.std.specs.List.{list_all}
use Rattle.std.proofs.Common.{arith}
use Rattle.ct_base.specs.Names.{is_kept}
use Rattle.ct_entry.specs.Keys.{same_list}
use Rattle.ct_entry.specs.Lists.{EachIs}
use Rattle.tb_table.specs.declared.columns.Sort.{Sort}
use Rattle.tb_table.specs.declared.columns.Sort.TheVariants.{Number, Varchar2, Clob}
use Rattle.tb_table.specs.declared.columns.Column.{Column}
use Rattle.tb_table.specs.Tables.{Table, docs_columns, docs_table}
use Rattle.tx_tags.specs.Groups.{no_sections}
use Rattle.tx_settings.specs.declared.preferences.Prefs.{Prefs}
use Rattle.tx_sets.specs.Sets.{are_sub_indexes}
use Rattle.ix_kinds.specs.Indextypes.{IndexOf}
use Rattle.cat_index.specs.Filings.{sub_text_limit}
use Rattle.cat_index.specs.Catalogues.{CatalogueBody, places_in, docs_catalogue}

-- the column with this name
abbrev pub column_named : List Column → List ℕ → Option Column
column_named [] name = None
column_named (c ∷ cs) name = if same_list name c.name then Some c else column_named cs name

-- a column that a sub-index may have: one of numbers, or of texts of at most 100 bytes
abbrev pub IsSubSort : Sort → Type 0
IsSubSort Number = Unit {0}
IsSubSort (Varchar2 size) = size ≤ sub_text_limit
IsSubSort Clob = ⊥

abbrev pub IsSubColumn : Option Column → Type 0
IsSubColumn None = ⊥
IsSubColumn (Some c) = IsSubSort c.sort

-- Sub-indexes within the limits, with columns of a table that they may have.
pub record AreSubIndexes (cs : List Column) (names : List (List (List ℕ))) : Type 0 where
  pub few : are_sub_indexes names ≡ true
  pub named : list_all (list_all is_kept) names ≡ true
  pub columns : EachIs (EachIs (λ name. IsSubColumn (column_named cs name))) names

-- What CREATE INDEX may ask for: such sub-indexes, and preferences without sections.
pub record IsAskedFor (t : Table) (prefs : Prefs) (names : List (List (List ℕ))) : Type 0 where
  pub subs : AreSubIndexes t.columns names
  pub group : prefs.group ≡ no_sections

-- These are the sub-indexes of a catalogue, by the names of the columns and by their places; and it knows no sections.
pub record IsCatalogue (t : Table) (x : IndexOf CatalogueBody) : Type 0 where
  pub asked : IsAskedFor t x.prefs x.body.names
  pub places : x.body.places ≡ places_in t.columns x.body.names

-- computed examples: of the columns `id`, `body` and `price` of the table `docs` the first and the last may be in a sub-index
of_docs : IsCatalogue docs_table docs_catalogue
of_docs = record { asked = record { subs = record { few = refl; named = refl; columns = ((tt, tt), ((tt, (tt, tt)), tt)) }; group = refl }; places = refl }

no_clob : IsSubColumn (column_named docs_columns (codes "body")) → ⊥
no_clob is = is

no_such_column : IsSubColumn (column_named docs_columns (codes "kind")) → ⊥
no_such_column is = is

no_long_texts : IsSubColumn (Some (record { name = codes "kind"; sort = Varchar2 101 })) → ⊥
no_long_texts is = omega (arith, is)
