-- A content that stands for tables, and for a CONTEXT index on one of them.
use Rattle.std.specs.Prelude.{ℕ, ◌≡◌, List, [], ◌∷◌, ◌++◌, Option, Some, codes, refl}
use Rattle.std.specs.Option.{option_map}
use Rattle.std.specs.FinMap.{get}
use Rattle.std.proofs.Common.{ap, ◌∙◌}
use Rattle.ct_bytes.specs.Varints.{varint}
use Rattle.ct_keep.specs.Content.{Content}
use Rattle.ct_entry.specs.declared.kinds.Kind.TheVariants as kind
use Rattle.ct_entry.specs.Keys.{Key, key, at, HasKeysOnly}
use Rattle.tb_table.specs.declared.columns.Target.{Target}
use Rattle.tb_table.specs.Tables.{Table, Tables, docs_columns, docs_table}
use Rattle.tb_table.specs.Spelling.{columns_bytes, TablesStand}
use Rattle.tb_table.specs.Rules.{AreTables}
use Rattle.tx_settings.specs.PrefsBytes.{IsPrefs}
use Rattle.ix_kinds.specs.Rows.{table_at}
use Rattle.ix_kinds.specs.Targets.{IsTarget}
use Rattle.ix_kinds.specs.Indextypes.{IndexOf}
use Rattle.ix_context.specs.Indexes.{ContextIndex}
use Rattle.ix_context.specs.Places.{IsPlace}
use Rattle.ix_context.specs.Contexts.{IsContext, context_entry, context_stands}

-- the table and the column of an index
abbrev pub target_of : IndexOf ContextIndex → Target
target_of x = record { table = x.table; column = x.column }

-- The content spells the tables, which keep their rules.
pub record HoldsTables (m : Content) (ts : Tables) : Type 0 where
  pub only : HasKeysOnly m
  pub stand : TablesStand (at m) ts
  pub rules : AreTables ts

-- It has the entry of the index under this name, with some place at its end where an optimisation goes on.
pub record HasContextEntry (f : Key → Option (List ℕ)) (i : List ℕ) (x : IndexOf ContextIndex) : Type 0 where
  pub place : List ℕ
  pub resumes : IsPlace place
  pub whole : f (key kind.Indexes i []) ≡ Some (context_entry x place)

-- It spells the tables, and the CONTEXT index of this name over its table, which keeps its rules. What other names have doesn't matter.
pub record HoldsContext (m : Content) (ts : Tables) (i : List ℕ) (x : IndexOf ContextIndex) : Type 0 where
  pub tables : HoldsTables m ts
  pub entry : HasContextEntry (at m) i x
  pub stands : context_stands (at m) i x (table_at ts x.table)
  pub target : IsTarget ts x.table x.column
  pub prefs : IsPrefs x.prefs
  pub rules : IsContext (table_at ts x.table) x

-- computed examples: the columns of the table `docs` as bytes, and what a content that holds the table has under its key
abbrev its_bytes : List ℕ
its_bytes = 3 ∷ (2 ∷ codes "id" ++ 1 ∷ 0 ∷ 0 ∷ []) ++ (4 ∷ codes "body" ++ 3 ∷ 0 ∷ 0 ∷ []) ++ (5 ∷ codes "price" ++ 1 ∷ 0 ∷ 0 ∷ [])

its_columns : columns_bytes docs_columns ≡ its_bytes
unfolding varint
its_columns = refl

its_entry : (m : Content) (ts : Tables) → HoldsTables m ts → get ts (codes "docs") ≡ Some docs_table → get m (0x01 ∷ 4 ∷ codes "docs") ≡ Some its_bytes
its_entry m ts holds there = holds.stand.tables (codes "docs") ∙ ap (option_map (λ (x : Table). columns_bytes x.columns)) there ∙ ap Some its_columns
