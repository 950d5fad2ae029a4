-- The indexes on a table, by the heads of their entries.
use Rattle.std.specs.Prelude.{ℕ, ◌≡◌, List, [], ◌∷◌, Option, Some, None, codes, refl}
use Rattle.std.specs.FinMap.{get}
use Rattle.ct_entry.specs.Lists.{EachIs}
use Rattle.ct_entry.specs.Maps.{Names}
use Rattle.tb_table.specs.declared.columns.Column.{Column}
use Rattle.tb_table.specs.Tables.{Tables}
use Rattle.tx_settings.specs.Defaults.{default_prefs}
use Rattle.db_names.specs.declared.heads.IndexHead.{IndexHead}
use Rattle.ix_kinds.specs.Rows.{table_at}
use Rattle.ix_kinds.specs.Statements.{heads}
use Rattle.cat_index.specs.Catalogues.{docs_catalogue}
use Rattle.rule_index.specs.RuleIndexes.{three_rules}
use Rattle.ix_indexes.specs.declared.loading.TableIndex.{TableIndex}
use Rattle.ix_indexes.specs.Indexes.{Index, kinds, as_catalogue, as_rules}
use Rattle.ix_indexes.specs.Noting.{Noted, InCatalogue, InRules, noted_at, noted_index}

-- The index of this name has this head, on a table with these columns.
pub record IsHeadOf (ts : Tables) (xs : Names Index) (cs : List Column) (e : List ℕ × IndexHead) : Type 0 where
  pub head : get (heads kinds xs) e.0 ≡ Some e.1
  pub columns : cs ≡ (table_at ts e.1.target.table).columns

abbrev pub AreHeadsOf : Tables → Names Index → List Column → List (List ℕ × IndexHead) → Type 0
AreHeadsOf ts xs columns es = EachIs (IsHeadOf ts xs columns) es

-- an index as code holds it, if there is one
abbrev pub noted_or_none : Option TableIndex → List (List ℕ × Noted)
noted_or_none None = []
noted_or_none (Some x) = noted_index x ∷ []

-- computed examples: a catalogue and a rule index with their names, and none
its_catalogue : noted_at (codes "ci") (Some (as_catalogue docs_catalogue)) ≡ (codes "ci", InCatalogue docs_catalogue) ∷ []
its_catalogue = refl

its_rules : noted_at (codes "ri") (Some (as_rules (record { table = codes "rules"; column = 1; prefs = default_prefs; body = three_rules }))) ≡ (codes "ri", InRules 1) ∷ []
its_rules = refl

no_index : noted_at (codes "ci") None ≡ noted_or_none None
no_index = refl
