-- What calls promise of the tables and of the rule index of a name that a keeper's content spells, by the view of the keeper.
use Rattle.std.specs.Prelude.{ℕ, ℤ, ◌≡◌, List, [], Option, Some, None, Result, IfOk, map, codes, refl}
use Rattle.std.proofs.Common.{sym, ◌∙◌}
use Rattle.ct_base.specs.declared.numbers.RowKey.{RowKey}
use Rattle.ct_keep.specs.Content.{Content}
use Rattle.ct_keep.specs.KeeperViews.{KeeperView}
use Rattle.ct_entry.specs.declared.kinds.Kind.TheVariants as kind
use Rattle.ct_entry.specs.Keys.{Key, key, at, HasKeysOnly}
use Rattle.tb_table.specs.declared.columns.Target.{Target}
use Rattle.tb_table.specs.Tables.{Table, Tables}
use Rattle.tb_table.specs.Spelling.{TablesStand}
use Rattle.tb_table.specs.Rules.{AreTables}
use Rattle.tx_settings.specs.declared.preferences.Prefs.{Prefs}
use Rattle.tx_settings.specs.PrefsBytes.{IsPrefs}
use Rattle.ix_kinds.specs.Rows.{table_at}
use Rattle.ix_kinds.specs.Targets.{IsTarget}
use Rattle.rule_index.specs.Outcomes.{NamedThesauri, Outcome}
use Rattle.rule_index.specs.RuleIndexes.{RuleIndex, mark_of, row_outcome}
use Rattle.rule_index.specs.Spelling.{rules_entry}
use Rattle.rule_index.specs.Standing.{AreRules, MarksStand}
use Rattle.rule_index.specs.Changes.{Adds, come_changes, outcome_changes, settle_changes, settle_each_changes}

-- The content spells the tables, and these keep their rules.
pub record HoldsTables (m : Content) (ts : Tables) : Type 0 where
  pub stand : TablesStand (at m) ts
  pub rules : AreTables ts
  pub only : HasKeysOnly m

-- It spells the tables, and the rule index of this name over its table, which keeps its rules. What other names have doesn't matter.
pub record HoldsRules (m : Content) (ts : Tables) (i : List ℕ) (x : RuleIndex) : Type 0 where
  pub tables : HoldsTables m ts
  pub entry : at m (key kind.Indexes i []) ≡ Some (rules_entry x)
  pub stands : MarksStand (at m) i (mark_of x)
  pub target : IsTarget ts x.table x.column
  pub prefs : IsPrefs x.prefs
  pub rules : AreRules (table_at ts x.table) x

-- what holds of the tables that the content spells, where that is told
abbrev pub ToldTables : {K : Type 0} → (K → KeeperView) → K → (Tables → Type 0) → Type 0
ToldTables view k holds = (m : Content) (ts : Tables) → (view k).content ≡ Some m → HoldsTables m ts → holds ts

-- what holds of a content that spells a rule index of this name, of its table and of the index, where that is told
abbrev pub ToldRules : {K : Type 0} → (K → KeeperView) → K → List ℕ → (Content → Table → RuleIndex → Type 0) → Type 0
ToldRules view k i holds = (m : Content) (ts : Tables) (x : RuleIndex) → (view k).content ≡ Some m → HoldsRules m ts i x → holds m (table_at ts x.table) x

-- Unless a call failed, the batch has more the changes that the tables tell, or the index with its content.
abbrev pub AddsBy : {K T E : Type 0} → (K → KeeperView) → K → List (List ℕ × Option (List ℕ)) → List (List ℕ × Option (List ℕ)) → Result T E → (Tables → List (Key × Option (List ℕ))) → Type 0
AddsBy view k old new result changes = ToldTables view k (λ ts. Adds old new result (changes ts))

abbrev pub AddsFor : {K T E : Type 0} → (K → KeeperView) → K → List ℕ → List (List ℕ × Option (List ℕ)) → List (List ℕ × Option (List ℕ)) → Result T E → (Content → Table → RuleIndex → List (Key × Option (List ℕ))) → Type 0
AddsFor view k i old new result changes = ToldRules view k i (λ m t x. Adds old new result (changes m t x))

-- What a call gave of the index, unless it failed.
abbrev pub SeesRules : {K T E : Type 0} → (K → KeeperView) → K → List ℕ → Result T E → (RuleIndex → T → Type 0) → Type 0
SeesRules view old i result gives = ToldRules view old i (λ m t x. IfOk result (gives x))

-- ---- what is added for rows

-- what becomes of the rule of a row, in an index on this target
abbrev pub outcome_in : NamedThesauri → Tables → Target → Prefs → ℤ → Outcome
outcome_in thesauri ts target p r = row_outcome thesauri (table_at ts target.table) target.column p r

abbrev pub row_comes : List ℕ → NamedThesauri → Target → Prefs → ℤ → Tables → List (Key × Option (List ℕ))
row_comes i thesauri target p r ts = outcome_changes i r (outcome_in thesauri ts target p r)

abbrev pub row_settles : List ℕ → NamedThesauri → Target → Prefs → ℤ → Tables → List (Key × Option (List ℕ))
row_settles i thesauri target p r ts = settle_changes i (outcome_in thesauri ts target p) r

abbrev pub rows_come : List ℕ → NamedThesauri → Target → Prefs → List RowKey → Tables → List (Key × Option (List ℕ))
rows_come i thesauri target p rows ts = come_changes i (outcome_in thesauri ts target p) (map (λ r. r.0) rows)

abbrev pub rows_settle : List ℕ → NamedThesauri → Target → Prefs → List RowKey → Tables → List (Key × Option (List ℕ))
rows_settle i thesauri target p rows ts = settle_each_changes i (outcome_in thesauri ts target p) (map (λ r. r.0) rows)

-- computed example: nothing is added where no row comes
no_row_comes : (thesauri : NamedThesauri) (ts : Tables) (target : Target) (p : Prefs) → rows_come (codes "ri") thesauri target p [] ts ≡ []
no_row_comes thesauri ts target p = refl

-- where no content is told, nothing is said of its rules
nothing_is_told : {K : Type 0} (view : K → KeeperView) (k : K) (i : List ℕ) → (view k).content ≡ None → ToldRules view k i (λ m t x. ⊥)
nothing_is_told view k i untold m ts x told holds = let wrong : None ≡ Some m = sym untold ∙ told in cc
