-- Steps of synchronising, and of making a new index.
use Rattle.std.proofs.Common.{◌≡◌, ℕ, ℤ, List, ◌∷◌, ◌++◌, [], map, Option, Some, None, ap, sym, ◌∙◌}
use Rattle.ct_base.specs.declared.numbers.RowKey.{RowKey}
use Rattle.ct_entry.specs.Changes.{spell}
use Rattle.tb_table.specs.declared.columns.Target.{Target}
use Rattle.tb_table.specs.Tables.{Tables}
use Rattle.tx_settings.specs.declared.preferences.Prefs.{Prefs}
use Rattle.ix_kinds.specs.Rows.{row_keys_of, table_at}
use Rattle.rule_index.specs.declared.entries.RulesEntry.{RulesEntry}
use Rattle.rule_index.specs.Outcomes.{NamedThesauri}
use Rattle.rule_index.specs.RuleIndexes.{RuleIndex, waiting}
use Rattle.rule_index.specs.Changes.{come_changes, entry_change, settle_each_changes}
use Rattle.rule_index.specs.Kind.{create_changes, sync_changes}
use Rattle.rule_index.specs.Sees.{outcome_in, rows_come, rows_settle}
use Rattle.rule_index.specs.laws.Reading.{entry_of}
use Rattle.rule_index.proofs.AddSteps.{Changes, added_behind}

-- what wasn't read, against what was to be read
pub none_not : {X : Type 0} (o : Option X) (e : X) → o ≡ None → o ≡ Some e → ⊥
none_not o e none is = let wrong : None ≡ Some e = sym none ∙ is in cc

-- the rows that wait were settled, by what the entry of the index says
pub settled_so : (ts : Tables) (i : List ℕ) (x : RuleIndex) (thesauri : NamedThesauri) (e : RulesEntry) (rows : List RowKey) (none all : Changes) → e ≡ entry_of x → map (λ (r : RowKey). r.0) rows ≡ waiting x.body
    → all ≡ none ++ spell (rows_settle i thesauri e.target e.prefs rows ts) → all ≡ none ++ spell (sync_changes thesauri (table_at ts x.table) i x)
settled_so ts i x thesauri e rows none all same are is =
    is
    ∙ ap (λ (n : RulesEntry). none ++ spell (rows_settle i thesauri n.target n.prefs rows ts)) same
    ∙ ap (λ (rs : List ℤ). none ++ spell (settle_each_changes i (outcome_in thesauri ts (entry_of x).target x.prefs) rs)) are

-- the rows of a new index were settled behind its entry
pub created_so : (ts : Tables) (i : List ℕ) (target : Target) (p : Prefs) (thesauri : NamedThesauri) (rows : List RowKey) (none entry all : Changes) → map (λ (r : RowKey). r.0) rows ≡ row_keys_of (table_at ts target.table)
    → entry ≡ none ++ spell (entry_change i target.table target.column p ∷ []) → all ≡ entry ++ spell (rows_come i thesauri target p rows ts)
    → all ≡ none ++ spell (create_changes thesauri (table_at ts target.table) i target p)
created_so ts i target p thesauri rows none entry all are put is =
    added_behind (entry_change i target.table target.column p ∷ []) (come_changes i (outcome_in thesauri ts target p) (row_keys_of (table_at ts target.table))) none entry all put
    (is ∙ ap (λ (rs : List ℤ). entry ++ spell (come_changes i (outcome_in thesauri ts target p) rs)) are)
