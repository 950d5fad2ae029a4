-- What is read of the entries of a rule index.
use Rattle.std.specs.Prelude.{ℕ, ◌≡◌, ◌<◌, ◌^◌, length, List, Option, Some, None, refl}
use Rattle.ct_base.specs.Names.{IsName}
use Rattle.tx_settings.specs.declared.preferences.Prefs.{Prefs}
use Rattle.tx_settings.specs.PrefsBytes.{IsPrefs}
use Rattle.q_tree.specs.ReducedQueries.{Reduced}
use Rattle.q_stored.specs.Storing.{SpellsQuery}
use Rattle.rule_index.specs.declared.entries.RulesEntry.{RulesEntry}
use Rattle.rule_index.specs.Spelling.{rules_bytes}

-- Where the bytes are the entry of a rule index, these are its table, its column and its preferences.
abbrev pub HasRulesParts : List ℕ → Option (List ℕ × ℕ × Prefs) → Type 0
HasRulesParts value parts = (table : List ℕ) (column : ℕ) (prefs : Prefs) → length table < 2 ^ 32 → IsPrefs prefs → value ≡ rules_bytes table column prefs → parts ≡ Some (table, column, prefs)

-- the entry is that of a rule index with these parts; or of none
abbrev pub IsEntryOf : Option (List ℕ) → Option RulesEntry → Type 0
IsEntryOf entry (Some e) = IsName e.target.table × (e.target.column < 256) × IsPrefs e.prefs × (entry ≡ Some (rules_bytes e.target.table e.target.column e.prefs))
IsEntryOf entry None = (table : List ℕ) (column : ℕ) (prefs : Prefs) → IsName table → column < 256 → IsPrefs prefs → entry ≡ Some (rules_bytes table column prefs) → ⊥

-- The query of the entry of a rule, where its bytes are those of one; None where there is no entry.
pub record HasQuery (entry : Option (List ℕ)) (found : Option Reduced) : Type 0 where
  pub spelt : (bytes : List ℕ) (q : Option Reduced) → entry ≡ Some bytes → SpellsQuery bytes q → found ≡ q
  pub none : entry ≡ None → found ≡ None

-- ---- computed example
no_entry : HasQuery None None
no_entry = record { spelt = λ bytes q is s. cc; none = λ is. refl }
