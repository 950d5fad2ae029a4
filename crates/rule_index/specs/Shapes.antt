-- Which entries of rule indexes are well shaped, each by itself.
use Rattle.std.specs.Prelude.{ℕ, ◌≡◌, ◌<◌, true, List, [], ◌∷◌, ◌++◌, length, Option, Some, None, Result, OnOk, pos, codes, refl}
use Rattle.std.specs.Str.{is_utf8}
use Rattle.ct_base.specs.Names.{IsName}
use Rattle.ct_entry.specs.declared.kinds.Kind.{Kind}
use Rattle.ct_entry.specs.declared.kinds.Kind.TheVariants as kind
use Rattle.ct_entry.specs.Keys.{Key, key, anchor_part, IsPart}
use Rattle.ct_entry.specs.Shapes.{AreShaped}
use Rattle.tx_settings.specs.declared.preferences.Prefs.{Prefs}
use Rattle.tx_settings.specs.PrefsBytes.{IsPrefs}
use Rattle.q_tree.specs.ReducedQueries.{Reduced}
use Rattle.q_stored.specs.Storing.{SpellsQuery}
use Rattle.rule_index.specs.Spelling.{rules_bytes}

-- the entry of a rule index on a column of some table, with any preferences, whether or not there is such a table
pub record IsRulesEntry (value : List ℕ) : Type 0 where
  pub table : List ℕ
  pub column : ℕ
  pub prefs : Prefs
  pub named : IsName table
  pub place : column < 256
  pub are : IsPrefs prefs
  pub spelt : value ≡ rules_bytes table column prefs

-- the value that a key of a kind of rule indexes has
abbrev pub RuleValueAt : Kind → List ℕ → Type 0
RuleValueAt kind.Indexes value = IsRulesEntry value
RuleValueAt kind.Pending value = value ≡ []
RuleValueAt kind.Rules value = (q : Option Reduced) × SpellsQuery value q
RuleValueAt kind.Anchors value = value ≡ []
RuleValueAt kind.RuleFaults value = is_utf8 value ≡ true
RuleValueAt k value = ⊥

-- the rule by which entries of rule indexes are well shaped
abbrev pub HasRuleValue : Key → List ℕ → Type 0
HasRuleValue k value = RuleValueAt k.kind value

-- the rest of a key of this kind, and a value that it may have
abbrev pub IsRuleShape : Kind → List ℕ → List ℕ → Type 0
IsRuleShape k part value = IsPart k part × RuleValueAt k value

-- The rest of a key begins with an anchor, after its length, and this stands behind it; or it doesn't begin so.
abbrev pub BeginsWithAnchor : List ℕ → Option (List ℕ × List ℕ) → Type 0
BeginsWithAnchor part (Some x) = part ≡ length x.0 ∷ (x.0 ++ x.1)
BeginsWithAnchor part None = (anchor rest : List ℕ) → part ≡ length anchor ∷ (anchor ++ rest) → ⊥

-- Unless the call failed, a batch of well shaped entries of rule indexes is one still.
abbrev pub KeepsShape : {T E : Type 0} → List (List ℕ × Option (List ℕ)) → List (List ℕ × Option (List ℕ)) → Result T E → Type 0
KeepsShape old new result = OnOk result (AreShaped HasRuleValue old → AreShaped HasRuleValue new)

-- ---- computed examples: an anchor has nothing but its key, and no posting is an entry of a rule index
an_anchor : HasRuleValue (key kind.Anchors (codes "ri") (anchor_part (codes "a") (pos 7))) []
an_anchor = refl

no_posting : (value : List ℕ) → HasRuleValue (key kind.Postings (codes "ri") []) value → ⊥
no_posting value is = is

anchor_and_rest : BeginsWithAnchor (3 ∷ codes "redhat") (Some (codes "red", codes "hat"))
anchor_and_rest = refl

finds_nothing : RuleValueAt kind.Rules (0 ∷ [])
finds_nothing = (None, record { rules = refl; spelt = refl })
