-- A content that stands for a state, as the calls on a CONTEXT index and on a rule index want it.
use Rattle.std.proofs.Common.{◌≡◌, ℕ, List, Some}
use Rattle.std.specs.FinMap.{get}
use Rattle.ct_keep.specs.Content.{Content}
use Rattle.ix_context.specs.Contents.{HoldsTables, HoldsContext}
use Rattle.ix_kinds.specs.Indextypes.{IndexOf}
use Rattle.ix_context.specs.Indexes.{ContextIndex}
use Rattle.rule_index.specs.RuleIndexes.{RuleIndex}
use Rattle.rule_index.specs.Sees.{HoldsRules, HoldsTables as HoldsRuleTables}
use Rattle.ix_indexes.specs.Indexes.{as_index, as_rules}
use Rattle.ix_indexes.specs.laws.Indexes.{holds_context, holds_rules}
use Rattle.db_state.specs.States.{StoreState, StandsForState}

pub holds_tables : (c : Content) (m : StoreState) → StandsForState c m → HoldsTables c m.tables
holds_tables c m stands = record { only = stands.only; stand = stands.tables; rules = stands.state.tables }

pub holds_index : (c : Content) (m : StoreState) → StandsForState c m → (i : List ℕ) (x : IndexOf ContextIndex) → get m.indexes i ≡ Some (as_index x) → HoldsContext c m.tables i x
holds_index c m stands i x is = holds_context c m.tables m.indexes (holds_tables c m stands) stands.indexes stands.state.indexes i x is

pub holds_rule_tables : (c : Content) (m : StoreState) → StandsForState c m → HoldsRuleTables c m.tables
holds_rule_tables c m stands = record { stand = stands.tables; rules = stands.state.tables; only = stands.only }

pub holds_rule_index : (c : Content) (m : StoreState) → StandsForState c m → (i : List ℕ) (x : RuleIndex) → get m.indexes i ≡ Some (as_rules x) → HoldsRules c m.tables i x
holds_rule_index c m stands i x is = holds_rules c m.tables m.indexes (holds_tables c m stands) stands.indexes stands.state.indexes i x is
