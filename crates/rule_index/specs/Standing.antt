-- What it means that entries stand for a rule index, and the rules that it keeps.
use Rattle.std.specs.Prelude.{ℕ, ℤ, ◌≡◌, ◌≤◌, true, is_some, List, length, Option, Some, None, refl}
use Rattle.std.specs.FinMap.{get}
use Rattle.ct_base.specs.Limits.{token_limit}
use Rattle.ct_entry.specs.declared.kinds.Kind.TheVariants as kind
use Rattle.ct_entry.specs.Keys.{Key, key, row_part, anchor_part, IsRow}
use Rattle.tb_table.specs.Tables.{Table}
use Rattle.ix_docmap.specs.Marks.{Pending, Settled}
use Rattle.q_stored.specs.Storing.{is_stored}
use Rattle.rule_index.specs.Outcomes.{Outcome, Taken, Faulty, is_stored_fault}
use Rattle.rule_index.specs.RuleIndexes.{RuleIndex, RuleMark, mark_of}
use Rattle.rule_index.specs.Spelling.{query_value, fault_value, queue_value, anchor_value}

-- The entries of the kinds Rules, Anchors and RuleFaults of this name are those of these marks.
pub record RulesStand (f : Key → Option (List ℕ)) (i : List ℕ) (mark : ℤ → Option RuleMark) : Type 0 where
  pub queries : (r : ℤ) → IsRow r → f (key kind.Rules i (row_part r)) ≡ query_value (mark r)
  pub anchors : (a : List ℕ) (r : ℤ) → length a ≤ token_limit → IsRow r → f (key kind.Anchors i (anchor_part a r)) ≡ anchor_value (mark r) a
  pub faults : (r : ℤ) → IsRow r → f (key kind.RuleFaults i (row_part r)) ≡ fault_value (mark r)

-- Those of the kind Pending are the rows that wait.
pub record QueueStands (f : Key → Option (List ℕ)) (i : List ℕ) (mark : ℤ → Option RuleMark) : Type 0 where
  pub queue : (r : ℤ) → IsRow r → f (key kind.Pending i (row_part r)) ≡ queue_value (mark r)

-- THE ENTRIES OF THIS NAME STAND FOR THE MARKS of the rows.
pub record MarksStand (f : Key → Option (List ℕ)) (i : List ℕ) (mark : ℤ → Option RuleMark) : Type 0 where
  pub rules : RulesStand f i mark
  pub waits : QueueStands f i mark

-- ---- the rules of rule indexes

-- a query that is kept may be stored, and so may the text of a fault
abbrev pub IsOutcome : Outcome → Type 0
IsOutcome (Taken q) = is_stored q ≡ true
IsOutcome (Faulty text) = is_stored_fault text ≡ true

abbrev pub IsRuleMark : RuleMark → Type 0
IsRuleMark Pending = Unit {0}
IsRuleMark (Settled outcome) = IsOutcome outcome

-- Each row of the table has a mark, and there is no other; and each mark keeps its rule.
pub record AreRules (t : Table) (x : RuleIndex) : Type 0 where
  pub marks : (r : ℤ) → is_some (mark_of x r) ≡ is_some (get t.rows r)
  pub each : (r : ℤ) (m : RuleMark) → mark_of x r ≡ Some m → IsRuleMark m

-- ---- computed examples: no row, no entry

of_no_row : (i : List ℕ) → MarksStand (λ k. None) i (λ r. None)
of_no_row i = record { rules = record { queries = λ r row. refl; anchors = λ a r short row. refl; faults = λ r row. refl }; waits = record { queue = λ r row. refl } }

finds_nothing : IsOutcome (Taken None)
finds_nothing = refl
