-- How much room a rule index takes: what its entries weigh, beside its own.
use Rattle.std.specs.Prelude.{ℕ, ℤ, pos, ◌+◌, ◌≡◌, sum_by, List, [], Some, codes, refl}
use Rattle.std.specs.FinMap.{entries}
use Rattle.ct_bytes.specs.RowKeys.{row_bytes}
use Rattle.ct_bytes.specs.Varints.{varint}
use Rattle.ct_entry.specs.declared.kinds.Kind.TheVariants as kind
use Rattle.ct_entry.specs.Keys.{key, row_part, anchor_part}
use Rattle.tb_table.specs.Room.{key_weight}
use Rattle.ix_docmap.specs.Marks.{Pending, Settled}
use Rattle.q_stored.specs.QueryBytes.{a_term}
use Rattle.q_stored.specs.Storing.{stored_bytes}
use Rattle.rule_index.specs.Outcomes.{Outcome, Taken, Faulty}
use Rattle.rule_index.specs.RuleIndexes.{RuleBody, RuleMark}
use Rattle.rule_index.specs.Spelling.{query_anchors}

-- the entry of a rule under a key
abbrev pub anchor_room : List ℕ → ℤ → List ℕ → ℕ
anchor_room i r a = key_weight (key kind.Anchors i (anchor_part a r)) []

-- a key that a query has twice counts twice here, and has one entry
abbrev pub outcome_room : List ℕ → ℤ → Outcome → ℕ
outcome_room i r (Taken q) = key_weight (key kind.Rules i (row_part r)) (stored_bytes q) + sum_by (anchor_room i r) (query_anchors q)
outcome_room i r (Faulty text) = key_weight (key kind.RuleFaults i (row_part r)) text

abbrev pub mark_room : List ℕ → ℤ × RuleMark → ℕ
mark_room i (r, Pending) = key_weight (key kind.Pending i (row_part r)) []
mark_room i (r, Settled outcome) = outcome_room i r outcome

-- THE ROOM of the rows of a rule index under its name
abbrev pub rules_room : List ℕ → RuleBody → ℕ
rules_room i b = sum_by (mark_room i) (entries b.marks)

-- ---- computed example: a rule of one key has two small entries
one_key : mark_room (codes "ri") (pos 7, Settled (Taken (Some a_term))) ≡ 128
unfolding row_bytes varint
one_key = refl
