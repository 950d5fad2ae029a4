-- Rule indexes, and what statements make of them.
use Rattle.std.specs.Prelude.{ℕ, ℤ, pos, ◌≡◌, List, [], ◌∷◌, map, Option, Some, None, codes, refl}
use Rattle.std.specs.Option.{option_and_then}
use Rattle.std.specs.Ordering.{int_cmp}
use Rattle.std.specs.FinMap.{get, insert, remove, entries, from_entries, from_sorted, entries-from_sorted, get-from_sorted}
use Rattle.std.specs.List.{filter_map}
use Rattle.std.proofs.Common.{ap}
use Rattle.ct_base.specs.declared.lists.Value.{Value}
use Rattle.ct_entry.specs.Listings.{keys_where}
use Rattle.ct_entry.specs.Maps.{Rows, each_at}
use Rattle.tb_table.specs.Tables.{Table, text_in_column, docs_table, docs_rows}
use Rattle.tx_settings.specs.declared.preferences.Prefs.{Prefs}
use Rattle.ix_kinds.specs.Indextypes.{IndexOf}
use Rattle.ix_docmap.specs.Marks.{Mark, Pending, Settled}
use Rattle.rule_index.specs.Outcomes.{Outcome, Taken, Faulty, NamedThesauri, outcome_seen}

-- what a row of a rule index has: it waits, or is settled with what became of its rule
abbrev pub RuleMark : Type 0
RuleMark = Mark Outcome

-- What a rule index has: a mark for each row of its table.
pub record RuleBody : Type 0 where
  pub marks : Rows RuleMark

abbrev pub RuleIndex : Type 0
RuleIndex = IndexOf RuleBody

abbrev pub mark_of : RuleIndex → ℤ → Option RuleMark
mark_of x r = get x.body.marks r

-- the text of a row of a table in a column
abbrev pub rule_text : Table → ℕ → ℤ → Option (List ℕ)
rule_text t column r = option_and_then (λ vs. text_in_column vs column) (get t.rows r)

-- what becomes of a row's rule in an index on this column with these preferences
abbrev pub row_outcome : NamedThesauri → Table → ℕ → Prefs → ℤ → Outcome
row_outcome thesauri t column p r = outcome_seen thesauri p (rule_text t column r)

-- ---- what statements make of an index

-- A new row waits; one of which the column is set waits again, and what became of its rule is lost; one that goes has no mark.
abbrev pub rules_after : ℤ → Option (List Value) → Option (List Value) → RuleBody → RuleBody
rules_after r None None b = b
rules_after r None (Some new) b = record { marks = insert b.marks r Pending }
rules_after r (Some old) (Some new) b = record { marks = insert b.marks r Pending }
rules_after r (Some old) None b = record { marks = remove b.marks r }

-- a row that waits is settled, and each other one stays
abbrev pub settled : (ℤ → Outcome) → ℤ → RuleMark → RuleMark
settled outcome r Pending = Settled (outcome r)
settled outcome r (Settled o) = Settled o

-- A SYNCHRONISATION settles each row that waits. So a faulty rule isn't tried again until its row waits again.
abbrev pub all_settled : (ℤ → Outcome) → RuleBody → RuleBody
all_settled outcome b = record { marks = each_at (settled outcome) b.marks }

-- a new index settles each of these rows
abbrev pub new_rules : (ℤ → Outcome) → List ℤ → RuleBody
new_rules outcome rows = record { marks = from_entries (map (λ r. (r, Settled (outcome r))) rows) }

-- ---- what is read of one

abbrev pub if_waiting : RuleMark → Option (List ℕ)
if_waiting Pending = Some []
if_waiting (Settled o) = None

-- the rows that wait, in order
abbrev pub waiting : RuleBody → List ℤ
waiting b = keys_where if_waiting (entries b.marks)

abbrev pub fault_of_mark : RuleMark → Option (List ℕ)
fault_of_mark Pending = None
fault_of_mark (Settled (Taken q)) = None
fault_of_mark (Settled (Faulty text)) = Some text

abbrev pub with_fault : ℤ → Option (List ℕ) → Option (ℤ × List ℕ)
with_fault r None = None
with_fault r (Some text) = Some (r, text)

-- THE FAULTY RULES, in order of their keys, each with the text of its fault
abbrev pub faulty : RuleBody → List (ℤ × List ℕ)
faulty b = filter_map (λ e. with_fault e.0 (fault_of_mark e.1)) (entries b.marks)

-- ---- computed examples: the row 1 finds nothing, the row 2 is faulty, and the row 3 waits

abbrev pub three_marks : List (ℤ × RuleMark)
three_marks = (pos 1, Settled (Taken None)) ∷ (pos 2, Settled (Faulty (codes "E20: query syntax at 3"))) ∷ (pos 3, Pending) ∷ []

abbrev pub three_rules : RuleBody
three_rules = record { marks = from_sorted three_marks }

one_waits : waiting three_rules ≡ pos 3 ∷ []
one_waits = ap (λ (es : List (ℤ × RuleMark)). keys_where if_waiting es) (entries-from_sorted int_cmp three_marks tt)

one_is_faulty : faulty three_rules ≡ (pos 2, codes "E20: query syntax at 3") ∷ []
one_is_faulty = ap (λ (es : List (ℤ × RuleMark)). filter_map (λ e. with_fault e.0 (fault_of_mark e.1)) es) (entries-from_sorted int_cmp three_marks tt)

-- a faulty rule isn't tried again
stays_faulty : (outcome : ℤ → Outcome) (text : List ℕ) → settled outcome (pos 2) (Settled (Faulty text)) ≡ Settled (Faulty text)
stays_faulty outcome text = refl

-- the rule of a row is its text in the column
its_text : rule_text docs_table 1 (pos 2) ≡ Some (codes "slow")
its_text = ap (λ (o : Option (List Value)). option_and_then (λ vs. text_in_column vs 1) o) (get-from_sorted int_cmp docs_rows (pos 2) tt)
