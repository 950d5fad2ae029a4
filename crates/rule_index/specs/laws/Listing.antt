-- What a scan lists of a rule index: its faulty rules.
use Rattle.std.specs.Prelude.{ℕ, ℤ, ◌≡◌, nat_le, Bool, List, [], ◌∷◌, length, Option, Some, None, is_some, refl}
use Rattle.std.specs.Bool.{if◌then◌else◌}
use Rattle.std.specs.List.{filter_map, cons_option}
use Rattle.std.specs.Option.{option_and_then, option_map}
use Rattle.std.specs.Ordering.{int_cmp}
use Rattle.std.specs.Str.{is_utf8}
use Rattle.std.specs.FinMap.{entries}
use Rattle.std.proofs.Common.{ap, ◌∙◌, append-nil, inl, inr}
use Rattle.std.proofs.lemmas.Bool.{and_parts}
use Rattle.std.proofs.lemmas.Cmp.{int_cmp_total}
use Rattle.ct_keep.specs.Content.{Content}
use Rattle.ct_keep.specs.Tail.{tail}
use Rattle.ct_entry.specs.declared.kinds.Kind.TheVariants as kind
use Rattle.ct_entry.specs.Keys.{IsRow, prefix_of, row_part}
use Rattle.ct_entry.specs.Lists.{IsIn}
use Rattle.ct_entry.specs.Listings.{entries_where}
use Rattle.ct_entry.specs.laws.Listings.{family_listed}
use Rattle.ct_entry.specs.laws.MapEntries.{in_get}
use Rattle.ct_entry.specs.laws.Rows.{row_of-row_part, row_spells}
use Rattle.tb_table.specs.Tables.{Tables}
use Rattle.ix_kinds.specs.Rows.{table_at}
use Rattle.ix_kinds.specs.laws.Tables.{table_is}
use Rattle.q_stored.specs.Storing.{byte_limit}
use Rattle.ix_docmap.specs.Marks.{Pending, Settled}
use Rattle.rule_index.specs.Outcomes.{Taken, Faulty}
use Rattle.rule_index.specs.RuleIndexes.{RuleIndex, RuleMark, fault_of_mark, faulty, mark_of, with_fault}
use Rattle.rule_index.specs.Spelling.{fault_value}
use Rattle.rule_index.specs.Standing.{IsRuleMark}
use Rattle.rule_index.specs.Sees.{HoldsRules}
use Rattle.rule_index.specs.Listed.{errors_of, errors_under, text_in}
use Rattle.rule_index.specs.laws.Kind.{mark_is_row}

abbrev faults_in : List (ℤ × RuleMark) → List (ℤ × List ℕ)
faults_in es = filter_map (λ (e : ℤ × RuleMark). with_fault e.0 (fault_of_mark e.1)) es

abbrev IsGood : ℤ × RuleMark → Type 0
IsGood e = IsRow e.0 × IsRuleMark e.1

errors_each : (es : List (ℤ × RuleMark)) → ((e : ℤ × RuleMark) → IsIn e es → IsGood e) → errors_of (entries_where row_part fault_of_mark es) ≡ faults_in es
errors_each [] good = refl
errors_each ((r, k) ∷ es) good = go k (good (r, k) (inl refl)) (errors_each es (λ e is. good e (inr is)))
  where
    go : (k : RuleMark) → IsGood (r, k) → errors_of (entries_where row_part fault_of_mark es) ≡ faults_in es → errors_of (entries_where row_part fault_of_mark ((r, k) ∷ es)) ≡ faults_in ((r, k) ∷ es)
    go Pending is rest = rest
    go (Settled (Taken q)) is rest = rest
    go (Settled (Faulty text)) is rest =
        ap (λ (o : Option ℤ). cons_option (option_and_then (λ s. option_map (λ t. (s, t)) (text_in text)) o) (errors_of (entries_where row_part fault_of_mark es))) (row_of-row_part r is.0)
        ∙ ap (λ (b : Bool). cons_option (option_map (λ t. (r, t)) (if b then Some text else None)) (errors_of (entries_where row_part fault_of_mark es))) (and_parts (nat_le (length text) byte_limit) (is_utf8 text) is.1).1
        ∙ ap (λ (l : List (ℤ × List ℕ)). (r, text) ∷ l) rest

-- the row of each mark has a key
pub row_of_mark : (m : Content) (ts : Tables) (i : List ℕ) (x : RuleIndex) → HoldsRules m ts i x → (r : ℤ) (k : RuleMark) → mark_of x r ≡ Some k → IsRow r
row_of_mark m ts i x holds r k is = mark_is_row (table_at ts x.table) x (table_is ts x.table holds.target.table holds.tables.rules holds.target.there) holds.rules r (ap is_some is)

-- the errors that entries list are the faulty rules
pub errors_read : (m : Content) (ts : Tables) (i : List ℕ) (x : RuleIndex) → HoldsRules m ts i x → errors_under i m ≡ faulty x.body
errors_read m ts i x holds =
    ap (λ (p : List ℕ). errors_of (entries (tail p m))) (append-nil (prefix_of kind.RuleFaults i))
    ∙ ap errors_of (family_listed int_cmp row_part IsRow row_spells fault_of_mark m kind.RuleFaults i x.body.marks holds.tables.only (λ q p. p) (row_of_mark m ts i x holds)
    (λ r row. holds.stands.rules.faults r row ∙ same (mark_of x r)))
    ∙ errors_each (entries x.body.marks) (λ e is. let there = in_get int_cmp_total x.body.marks e is in (row_of_mark m ts i x holds e.0 e.1 there, holds.rules.each e.0 e.1 there))
  where
    same : (o : Option RuleMark) → fault_value o ≡ option_and_then fault_of_mark o
    same None = refl
    same (Some Pending) = refl
    same (Some (Settled (Taken q))) = refl
    same (Some (Settled (Faulty text))) = refl
