-- What a synchronisation of a rule index puts, and what a new one puts, is on keys of its entries.
use Rattle.std.specs.Prelude.{ℕ, ℤ, ◌≡◌, true, ◌||◌, List, [], ◌∷◌, map, Option, Some, None, is_some, refl}
use Rattle.std.specs.List.{list_any}
use Rattle.std.specs.Option.{option_and_then}
use Rattle.std.specs.Ordering.{int_cmp, int_eq}
use Rattle.std.specs.FinMap.{get}
use Rattle.std.proofs.Common.{sym, ap, ◌∙◌}
use Rattle.std.proofs.lemmas.Bool.{or_right}
use Rattle.std.proofs.lemmas.Cmp.{int_cmp_total}
use Rattle.ct_base.specs.Names.{IsName}
use Rattle.ct_entry.specs.Keys.{Key, IsRow}
use Rattle.ct_entry.specs.Changes.{AreChanges}
use Rattle.ct_entry.specs.Each.{each}
use Rattle.ct_entry.specs.laws.Changes.{are-append}
use Rattle.ct_entry.specs.laws.Parts.{int_same}
use Rattle.ct_entry.specs.laws.Rows.{has_key}
use Rattle.tb_table.specs.declared.columns.Target.{Target}
use Rattle.tb_table.specs.Tables.{Table}
use Rattle.tb_table.specs.Rules.{IsTable}
use Rattle.tx_settings.specs.declared.preferences.Prefs.{Prefs}
use Rattle.ix_kinds.specs.Rows.{row_keys_of}
use Rattle.ix_docmap.specs.Changes.{unqueue_changes}
use Rattle.rule_index.specs.Outcomes.{NamedThesauri, Outcome, Taken, Faulty}
use Rattle.rule_index.specs.RuleIndexes.{RuleIndex, RuleMark, if_waiting, row_outcome, rule_text, waiting}
use Rattle.rule_index.specs.Spelling.{query_anchors}
use Rattle.rule_index.specs.Standing.{AreRules, IsOutcome}
use Rattle.rule_index.specs.Changes.{filing_change, outcome_changes, settle_changes}
use Rattle.rule_index.specs.Kind.{create_changes, sync_changes}
use Rattle.rule_index.specs.laws.Kind.{keys_are_rows, mark_is_row, seen_is}
use Rattle.rule_index.specs.laws.Shapes.{AreShort, anchors_short}

-- ---- one rule

files_are : (i : List ℕ) (r : ℤ) (anchors : List (List ℕ)) → IsName i → IsRow r → AreShort anchors → AreChanges (map (filing_change true i r) anchors)
files_are i r [] name row short = tt
files_are i r (a ∷ as') name row short = (record { owner = name; part = (a, (r, short.0, row, refl)) }, files_are i r as' name row short.1)

outcome_are : (i : List ℕ) (r : ℤ) (o : Outcome) → IsName i → IsRow r → IsOutcome o → AreChanges (outcome_changes i r o)
outcome_are i r (Taken q) name row is = (record { owner = name; part = (r, row, refl) }, files_are i r (query_anchors q) name row (anchors_short q is))
outcome_are i r (Faulty text) name row is = (record { owner = name; part = (r, row, refl) }, tt)

settle_are : (i : List ℕ) (outcome : ℤ → Outcome) (r : ℤ) → IsName i → IsRow r → IsOutcome (outcome r) → AreChanges (settle_changes i outcome r)
settle_are i outcome r name row is = are-append (unqueue_changes i r) (outcome_changes i r (outcome r)) (record { owner = name; part = (r, row, refl) }, tt) (outcome_are i r (outcome r) name row is)

-- ---- those of several rows, each of which is among them

each_are : (changes : ℤ → List (Key × Option (List ℕ))) (rows : List ℤ) → ((s : ℤ) → list_any (int_eq s) rows ≡ true → AreChanges (changes s)) → AreChanges (each changes rows)
each_are changes [] are = tt
each_are changes (r ∷ rs) are =
    are-append (changes r) (each changes rs) (are r (ap (λ b. b || list_any (int_eq r) rs) (int_same r)))
    (each_are changes rs (λ s there. are s (or_right (int_eq s r) (list_any (int_eq s) rs) there)))

-- those that wait in an index
waiting_rows : (t : Table) (x : RuleIndex) → IsTable t → AreRules t x → (s : ℤ) → list_any (int_eq s) (waiting x.body) ≡ true → IsRow s
waiting_rows t x is_t is s there = go (get x.body.marks s) refl (sym (has_key int_cmp int_cmp_total if_waiting x.body.marks s) ∙ there)
  where
    go : (o : Option RuleMark) → get x.body.marks s ≡ o → is_some (option_and_then if_waiting o) ≡ true → IsRow s
    go None has h = cc
    go (Some k) has h = mark_is_row t x is_t is s (ap is_some has)

-- ---- those of statements

pub sync_are : (thesauri : NamedThesauri) (t : Table) (i : List ℕ) (x : RuleIndex) → IsName i → IsTable t → AreRules t x → AreChanges (sync_changes thesauri t i x)
sync_are thesauri t i x name is_t is =
    let outcome = row_outcome thesauri t x.column x.prefs in
    each_are (settle_changes i outcome) (waiting x.body) (λ s there. settle_are i outcome s name (waiting_rows t x is_t is s there) (seen_is thesauri x.prefs (rule_text t x.column s)))

pub create_are : (thesauri : NamedThesauri) (t : Table) (i : List ℕ) (on : Target) (p : Prefs) → IsName i → IsTable t → AreChanges (create_changes thesauri t i on p)
create_are thesauri t i on p name is_t =
    let outcome = row_outcome thesauri t on.column p in (
      record { owner = name; part = refl },
      each_are (λ r. outcome_changes i r (outcome r)) (row_keys_of t) (λ s there. outcome_are i s (outcome s) name (keys_are_rows t is_t s there) (seen_is thesauri p (rule_text t on.column s))),
    )
