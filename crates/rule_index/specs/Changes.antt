-- What the calls of a rule index put into a batch.
use Rattle.std.specs.Prelude.{ℕ, ℤ, pos, ◌≡◌, Bool, true, false, List, [], ◌∷◌, ◌++◌, map, Option, Some, None, Result, OnOk, codes, refl}
use Rattle.ct_base.specs.declared.lists.Value.{Value}
use Rattle.ct_bytes.specs.RowKeys.{row_bytes}
use Rattle.ct_bytes.specs.Varints.{varint}
use Rattle.ct_entry.specs.declared.kinds.Kind.TheVariants as kind
use Rattle.ct_entry.specs.Keys.{Key, key, row_part, anchor_part}
use Rattle.ct_entry.specs.Changes.{put_value, drop_key, spell}
use Rattle.ct_entry.specs.Each.{each}
use Rattle.ix_docmap.specs.Changes.{queue_changes, unqueue_changes}
use Rattle.tx_settings.specs.declared.preferences.Prefs.{Prefs}
use Rattle.q_tree.specs.ReducedQueries.{Reduced}
use Rattle.q_stored.specs.QueryBytes.{a_term}
use Rattle.q_stored.specs.Storing.{stored_bytes}
use Rattle.rule_index.specs.Outcomes.{Outcome, Taken, Faulty}
use Rattle.rule_index.specs.Spelling.{rules_bytes, query_anchors}

-- ---- rules that come

-- a rule is filed under a key, or is so no more
abbrev pub filing_change : Bool → List ℕ → ℤ → List ℕ → Key × Option (List ℕ)
filing_change true i r a = put_value (key kind.Anchors i (anchor_part a r)) []
filing_change false i r a = drop_key (key kind.Anchors i (anchor_part a r))

-- a rule has the query of these bytes
abbrev pub query_change : List ℕ → ℤ → List ℕ → Key × Option (List ℕ)
query_change i r bytes = put_value (key kind.Rules i (row_part r)) bytes

-- the query of a rule, and the keys under which it is found
abbrev pub taken_changes : List ℕ → ℤ → Option Reduced → List (Key × Option (List ℕ))
taken_changes i r q = query_change i r (stored_bytes q) ∷ map (filing_change true i r) (query_anchors q)

-- what became of a rule
abbrev pub outcome_changes : List ℕ → ℤ → Outcome → List (Key × Option (List ℕ))
outcome_changes i r (Taken q) = taken_changes i r q
outcome_changes i r (Faulty text) = put_value (key kind.RuleFaults i (row_part r)) text ∷ []

-- those of each of these rows
abbrev pub come_changes : List ℕ → (ℤ → Outcome) → List ℤ → List (Key × Option (List ℕ))
come_changes i outcome rows = each (λ r. outcome_changes i r (outcome r)) rows

-- a row that waits is settled
abbrev pub settle_changes : List ℕ → (ℤ → Outcome) → ℤ → List (Key × Option (List ℕ))
settle_changes i outcome r = unqueue_changes i r ++ outcome_changes i r (outcome r)

abbrev pub settle_each_changes : List ℕ → (ℤ → Outcome) → List ℤ → List (Key × Option (List ℕ))
settle_each_changes i outcome rows = each (settle_changes i outcome) rows

-- ---- rules that go

-- whatever became of a rule, which was found under these keys
abbrev pub lost_changes : List ℕ → ℤ → List (List ℕ) → List (Key × Option (List ℕ))
lost_changes i r anchors = drop_key (key kind.Rules i (row_part r)) ∷ drop_key (key kind.RuleFaults i (row_part r)) ∷ map (filing_change false i r) anchors

-- a row of which the column is set: what became of its rule is lost, and it waits
abbrev pub set_changes : List ℕ → ℤ → List (List ℕ) → List (Key × Option (List ℕ))
set_changes i r anchors = lost_changes i r anchors ++ queue_changes i r

-- a row that goes
abbrev pub gone_changes : List ℕ → ℤ → List (List ℕ) → List (Key × Option (List ℕ))
gone_changes i r anchors = lost_changes i r anchors ++ unqueue_changes i r

-- by the values of the row before and after the statement, and the keys under which its rule was found
abbrev pub rule_changes : List ℕ → ℤ → Option (List Value) → Option (List Value) → List (List ℕ) → List (Key × Option (List ℕ))
rule_changes i r None None anchors = []
rule_changes i r None (Some new) anchors = queue_changes i r
rule_changes i r (Some old) (Some new) anchors = set_changes i r anchors
rule_changes i r (Some old) None anchors = gone_changes i r anchors

-- ---- the entry of the index

-- an index is on this column of this table, with these preferences
abbrev pub entry_change : List ℕ → List ℕ → ℕ → Prefs → Key × Option (List ℕ)
entry_change i table column p = put_value (key kind.Indexes i []) (rules_bytes table column p)

-- Unless the call failed, the batch has these changes more.
abbrev pub Adds : {T E : Type 0} → List (List ℕ × Option (List ℕ)) → List (List ℕ × Option (List ℕ)) → Result T E → List (Key × Option (List ℕ)) → Type 0
Adds old new result changes = OnOk result (new ≡ old ++ spell changes)

-- ---- computed examples: the rule `a` of the row 7 is taken, and goes again

filed_under_a : spell (taken_changes (codes "ri") (pos 7) (Some a_term))
    ≡ (0x2a ∷ 2 ∷ codes "ri" ++ 0x80 ∷ 0 ∷ 0 ∷ 0 ∷ 0 ∷ 0 ∷ 0 ∷ 7 ∷ [], Some (1 ∷ 1 ∷ 1 ∷ 1 ∷ 1 ∷ 1 ∷ codes "a" ++ 0 ∷ []))
    ∷ (0x2b ∷ 2 ∷ codes "ri" ++ 1 ∷ codes "a" ++ 0x80 ∷ 0 ∷ 0 ∷ 0 ∷ 0 ∷ 0 ∷ 0 ∷ 7 ∷ [], Some []) ∷ []
unfolding row_bytes varint
filed_under_a = refl

gone_again : spell (lost_changes (codes "ri") (pos 7) (codes "a" ∷ []))
    ≡ (0x2a ∷ 2 ∷ codes "ri" ++ 0x80 ∷ 0 ∷ 0 ∷ 0 ∷ 0 ∷ 0 ∷ 0 ∷ 7 ∷ [], None)
    ∷ (0x2c ∷ 2 ∷ codes "ri" ++ 0x80 ∷ 0 ∷ 0 ∷ 0 ∷ 0 ∷ 0 ∷ 0 ∷ 7 ∷ [], None)
    ∷ (0x2b ∷ 2 ∷ codes "ri" ++ 1 ∷ codes "a" ++ 0x80 ∷ 0 ∷ 0 ∷ 0 ∷ 0 ∷ 0 ∷ 0 ∷ 7 ∷ [], None) ∷ []
unfolding row_bytes
gone_again = refl

a_new_row_waits : (anchors : List (List ℕ)) → rule_changes (codes "ri") (pos 7) None (Some []) anchors ≡ queue_changes (codes "ri") (pos 7)
a_new_row_waits anchors = refl
