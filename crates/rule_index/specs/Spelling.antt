-- The entries that spell a rule index.
use Rattle.std.specs.Prelude.{ℕ, ℤ, ◌≡◌, Bool, List, [], ◌∷◌, ◌++◌, Option, Some, None, pos, codes, refl}
use Rattle.std.specs.Bool.{if◌then◌else◌}
use Rattle.std.specs.List.{list_any}
use lib.Utf8.{encode}
use Rattle.ct_bytes.specs.Varints.{varint, text_bytes}
use Rattle.ct_entry.specs.declared.kinds.Kind.TheVariants as kind
use Rattle.ct_entry.specs.Keys.{Key, key, row_part, same_list}
use Rattle.tx_settings.specs.declared.preferences.Prefs.{Prefs}
use Rattle.tx_settings.specs.Defaults.{default_prefs}
use Rattle.tx_settings.specs.PrefsBytes.{prefs_bytes}
use Rattle.ix_kinds.specs.Standing.{no_place}
use Rattle.ix_docmap.specs.Marks.{Pending, Settled}
use Rattle.q_tree.specs.ReducedQueries.{Reduced}
use Rattle.q_stored.specs.QueryBytes.{a_term}
use Rattle.q_stored.specs.Storing.{stored_bytes}
use Rattle.q_stored.specs.Anchoring.{AnchorKeys, anchors}
use Rattle.rule_index.specs.Outcomes.{Taken, Faulty}
use Rattle.rule_index.specs.RuleIndexes.{RuleIndex, RuleMark}
use Rattle.q_stored.specs.Decoding.{stored_query}

-- ---- the entry of the index: its kind 3, its table, its column, that it isn't transactional, its preferences; no sub-index, no next
-- document, no tidiness, and no place to resume at

abbrev pub zeros : List ℕ
zeros = 0 ∷ 0 ∷ 0 ∷ 0 ∷ 0 ∷ 0 ∷ 0 ∷ 0 ∷ []

-- of these what stands before the place
abbrev pub no_number : List ℕ
no_number = 0 ∷ 0 ∷ 0 ∷ 0 ∷ 0 ∷ 0 ∷ []

-- what stands behind the head
abbrev pub rest_bytes : Prefs → List ℕ
rest_bytes p = 0 ∷ (prefs_bytes p ++ zeros)

-- the same before the place
abbrev pub told_bytes : Prefs → List ℕ
told_bytes p = 0 ∷ (prefs_bytes p ++ no_number)

abbrev pub after_table : ℕ → Prefs → List ℕ
after_table column p = column ∷ rest_bytes p

abbrev pub rules_bytes : List ℕ → ℕ → Prefs → List ℕ
rules_bytes table column p = 3 ∷ text_bytes table ++ after_table column p

abbrev pub rules_entry : RuleIndex → List ℕ
rules_entry x = rules_bytes x.table x.column x.prefs

-- ---- the entries of its rows

-- the bytes of the query that a rule was reduced to
abbrev pub query_value : Option RuleMark → Option (List ℕ)
query_value (Some (Settled (Taken q))) = Some (stored_bytes q)
query_value m = None

-- the text of a rule's fault
abbrev pub fault_value : Option RuleMark → Option (List ℕ)
fault_value (Some (Settled (Faulty text))) = Some text
fault_value m = None

-- a row that waits
abbrev pub queue_value : Option RuleMark → Option (List ℕ)
queue_value (Some Pending) = Some []
queue_value m = None

-- ---- anchors

-- a rule that is found everywhere is filed under the empty key, which is none of a word
abbrev pub filed_under : AnchorKeys → List (List ℕ)
filed_under None = [] ∷ []
filed_under (Some keys) = keys

-- the keys under which a query is filed; none where it finds nothing
abbrev pub query_anchors : Option Reduced → List (List ℕ)
query_anchors None = []
query_anchors (Some q) = filed_under (anchors q)

abbrev pub mark_anchors : Option RuleMark → List (List ℕ)
mark_anchors (Some (Settled (Taken q))) = query_anchors q
mark_anchors m = []

abbrev pub is_one_of : List (List ℕ) → List ℕ → Bool
is_one_of keys key = list_any (λ k. same_list key k) keys

abbrev pub anchor_value : Option RuleMark → List ℕ → Option (List ℕ)
anchor_value m key = if is_one_of (mark_anchors m) key then Some [] else None

-- ---- what the entry of a rule tells

-- the keys under which the query is filed that an entry has
abbrev pub entry_anchors : Option (List ℕ) → List (List ℕ)
entry_anchors None = []
entry_anchors (Some bytes) = query_anchors (stored_query bytes)

-- the entry of the rule of a row, and the keys of its query
abbrev pub rule_at : (Key → Option (List ℕ)) → List ℕ → ℤ → Option (List ℕ)
rule_at f i r = f (key kind.Rules i (row_part r))

abbrev pub anchors_at : (Key → Option (List ℕ)) → List ℕ → ℤ → List (List ℕ)
anchors_at f i r = entry_anchors (rule_at f i r)

-- ---- computed examples

-- on the column 1 of the table `rules`, by the defaults
its_entry : rules_bytes (codes "rules") 1 default_prefs ≡ 3 ∷ 5 ∷ codes "rules" ++ (1 ∷ 0 ∷ 0 ∷ 0 ∷ 2 ∷ 0 ∷ 0 ∷ 0 ∷ 0 ∷ 0 ∷ 0 ∷ 0 ∷ 0 ∷ 0 ∷ 0 ∷ [])
unfolding varint encode
its_entry = refl

the_last : no_number ++ no_place ≡ zeros
the_last = refl

under_its_key : anchor_value (Some (Settled (Taken (Some a_term)))) (codes "a") ≡ Some []
under_its_key = refl

under_no_other : anchor_value (Some (Settled (Taken (Some a_term)))) (codes "b") ≡ None
under_no_other = refl

nothing_has_none : (key : List ℕ) → anchor_value (Some (Settled (Taken None))) key ≡ None
nothing_has_none key = refl

nothing_is_stored : query_value (Some (Settled (Taken None))) ≡ Some (0 ∷ [])
nothing_is_stored = refl

-- an entry of the query `a`
its_anchor : anchors_at (λ k. Some (stored_bytes (Some a_term))) (codes "ri") (pos 7) ≡ codes "a" ∷ []
unfolding varint
its_anchor = refl

without_an_entry : anchors_at (λ k. None) (codes "ri") (pos 7) ≡ []
without_an_entry = refl
