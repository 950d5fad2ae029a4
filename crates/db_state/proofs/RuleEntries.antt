-- The entries of rule indexes: what they are, what they weigh, and that a store may have each.
use Rattle.std.proofs.Common.{◌≡◌, ℕ, ℤ, ◌+◌, ◌≤◌, Bool, true, false, cond, List, [], ◌∷◌, length, map, Option, Some, None, refl, sym, ap, subst, ◌∙◌, inl, inr, arith}
use Rattle.std.specs.Prelude.{sum_by, ◌||◌, nat_le}
use Rattle.std.specs.List.{flat_map}
use Rattle.std.specs.Option.{option_and_then}
use Rattle.std.specs.Str.{is_utf8}
use Rattle.std.specs.FinMap.{entries, int_cmp-IsAntisymmetric}
use Rattle.std.proofs.lemmas.Bool.{and_parts, leb-true}
use Rattle.std.proofs.lemmas.List.Sums.{sum_by-cons, sum_by-append}
use Rattle.std.proofs.lemmas.Option.{same_Some}
use Rattle.ct_base.specs.Limits.{token_limit}
use Rattle.ct_keep.specs.Content.{entry_weight, value_limit}
use Rattle.ct_entry.specs.declared.kinds.Kind.TheVariants as kind
use Rattle.ct_entry.specs.Keys.{Key, key, bytes, same_list, row_part, anchor_part, IsRow}
use Rattle.ct_entry.specs.Lists.{IsIn}
use Rattle.ct_entry.specs.laws.Keys.{list_from_same}
use Rattle.ct_entry.specs.laws.Lists.{in_flat_mapped, in_mapped, sum_by-map-le}
use Rattle.ct_entry.specs.laws.MapEntries.{get_in}
use Rattle.ix_docmap.specs.Marks.{Mark, Pending, Settled, is_settled}
use Rattle.q_tree.specs.ReducedQueries.{Reduced}
use Rattle.q_stored.specs.Storing.{byte_limit, is_stored, stored_bytes}
use Rattle.rule_index.specs.Outcomes.{Outcome, Taken, Faulty}
use Rattle.rule_index.specs.RuleIndexes.{RuleBody, RuleIndex, RuleMark, mark_of}
use Rattle.rule_index.specs.Room.{mark_room, outcome_room, anchor_room}
use Rattle.rule_index.specs.Shapes.{HasRuleValue}
use Rattle.rule_index.specs.Spelling.{query_anchors, is_one_of, query_value, fault_value, anchor_value}
use Rattle.rule_index.specs.Standing.{IsRuleMark, MarksStand}
use Rattle.rule_index.specs.laws.Shapes.{bytes_fit}
use Rattle.ix_indexes.specs.Indexes.{if_waits, listed_if_waits}

-- ---- the entries

abbrev pub RuleEntry : Type 0
RuleEntry = List ℕ × List ℕ

abbrev pub anchor_entry : List ℕ → ℤ → List ℕ → RuleEntry
anchor_entry i r a = (bytes (key kind.Anchors i (anchor_part a r)), [])

-- of what became of a rule
abbrev pub outcome_entries : List ℕ → ℤ → Outcome → List RuleEntry
outcome_entries i r (Taken q) = (bytes (key kind.Rules i (row_part r)), stored_bytes q) ∷ map (anchor_entry i r) (query_anchors q)
outcome_entries i r (Faulty text) = (bytes (key kind.RuleFaults i (row_part r)), text) ∷ []

-- beside that of a row that waits
abbrev pub rule_entries : List ℕ → ℤ × RuleMark → List RuleEntry
rule_entries i (r, Pending) = []
rule_entries i (r, Settled outcome) = outcome_entries i r outcome

abbrev pub ruled_entries : List ℕ → RuleBody → List RuleEntry
ruled_entries i b = flat_map (rule_entries i) (entries b.marks)

-- ---- the rows that wait

-- one that was settled is no document
pub no_document : (o : Option RuleMark) → is_settled (option_and_then if_waits o) ≡ true → ⊥
no_document None h = cc
no_document (Some Pending) h = cc
no_document (Some (Settled outcome)) h = cc

-- each that waits is listed
pub waits_listed : (es : List (ℤ × RuleMark)) (r : ℤ) (o : Option RuleMark) (m : Mark (Unit {0})) → ((k : RuleMark) → o ≡ Some k → IsIn (r, k) es) → option_and_then if_waits o ≡ Some m → IsIn (r, m) (flat_map listed_if_waits es)
waits_listed es r None m among is = cc
waits_listed es r (Some Pending) m among is =
    let same : Pending ≡ m = same_Some _ _ is in
    subst (λ (k : Mark (Unit {0})). IsIn (r, k) (flat_map listed_if_waits es)) same (in_flat_mapped listed_if_waits (r, Pending) es (r, Pending) (among Pending refl) (inl refl))
waits_listed es r (Some (Settled outcome)) m among is = cc

-- ---- what they weigh

outcome_weighs : (i : List ℕ) (r : ℤ) (o : Outcome) → sum_by entry_weight (outcome_entries i r o) ≤ outcome_room i r o
outcome_weighs i r (Taken q) =
    omega (arith, sum_by-cons entry_weight (bytes (key kind.Rules i (row_part r)), stored_bytes q) (map (anchor_entry i r) (query_anchors q)), sum_by-map-le (anchor_entry i r) entry_weight (anchor_room i r) (λ a. omega arith) (query_anchors q))
outcome_weighs i r (Faulty text) = omega (arith, sum_by-cons entry_weight (bytes (key kind.RuleFaults i (row_part r)), text) [])

-- where each row that waits has an entry of its own
pub rules_weigh : (i : List ℕ) (waiting : ℤ × Mark (Unit {0}) → List RuleEntry) → ((r : ℤ) → waiting (r, Pending) ≡ (bytes (key kind.Pending i (row_part r)), []) ∷ [])
    → (es : List (ℤ × RuleMark)) → sum_by entry_weight (flat_map waiting (flat_map listed_if_waits es)) + sum_by entry_weight (flat_map (rule_entries i) es) ≤ sum_by (mark_room i) es
rules_weigh i waiting has [] = omega arith
rules_weigh i waiting has ((r, Pending) ∷ es) =
    omega (
      arith,
      rules_weigh i waiting has es,
      sum_by-cons (mark_room i) (r, Pending) es,
      sum_by-append entry_weight (waiting (r, Pending)) (flat_map waiting (flat_map listed_if_waits es)),
      ap (sum_by entry_weight) (has r),
      sum_by-cons entry_weight (bytes (key kind.Pending i (row_part r)), []) [],
    )
rules_weigh i waiting has ((r, Settled outcome) ∷ es) =
    omega (
      arith,
      rules_weigh i waiting has es,
      sum_by-cons (mark_room i) (r, Settled outcome) es,
      sum_by-append entry_weight (outcome_entries i r outcome) (flat_map (rule_entries i) es),
      outcome_weighs i r outcome,
    )

-- ---- what an entry has

pub query_there : (o : Option RuleMark) (v : List ℕ) → query_value o ≡ Some v → (q : Option Reduced) × ((o ≡ Some (Settled (Taken q))) × (stored_bytes q ≡ v))
query_there None v is = cc
query_there (Some Pending) v is = cc
query_there (Some (Settled (Taken q))) v is = (q, (refl, same_Some _ _ is))
query_there (Some (Settled (Faulty text))) v is = cc

pub fault_there : (o : Option RuleMark) (v : List ℕ) → fault_value o ≡ Some v → o ≡ Some (Settled (Faulty v))
fault_there None v is = cc
fault_there (Some Pending) v is = cc
fault_there (Some (Settled (Taken q))) v is = cc
fault_there (Some (Settled (Faulty text))) v is = ap (λ (t : List ℕ). Some (Settled (Faulty t))) (same_Some _ _ is)

among_keys : (a : List ℕ) (keys : List (List ℕ)) → is_one_of keys a ≡ true → IsIn a keys
among_keys a [] h = cc
among_keys a (k ∷ ks) h =
    elim (same_list a k) as (λ b. same_list a k ≡ b → (b || is_one_of ks a) ≡ true → IsIn a (k ∷ ks)) [ true ↦ λ same h. inl (list_from_same a k same) | false ↦ λ same h. inr (among_keys a ks h) ] refl h

-- under a key stands nothing but the key of a query that was taken
pub anchor_there : (o : Option RuleMark) (a v : List ℕ) → anchor_value o a ≡ Some v → ((q : Option Reduced) × ((o ≡ Some (Settled (Taken q))) × IsIn a (query_anchors q))) × ([] ≡ v)
anchor_there None a v is = cc
anchor_there (Some Pending) a v is = cc
anchor_there (Some (Settled (Faulty text))) a v is = cc
anchor_there (Some (Settled (Taken q))) a v is = go (is_one_of (query_anchors q) a) refl is
  where
    go : (b : Bool) → is_one_of (query_anchors q) a ≡ b → cond b (Some []) None ≡ Some v → ((p : Option Reduced) × ((Some (Settled (Taken q)) ≡ Some (Settled (Taken p))) × IsIn a (query_anchors p))) × ([] ≡ v)
    go true has is = ((q, (refl, among_keys a (query_anchors q) has)), same_Some _ _ is)
    go false has is = cc

module _ (f : Key → Option (List ℕ)) (i : List ℕ) (x : RuleIndex) (stand : MarksStand f i (mark_of x)) where
  -- ---- each is among them

  in_mark : (r : ℤ) (o : Outcome) (e : RuleEntry) → mark_of x r ≡ Some (Settled o) → IsIn e (outcome_entries i r o) → IsIn e (ruled_entries i x.body)
  in_mark r o e is h = in_flat_mapped (rule_entries i) (r, Settled o) (entries x.body.marks) e (get_in int_cmp-IsAntisymmetric x.body.marks r (Settled o) is) h

  pub query_listed : (r : ℤ) (v : List ℕ) → IsRow r → f (key kind.Rules i (row_part r)) ≡ Some v → IsIn (bytes (key kind.Rules i (row_part r)), v) (ruled_entries i x.body)
  query_listed r v row has =
      let q = query_there (mark_of x r) v (sym (stand.rules.queries r row) ∙ has) in
      in_mark r (Taken q.0) _ q.1.0 (inl (ap (λ (w : List ℕ). (bytes (key kind.Rules i (row_part r)), w)) (sym q.1.1)))

  pub anchor_listed : (a : List ℕ) (r : ℤ) (v : List ℕ) → length a ≤ token_limit → IsRow r → f (key kind.Anchors i (anchor_part a r)) ≡ Some v
      → IsIn (bytes (key kind.Anchors i (anchor_part a r)), v) (ruled_entries i x.body)
  anchor_listed a r v short row has =
      let found = anchor_there (mark_of x r) a v (sym (stand.rules.anchors a r short row) ∙ has) in
      let q = found.0 in
      subst (λ (w : List ℕ). IsIn (bytes (key kind.Anchors i (anchor_part a r)), w) (ruled_entries i x.body)) found.1
      (in_mark r (Taken q.0) _ q.1.0 (inr (in_mapped (anchor_entry i r) a (query_anchors q.0) q.1.1)))

  pub fault_listed : (r : ℤ) (v : List ℕ) → IsRow r → f (key kind.RuleFaults i (row_part r)) ≡ Some v → IsIn (bytes (key kind.RuleFaults i (row_part r)), v) (ruled_entries i x.body)
  fault_listed r v row has = in_mark r (Faulty v) _ (fault_there (mark_of x r) v (sym (stand.rules.faults r row) ∙ has)) (inl refl)

  -- ---- and one that a store has

  module _ (each : (r : ℤ) (m : RuleMark) → mark_of x r ≡ Some m → IsRuleMark m) where
    pub query_well : (r : ℤ) (v : List ℕ) → IsRow r → f (key kind.Rules i (row_part r)) ≡ Some v → HasRuleValue (key kind.Rules i (row_part r)) v × (length v ≤ value_limit)
    query_well r v row has =
        let q = query_there (mark_of x r) v (sym (stand.rules.queries r row) ∙ has) in
        let stored : is_stored q.0 ≡ true = each r (Settled (Taken q.0)) q.1.0 in
        let few = bytes_fit q.0 stored in
        ((q.0, record { rules = stored; spelt = q.1.1 }), omega (arith, few, ap length q.1.1))

    pub anchor_well : (a : List ℕ) (r : ℤ) (v : List ℕ) → length a ≤ token_limit → IsRow r → f (key kind.Anchors i (anchor_part a r)) ≡ Some v
        → HasRuleValue (key kind.Anchors i (anchor_part a r)) v × (length v ≤ value_limit)
    anchor_well a r v short row has =
        let found = anchor_there (mark_of x r) a v (sym (stand.rules.anchors a r short row) ∙ has) in
        (sym found.1, omega (arith, ap length found.1))

    pub fault_well : (r : ℤ) (v : List ℕ) → IsRow r → f (key kind.RuleFaults i (row_part r)) ≡ Some v → HasRuleValue (key kind.RuleFaults i (row_part r)) v × (length v ≤ value_limit)
    fault_well r v row has =
        let is = fault_there (mark_of x r) v (sym (stand.rules.faults r row) ∙ has) in
        let both = and_parts (nat_le (length v) byte_limit) (is_utf8 v) (each r (Settled (Faulty v)) is) in
        (both.1, leb-true (length v) byte_limit both.0)
