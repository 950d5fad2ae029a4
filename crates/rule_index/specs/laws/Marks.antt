-- What changes make of the entries of a rule index.
use Rattle.std.specs.Prelude.{ℕ, ℤ, ◌≡◌, Bool, true, false, cond, ◌&&◌, ◌||◌, List, [], ◌∷◌, map, Option, Some, None, is_some, refl}
use Rattle.std.specs.Bool.{if◌then◌else◌}
use Rattle.std.specs.List.{list_any}
use Rattle.std.specs.FinMap.{get, int_cmp-IsAntisymmetric}
use Rattle.std.specs.Option.{option_and_then, option_map}
use Rattle.std.specs.Ordering.{int_cmp, int_eq}
use Rattle.std.proofs.lemmas.Cmp.{int_cmp_total}
use Rattle.std.proofs.Common.{sym, ap, ◌∙◌, subst}
use Rattle.std.proofs.lemmas.Bool.{and_parts}
use Rattle.ct_base.specs.laws.Bools.{same_tests}
use Rattle.ct_entry.specs.declared.kinds.Kind.{Kind}
use Rattle.ct_entry.specs.declared.kinds.Kind.TheVariants as kind
use Rattle.ct_entry.specs.Keys.{Key, key, row_part, anchor_part, same_key, same_list, IsRow}
use Rattle.ct_entry.specs.Changes.{told, view}
use Rattle.ct_entry.specs.laws.Changes.{view-append}
use Rattle.ct_entry.specs.laws.Keys.{list_from_same, list_same}
use Rattle.ct_entry.specs.laws.Maps.{get-each_at}
use Rattle.ct_entry.specs.laws.Rows.{has_key}
use Rattle.ct_entry.specs.laws.Parts.{anchor_part_apart, int_from_eq, int_same, rows_tie, same_kind}
use Rattle.ix_docmap.specs.Changes.{queue_changes, unqueue_changes}
use Rattle.ix_docmap.specs.Marks.{Pending, Settled}
use Rattle.q_tree.specs.ReducedQueries.{Reduced}
use Rattle.q_stored.specs.Storing.{stored_bytes}
use Rattle.rule_index.specs.Outcomes.{Outcome, Taken, Faulty}
use Rattle.rule_index.specs.RuleIndexes.{RuleBody, RuleMark, if_waiting, settled, all_settled, waiting}
use Rattle.rule_index.specs.Spelling.{anchor_value, fault_value, is_one_of, mark_anchors, query_anchors, query_value, queue_value}
use Rattle.rule_index.specs.Changes.{lost_changes, gone_changes, set_changes, outcome_changes, settle_changes, settle_each_changes, taken_changes}
use Rattle.rule_index.specs.Standing.{MarksStand, QueueStands, RulesStand}

pub or_left : (a b : Bool) → a ≡ true → (a || b) ≡ true
or_left true b h = refl
or_left false b h = cc

pub or_right : (a b : Bool) → b ≡ true → (a || b) ≡ true
or_right true b h = refl
or_right false b h = h

-- ---- keys of an index

own : (k : Kind) (i p q : List ℕ) → same_key (key k i p) (key k i q) ≡ same_list p q
own k i p q = same_kind k i i p q ∙ ap (λ (b : Bool). b && same_list p q) (list_same i)

pub own_row : (k : Kind) (i : List ℕ) (s r : ℤ) → IsRow s → IsRow r → same_key (key k i (row_part s)) (key k i (row_part r)) ≡ int_eq s r
own_row k i s r f g = own k i (row_part s) (row_part r) ∙ rows_tie s r f g

anchors_tie : (a b : List ℕ) (s r : ℤ) → IsRow s → IsRow r → same_list (anchor_part a s) (anchor_part b r) ≡ (int_eq s r && same_list a b)
anchors_tie a b s r f g =
    same_tests (same_list (anchor_part a s) (anchor_part b r)) (int_eq s r && same_list a b)
    (λ h.
    let p = anchor_part_apart a b s r f g (list_from_same (anchor_part a s) (anchor_part b r) h) in
    ap (λ (x : ℤ). int_eq x r && same_list a b) p.1 ∙ ap (λ (t : Bool). t && same_list a b) (int_same r) ∙ ap (λ (x : List ℕ). same_list x b) p.0 ∙ list_same b)
    (λ h.
    let p = and_parts (int_eq s r) (same_list a b) h in
    ap (λ (x : ℤ). same_list (anchor_part a x) (anchor_part b r)) (int_from_eq s r p.0) ∙ ap (λ (x : List ℕ). same_list (anchor_part x r) (anchor_part b r)) (list_from_same a b p.1) ∙ list_same (anchor_part b r))

own_anchor : (i a b : List ℕ) (s r : ℤ) → IsRow s → IsRow r → same_key (key kind.Anchors i (anchor_part a s)) (key kind.Anchors i (anchor_part b r)) ≡ (int_eq s r && same_list a b)
own_anchor i a b s r f g = own kind.Anchors i (anchor_part a s) (anchor_part b r) ∙ anchors_tie a b s r f g

-- ---- marks with another one

abbrev pub with_mark : ℤ → Option RuleMark → (ℤ → Option RuleMark) → ℤ → Option RuleMark
with_mark r m mark s = cond (int_eq s r) m (mark s)

-- a value by the marks, where one of them is another
moved : (value : Option RuleMark → Option (List ℕ)) (m : Option RuleMark) (mark : ℤ → Option RuleMark) (r s : ℤ) → cond (int_eq s r) (value m) (value (mark s)) ≡ value (with_mark r m mark s)
moved value m mark r s = go (int_eq s r)
  where
    go : (b : Bool) → cond b (value m) (value (mark s)) ≡ value (cond b m (mark s))
    go true = refl
    go false = refl

-- the same where the values of both marks are one
pub unmoved : (value : Option RuleMark → Option (List ℕ)) (m : Option RuleMark) (mark : ℤ → Option RuleMark) (r s : ℤ) → value (mark r) ≡ value m → value (mark s) ≡ value (with_mark r m mark s)
unmoved value m mark r s same = go (int_eq s r) refl
  where
    go : (b : Bool) → int_eq s r ≡ b → value (mark s) ≡ value (cond b m (mark s))
    go true h = ap (λ (x : ℤ). value (mark x)) (int_from_eq s r h) ∙ same
    go false h = refl

-- ---- the queue

queued : (f : Key → Option (List ℕ)) (i : List ℕ) (mark : ℤ → Option RuleMark) (r : ℤ) → IsRow r → QueueStands f i mark → QueueStands (view (queue_changes i r) f) i (with_mark r (Some Pending) mark)
queued f i mark r row stand = record {
  queue = λ s fits.
      ap (λ (b : Bool). cond b (Some []) (f (key kind.Pending i (row_part s)))) (own_row kind.Pending i s r fits row)
      ∙ ap (cond (int_eq s r) (Some [])) (stand.queue s fits)
      ∙ moved queue_value (Some Pending) mark r s;
}

-- a row waits no more, whatever it has then
unqueued : (f : Key → Option (List ℕ)) (i : List ℕ) (mark : ℤ → Option RuleMark) (r : ℤ) (m : Option RuleMark) → queue_value m ≡ None → IsRow r → QueueStands f i mark → QueueStands (view (unqueue_changes i r) f) i (with_mark r m mark)
unqueued f i mark r m none row stand = record {
  queue = λ s fits.
      ap (λ (b : Bool). cond b None (f (key kind.Pending i (row_part s)))) (own_row kind.Pending i s r fits row)
      ∙ ap (λ (o : Option (List ℕ)). cond (int_eq s r) o (f (key kind.Pending i (row_part s)))) (sym none)
      ∙ ap (cond (int_eq s r) (queue_value m)) (stand.queue s fits)
      ∙ moved queue_value m mark r s;
}

-- ---- rules that are lost

-- one value for each anchor of a rule
anchors_told : (v : Option (List ℕ)) (i : List ℕ) (r : ℤ) → IsRow r → (anchors : List (List ℕ)) (a : List ℕ) (s : ℤ) → IsRow s → (old : Option (List ℕ))
    → told (map (λ b. (key kind.Anchors i (anchor_part b r), v)) anchors) (key kind.Anchors i (anchor_part a s)) old ≡ cond (int_eq s r && is_one_of anchors a) v old
anchors_told v i r row [] a s fits old = none (int_eq s r)
  where
    none : (b : Bool) → old ≡ cond (b && false) v old
    none true = refl
    none false = refl
anchors_told v i r row (b ∷ anchors) a s fits old =
    anchors_told v i r row anchors a s fits (cond (same_key (key kind.Anchors i (anchor_part a s)) (key kind.Anchors i (anchor_part b r))) v old)
    ∙ ap (λ (t : Bool). cond (int_eq s r && is_one_of anchors a) v (cond t v old)) (own_anchor i a b s r fits row)
    ∙ both (int_eq s r) (same_list a b) (is_one_of anchors a)
  where
    both : (x y z : Bool) → cond (x && z) v (cond (x && y) v old) ≡ cond (x && (y || z)) v old
    both true true true = refl
    both true true false = refl
    both true false true = refl
    both true false false = refl
    both false y z = refl

-- other kinds keep their entries
pub others_told : (v : Option (List ℕ)) (i : List ℕ) (r : ℤ) (anchors : List (List ℕ)) (k : Kind) (p : List ℕ) → ((b : List ℕ) → same_key (key k i p) (key kind.Anchors i b) ≡ false) → (old : Option (List ℕ))
    → told (map (λ b. (key kind.Anchors i (anchor_part b r), v)) anchors) (key k i p) old ≡ old
others_told v i r [] k p other old = refl
others_told v i r (b ∷ anchors) k p other old =
    others_told v i r anchors k p other (cond (same_key (key k i p) (key kind.Anchors i (anchor_part b r))) v old)
    ∙ ap (λ (t : Bool). cond t v old) (other (anchor_part b r))

abbrev no_value : Option (List ℕ)
no_value = None

abbrev empty_value : Option (List ℕ)
empty_value = Some []

-- an anchor of another row, or one that goes
anchor_gone : (mark : ℤ → Option RuleMark) (r : ℤ) (m : Option RuleMark) (a : List ℕ) (s : ℤ) → mark_anchors m ≡ [] → cond (int_eq s r && is_one_of (mark_anchors (mark r)) a) None (anchor_value (mark s) a) ≡ anchor_value (with_mark r m mark s) a
anchor_gone mark r m a s none = go (int_eq s r) refl
  where
    lost : (b : Bool) → cond b no_value (if b then empty_value else no_value) ≡ no_value
    lost true = refl
    lost false = refl

    go : (b : Bool) → int_eq s r ≡ b → cond (b && is_one_of (mark_anchors (mark r)) a) None (anchor_value (mark s) a) ≡ anchor_value (cond b m (mark s)) a
    go true h =
        ap (λ (x : ℤ). cond (is_one_of (mark_anchors (mark r)) a) None (anchor_value (mark x) a)) (int_from_eq s r h)
        ∙ lost (is_one_of (mark_anchors (mark r)) a)
        ∙ ap (λ (as' : List (List ℕ)). if is_one_of as' a then Some [] else None) (sym none)
    go false h = refl

-- after the changes by which a rule is lost, the row has no entry of a rule
lost : (f : Key → Option (List ℕ)) (i : List ℕ) (mark : ℤ → Option RuleMark) (r : ℤ) (m : Option RuleMark) → query_value m ≡ None → fault_value m ≡ None → mark_anchors m ≡ [] → IsRow r → RulesStand f i mark
    → RulesStand (view (lost_changes i r (mark_anchors (mark r))) f) i (with_mark r m mark)
lost f i mark r m no_query no_fault no_anchor row stand = record {
  queries = λ s fits.
      others_told None i r (mark_anchors (mark r)) kind.Rules (row_part s) (λ b. refl) (cond (same_key (key kind.Rules i (row_part s)) (key kind.Rules i (row_part r))) None (f (key kind.Rules i (row_part s))))
      ∙ ap (λ (b : Bool). cond b None (f (key kind.Rules i (row_part s)))) (own_row kind.Rules i s r fits row)
      ∙ ap (λ (o : Option (List ℕ)). cond (int_eq s r) o (f (key kind.Rules i (row_part s)))) (sym no_query)
      ∙ ap (cond (int_eq s r) (query_value m)) (stand.queries s fits)
      ∙ moved query_value m mark r s;
  anchors = λ a s short fits.
      anchors_told None i r row (mark_anchors (mark r)) a s fits (f (key kind.Anchors i (anchor_part a s)))
      ∙ ap (cond (int_eq s r && is_one_of (mark_anchors (mark r)) a) None) (stand.anchors a s short fits)
      ∙ anchor_gone mark r m a s no_anchor;
  faults = λ s fits.
      others_told None i r (mark_anchors (mark r)) kind.RuleFaults (row_part s) (λ b. refl) (cond (same_key (key kind.RuleFaults i (row_part s)) (key kind.RuleFaults i (row_part r))) None (f (key kind.RuleFaults i (row_part s))))
      ∙ ap (λ (b : Bool). cond b None (f (key kind.RuleFaults i (row_part s)))) (own_row kind.RuleFaults i s r fits row)
      ∙ ap (λ (o : Option (List ℕ)). cond (int_eq s r) o (f (key kind.RuleFaults i (row_part s)))) (sym no_fault)
      ∙ ap (cond (int_eq s r) (fault_value m)) (stand.faults s fits)
      ∙ moved fault_value m mark r s;
}

-- ---- rules that come

anchor_put : (mark : ℤ → Option RuleMark) (r : ℤ) (q : Option Reduced) (a : List ℕ) (s : ℤ) → (is_one_of (mark_anchors (mark r)) a ≡ true → is_one_of (query_anchors q) a ≡ true)
    → cond (int_eq s r && is_one_of (query_anchors q) a) (Some []) (anchor_value (mark s) a) ≡ anchor_value (with_mark r (Some (Settled (Taken q))) mark s) a
anchor_put mark r q a s within = go (int_eq s r) refl
  where
    put : (x y : Bool) → (y ≡ true → x ≡ true) → cond x empty_value (if y then empty_value else no_value) ≡ (if x then empty_value else no_value)
    put true y h = refl
    put false false h = refl
    put false true h = let wrong : false ≡ true = h refl in cc

    go : (b : Bool) → int_eq s r ≡ b → cond (b && is_one_of (query_anchors q) a) (Some []) (anchor_value (mark s) a) ≡ anchor_value (cond b (Some (Settled (Taken q))) (mark s)) a
    go true h =
        ap (λ (x : ℤ). cond (is_one_of (query_anchors q) a) (Some []) (anchor_value (mark x) a)) (int_from_eq s r h)
        ∙ put (is_one_of (query_anchors q) a) (is_one_of (mark_anchors (mark r)) a) within
    go false h = refl

taken : (f : Key → Option (List ℕ)) (i : List ℕ) (mark : ℤ → Option RuleMark) (r : ℤ) (q : Option Reduced) → IsRow r → fault_value (mark r) ≡ None → ((a : List ℕ) → is_one_of (mark_anchors (mark r)) a ≡ true → is_one_of (query_anchors q) a ≡ true)
    → RulesStand f i mark → RulesStand (view (taken_changes i r q) f) i (with_mark r (Some (Settled (Taken q))) mark)
taken f i mark r q row no_fault within stand = record {
  queries = λ s fits.
      others_told (Some []) i r (query_anchors q) kind.Rules (row_part s) (λ b. refl) (cond (same_key (key kind.Rules i (row_part s)) (key kind.Rules i (row_part r))) (Some (stored_bytes q)) (f (key kind.Rules i (row_part s))))
      ∙ ap (λ (b : Bool). cond b (Some (stored_bytes q)) (f (key kind.Rules i (row_part s)))) (own_row kind.Rules i s r fits row)
      ∙ ap (cond (int_eq s r) (Some (stored_bytes q))) (stand.queries s fits)
      ∙ moved query_value (Some (Settled (Taken q))) mark r s;
  anchors = λ a s short fits.
      anchors_told (Some []) i r row (query_anchors q) a s fits (f (key kind.Anchors i (anchor_part a s)))
      ∙ ap (cond (int_eq s r && is_one_of (query_anchors q) a) (Some [])) (stand.anchors a s short fits)
      ∙ anchor_put mark r q a s (within a);
  faults = λ s fits.
      others_told (Some []) i r (query_anchors q) kind.RuleFaults (row_part s) (λ b. refl) (f (key kind.RuleFaults i (row_part s)))
      ∙ stand.faults s fits
      ∙ unmoved fault_value (Some (Settled (Taken q))) mark r s no_fault;
}

failed : (f : Key → Option (List ℕ)) (i : List ℕ) (mark : ℤ → Option RuleMark) (r : ℤ) (text : List ℕ) → IsRow r → query_value (mark r) ≡ None → mark_anchors (mark r) ≡ []
    → RulesStand f i mark → RulesStand (view (outcome_changes i r (Faulty text)) f) i (with_mark r (Some (Settled (Faulty text))) mark)
failed f i mark r text row no_query no_anchor stand = record {
  queries = λ s fits. stand.queries s fits ∙ unmoved query_value (Some (Settled (Faulty text))) mark r s no_query;
  anchors = λ a s short fits.
      stand.anchors a s short fits
      ∙ unmoved (λ m. anchor_value m a) (Some (Settled (Faulty text))) mark r s (ap (λ (as' : List (List ℕ)). if is_one_of as' a then Some [] else None) no_anchor);
  faults = λ s fits.
      ap (λ (b : Bool). cond b (Some text) (f (key kind.RuleFaults i (row_part s)))) (own_row kind.RuleFaults i s r fits row)
      ∙ ap (cond (int_eq s r) (Some text)) (stand.faults s fits)
      ∙ moved fault_value (Some (Settled (Faulty text))) mark r s;
}

-- a row may get an outcome where it has no mark, waits, or has this outcome already
pub data IsReady (o : Outcome) (m : Option RuleMark) : Type 0 where
  Free : m ≡ None → IsReady o m
  Waits : m ≡ Some Pending → IsReady o m
  Has : m ≡ Some (Settled o) → IsReady o m

pub settles : (f : Key → Option (List ℕ)) (i : List ℕ) (mark : ℤ → Option RuleMark) (r : ℤ) (o : Outcome) → IsRow r → IsReady o (mark r) → RulesStand f i mark → RulesStand (view (outcome_changes i r o) f) i (with_mark r (Some (Settled o)) mark)
settles f i mark r (Taken q) row (Free is) stand = taken f i mark r q row (ap fault_value is) (λ a h. let wrong : false ≡ true = sym (ap (λ (m : Option RuleMark). is_one_of (mark_anchors m) a) is) ∙ h in cc) stand
settles f i mark r (Taken q) row (Waits is) stand = taken f i mark r q row (ap fault_value is) (λ a h. let wrong : false ≡ true = sym (ap (λ (m : Option RuleMark). is_one_of (mark_anchors m) a) is) ∙ h in cc) stand
settles f i mark r (Taken q) row (Has is) stand = taken f i mark r q row (ap fault_value is) (λ a h. sym (ap (λ (m : Option RuleMark). is_one_of (mark_anchors m) a) is) ∙ h) stand
settles f i mark r (Faulty text) row (Free is) stand = failed f i mark r text row (ap query_value is) (ap mark_anchors is) stand
settles f i mark r (Faulty text) row (Waits is) stand = failed f i mark r text row (ap query_value is) (ap mark_anchors is) stand
settles f i mark r (Faulty text) row (Has is) stand = failed f i mark r text row (ap query_value is) (ap mark_anchors is) stand

-- ---- all entries of rows together

-- with other marks that are the same
pub same_marks : (f : Key → Option (List ℕ)) (i : List ℕ) (mark other : ℤ → Option RuleMark) → ((s : ℤ) → mark s ≡ other s) → MarksStand f i mark → MarksStand f i other
same_marks f i mark other same stand = subst (MarksStand f i) (λ j s. same s j) stand

queue_after_loss : (f : Key → Option (List ℕ)) (i : List ℕ) (mark : ℤ → Option RuleMark) (r : ℤ) (anchors : List (List ℕ)) → QueueStands f i mark → QueueStands (view (lost_changes i r anchors) f) i mark
queue_after_loss f i mark r anchors stand = record { queue = λ s fits. others_told None i r anchors kind.Pending (row_part s) (λ b. refl) (f (key kind.Pending i (row_part s))) ∙ stand.queue s fits }

rules_after_queue : (f : Key → Option (List ℕ)) (i : List ℕ) (mark : ℤ → Option RuleMark) (r : ℤ) (v : Option (List ℕ)) → RulesStand f i mark → RulesStand (view ((key kind.Pending i (row_part r), v) ∷ []) f) i mark
rules_after_queue f i mark r v stand = record { queries = λ s fits. stand.queries s fits; anchors = λ a s short fits. stand.anchors a s short fits; faults = λ s fits. stand.faults s fits }

pub queue_after_outcome : (f : Key → Option (List ℕ)) (i : List ℕ) (mark : ℤ → Option RuleMark) (r : ℤ) (o : Outcome) → QueueStands f i mark → QueueStands (view (outcome_changes i r o) f) i mark
queue_after_outcome f i mark r (Taken q) stand = record { queue = λ s fits. others_told (Some []) i r (query_anchors q) kind.Pending (row_part s) (λ b. refl) (f (key kind.Pending i (row_part s))) ∙ stand.queue s fits }
queue_after_outcome f i mark r (Faulty text) stand = record { queue = λ s fits. stand.queue s fits }

-- ---- a row comes, is set, or goes

pub new_stands : (f : Key → Option (List ℕ)) (i : List ℕ) (mark : ℤ → Option RuleMark) (r : ℤ) → IsRow r → mark r ≡ None → MarksStand f i mark → MarksStand (view (queue_changes i r) f) i (with_mark r (Some Pending) mark)
new_stands f i mark r row free stand = record { rules = with_none (view (queue_changes i r) f) (rules_after_queue f i mark r (Some []) stand.rules); waits = queued f i mark r row stand.waits }
  where
    with_none : (g : Key → Option (List ℕ)) → RulesStand g i mark → RulesStand g i (with_mark r (Some Pending) mark)
    with_none g stand = record {
      queries = λ s fits. stand.queries s fits ∙ unmoved query_value (Some Pending) mark r s (ap query_value free);
      anchors = λ a s short fits. stand.anchors a s short fits ∙ unmoved (λ m. anchor_value m a) (Some Pending) mark r s (ap (λ (m : Option RuleMark). anchor_value m a) free);
      faults = λ s fits. stand.faults s fits ∙ unmoved fault_value (Some Pending) mark r s (ap fault_value free);
    }

pub set_stands : (f : Key → Option (List ℕ)) (i : List ℕ) (mark : ℤ → Option RuleMark) (r : ℤ) → IsRow r → MarksStand f i mark
    → MarksStand (view (set_changes i r (mark_anchors (mark r))) f) i (with_mark r (Some Pending) mark)
set_stands f i mark r row stand =
    let anchors = mark_anchors (mark r) in
    let g = view (lost_changes i r anchors) f in
    subst (λ (h : Key → Option (List ℕ)). MarksStand h i (with_mark r (Some Pending) mark)) (sym (view-append (lost_changes i r anchors) (queue_changes i r) f)) (record {
      rules = rules_after_queue g i (with_mark r (Some Pending) mark) r (Some []) (lost f i mark r (Some Pending) refl refl refl row stand.rules);
      waits = queued g i mark r row (queue_after_loss f i mark r anchors stand.waits);
    })

pub gone_stands : (f : Key → Option (List ℕ)) (i : List ℕ) (mark : ℤ → Option RuleMark) (r : ℤ) → IsRow r → MarksStand f i mark
    → MarksStand (view (gone_changes i r (mark_anchors (mark r))) f) i (with_mark r None mark)
gone_stands f i mark r row stand =
    let anchors = mark_anchors (mark r) in
    let g = view (lost_changes i r anchors) f in
    subst (λ (h : Key → Option (List ℕ)). MarksStand h i (with_mark r None mark)) (sym (view-append (lost_changes i r anchors) (unqueue_changes i r) f)) (record {
      rules = rules_after_queue g i (with_mark r None mark) r None (lost f i mark r None refl refl refl row stand.rules);
      waits = unqueued g i mark r None refl row (queue_after_loss f i mark r anchors stand.waits);
    })

-- ---- synchronisation

settled_step : (f : Key → Option (List ℕ)) (i : List ℕ) (outcome : ℤ → Outcome) (mark : ℤ → Option RuleMark) (r : ℤ) → IsRow r → IsReady (outcome r) (mark r) → MarksStand f i mark
    → MarksStand (view (settle_changes i outcome r) f) i (with_mark r (Some (Settled (outcome r))) mark)
settled_step f i outcome mark r row ready stand =
    let m : Option RuleMark = Some (Settled (outcome r)) in
    let g = view (unqueue_changes i r) f in
    subst (λ (h : Key → Option (List ℕ)). MarksStand h i (with_mark r m mark)) (sym (view-append (unqueue_changes i r) (outcome_changes i r (outcome r)) f)) (record {
      rules = settles g i mark r (outcome r) row ready (rules_after_queue f i mark r None stand.rules);
      waits = queue_after_outcome g i (with_mark r m mark) r (outcome r) (unqueued f i mark r m refl row stand.waits);
    })

abbrev pub settled_in : (ℤ → Outcome) → List ℤ → (ℤ → Option RuleMark) → ℤ → Option RuleMark
settled_in outcome [] mark = mark
settled_in outcome (r ∷ rs) mark = settled_in outcome rs (with_mark r (Some (Settled (outcome r))) mark)

-- what a row has then
pub settled_at : (outcome : ℤ → Outcome) (rows : List ℤ) (mark : ℤ → Option RuleMark) (s : ℤ) → settled_in outcome rows mark s ≡ cond (list_any (int_eq s) rows) (Some (Settled (outcome s))) (mark s)
settled_at outcome [] mark s = refl
settled_at outcome (r ∷ rs) mark s = settled_at outcome rs (with_mark r (Some (Settled (outcome r))) mark) s ∙ go (int_eq s r) refl (list_any (int_eq s) rs)
  where
    go : (b : Bool) → int_eq s r ≡ b → (t : Bool) → cond t (Some (Settled (outcome s))) (cond b (Some (Settled (outcome r))) (mark s)) ≡ cond (b || t) (Some (Settled (outcome s))) (mark s)
    go true h true = refl
    go true h false = ap (λ (x : ℤ). Some (Settled (outcome x))) (sym (int_from_eq s r h))
    go false h t = refl

-- each of the rows has a key of a row, and may get its outcome
abbrev AreReady : (ℤ → Outcome) → (ℤ → Option RuleMark) → List ℤ → Type 0
AreReady outcome mark rows = (s : ℤ) → list_any (int_eq s) rows ≡ true → IsRow s × IsReady (outcome s) (mark s)

ready_on : (outcome : ℤ → Outcome) (mark : ℤ → Option RuleMark) (r : ℤ) (rs : List ℤ) → AreReady outcome mark (r ∷ rs) → AreReady outcome (with_mark r (Some (Settled (outcome r))) mark) rs
ready_on outcome mark r rs ready s there = (here.0, go (int_eq s r) refl here.1)
  where
    here : IsRow s × IsReady (outcome s) (mark s)
    here = ready s (or_right (int_eq s r) (list_any (int_eq s) rs) there)

    go : (b : Bool) → int_eq s r ≡ b → IsReady (outcome s) (mark s) → IsReady (outcome s) (cond b (Some (Settled (outcome r))) (mark s))
    go true h was = Has (ap (λ (x : ℤ). Some (Settled (outcome x))) (sym (int_from_eq s r h)))
    go false h was = was

settled_each : (f : Key → Option (List ℕ)) (i : List ℕ) (outcome : ℤ → Outcome) (rows : List ℤ) (mark : ℤ → Option RuleMark) → AreReady outcome mark rows → MarksStand f i mark
    → MarksStand (view (settle_each_changes i outcome rows) f) i (settled_in outcome rows mark)
settled_each f i outcome [] mark ready stand = stand
settled_each f i outcome (r ∷ rs) mark ready stand =
    let here = ready r (or_left (int_eq r r) (list_any (int_eq r) rs) (int_same r)) in
    let one = settled_step f i outcome mark r here.0 here.1 stand in
    let rest = settled_each (view (settle_changes i outcome r) f) i outcome rs (with_mark r (Some (Settled (outcome r))) mark) (ready_on outcome mark r rs ready) one in
    subst (λ (h : Key → Option (List ℕ)). MarksStand h i (settled_in outcome (r ∷ rs) mark)) (sym (view-append (settle_changes i outcome r) (settle_each_changes i outcome rs) f)) rest

-- the rows that wait are those whose mark says so
waits_where : (b : RuleBody) (s : ℤ) → list_any (int_eq s) (waiting b) ≡ is_some (option_and_then if_waiting (get b.marks s))
waits_where b s = has_key int_cmp int_cmp_total if_waiting b.marks s

waiting_ready : (b : RuleBody) (outcome : ℤ → Outcome) → ((s : ℤ) → is_some (get b.marks s) ≡ true → IsRow s) → AreReady outcome (get b.marks) (waiting b)
waiting_ready b outcome row s there = go (get b.marks s) refl (sym (waits_where b s) ∙ there)
  where
    go : (o : Option RuleMark) → get b.marks s ≡ o → is_some (option_and_then if_waiting o) ≡ true → IsRow s × IsReady (outcome s) (get b.marks s)
    go None e h = cc
    go (Some Pending) e h = (row s (ap is_some e), Waits e)
    go (Some (Settled o)) e h = cc

pub settled_marks : (b : RuleBody) (outcome : ℤ → Outcome) (s : ℤ) → option_map (settled outcome s) (get b.marks s) ≡ get (all_settled outcome b).marks s
settled_marks b outcome s = sym (get-each_at int_cmp_total int_cmp-IsAntisymmetric (settled outcome) b.marks s)

pub synced_stands : (f : Key → Option (List ℕ)) (i : List ℕ) (outcome : ℤ → Outcome) (b : RuleBody) → ((s : ℤ) → is_some (get b.marks s) ≡ true → IsRow s) → MarksStand f i (get b.marks)
    → MarksStand (view (settle_each_changes i outcome (waiting b)) f) i (get (all_settled outcome b).marks)
synced_stands f i outcome b row stand =
    same_marks (view (settle_each_changes i outcome (waiting b)) f) i (settled_in outcome (waiting b) (get b.marks)) (get (all_settled outcome b).marks) same
    (settled_each f i outcome (waiting b) (get b.marks) (waiting_ready b outcome row) stand)
  where
    go : (s : ℤ) (o : Option RuleMark) → cond (is_some (option_and_then if_waiting o)) (Some (Settled (outcome s))) o ≡ option_map (settled outcome s) o
    go s None = refl
    go s (Some Pending) = refl
    go s (Some (Settled o)) = refl

    same : (s : ℤ) → settled_in outcome (waiting b) (get b.marks) s ≡ get (all_settled outcome b).marks s
    same s =
        settled_at outcome (waiting b) (get b.marks) s
        ∙ ap (λ (t : Bool). cond t (Some (Settled (outcome s))) (get b.marks s)) (waits_where b s)
        ∙ go s (get b.marks s)
        ∙ settled_marks b outcome s
