-- What a new rule index makes of its entries.
use Rattle.std.specs.Prelude.{ℕ, ℤ, ◌≡◌, ◌⊎◌, Bool, true, false, cond, ◌||◌, List, [], ◌∷◌, map, Option, Some, None, refl}
use Rattle.std.specs.List.{list_any}
use Rattle.std.specs.FinMap.{find, get, get-from_entries}
use Rattle.std.specs.Ordering.{int_cmp, int_eq}
use Rattle.std.proofs.Common.{sym, ap, ◌∙◌, subst, inl, inr}
use Rattle.std.proofs.lemmas.Cmp.{int_cmp_total}
use Rattle.ct_entry.specs.Keys.{Key, IsRow}
use Rattle.ct_entry.specs.Changes.{view}
use Rattle.ct_entry.specs.laws.Changes.{view-append}
use Rattle.ct_entry.specs.laws.Parts.{int_from_eq, int_same}
use Rattle.ix_docmap.specs.Marks.{Settled}
use Rattle.rule_index.specs.Outcomes.{Outcome}
use Rattle.rule_index.specs.RuleIndexes.{RuleMark, new_rules}
use Rattle.rule_index.specs.Spelling.{queue_value}
use Rattle.rule_index.specs.Changes.{come_changes, outcome_changes}
use Rattle.rule_index.specs.Standing.{MarksStand}
use Rattle.rule_index.specs.laws.Marks.{Free, Has, IsReady, or_left, or_right, queue_after_outcome, same_marks, settled_at, settled_in, settles, unmoved, with_mark}

-- a row that is no row of the index yet, or has this outcome already
abbrev IsFree : Outcome → Option RuleMark → Type 0
IsFree o m = (m ≡ None) ⊎ (m ≡ Some (Settled o))

is_ready : (o : Outcome) (m : Option RuleMark) → IsFree o m → IsReady o m
is_ready o m (inl is) = Free is
is_ready o m (inr is) = Has is

waits_not : (o : Outcome) (m : Option RuleMark) → IsFree o m → queue_value m ≡ None
waits_not o m (inl is) = ap queue_value is
waits_not o m (inr is) = ap queue_value is

abbrev AreFree : (ℤ → Outcome) → (ℤ → Option RuleMark) → List ℤ → Type 0
AreFree outcome mark rows = (s : ℤ) → list_any (int_eq s) rows ≡ true → IsRow s × IsFree (outcome s) (mark s)

free_on : (outcome : ℤ → Outcome) (mark : ℤ → Option RuleMark) (r : ℤ) (rs : List ℤ) → AreFree outcome mark (r ∷ rs) → AreFree outcome (with_mark r (Some (Settled (outcome r))) mark) rs
free_on outcome mark r rs free s there =
    let here = free s (or_right (int_eq s r) (list_any (int_eq s) rs) there) in
    (here.0, go (int_eq s r) refl here.1)
  where
    go : (b : Bool) → int_eq s r ≡ b → IsFree (outcome s) (mark s) → IsFree (outcome s) (cond b (Some (Settled (outcome r))) (mark s))
    go true h was = inr (ap (λ (x : ℤ). Some (Settled (outcome x))) (sym (int_from_eq s r h)))
    go false h was = was

made_step : (f : Key → Option (List ℕ)) (i : List ℕ) (outcome : ℤ → Outcome) (mark : ℤ → Option RuleMark) (r : ℤ) → IsRow r → IsFree (outcome r) (mark r) → MarksStand f i mark
    → MarksStand (view (outcome_changes i r (outcome r)) f) i (with_mark r (Some (Settled (outcome r))) mark)
made_step f i outcome mark r row free stand = record {
  rules = settles f i mark r (outcome r) row (is_ready (outcome r) (mark r) free) stand.rules;
  waits = queue_after_outcome f i (with_mark r (Some (Settled (outcome r))) mark) r (outcome r)
      (record { queue = λ s fits. stand.waits.queue s fits ∙ unmoved queue_value (Some (Settled (outcome r))) mark r s (waits_not (outcome r) (mark r) free) });
}

made_each : (f : Key → Option (List ℕ)) (i : List ℕ) (outcome : ℤ → Outcome) (rows : List ℤ) (mark : ℤ → Option RuleMark) → AreFree outcome mark rows → MarksStand f i mark
    → MarksStand (view (come_changes i outcome rows) f) i (settled_in outcome rows mark)
made_each f i outcome [] mark free stand = stand
made_each f i outcome (r ∷ rs) mark free stand =
    let here = free r (or_left (int_eq r r) (list_any (int_eq r) rs) (int_same r)) in
    let one = made_step f i outcome mark r here.0 here.1 stand in
    let rest = made_each (view (outcome_changes i r (outcome r)) f) i outcome rs (with_mark r (Some (Settled (outcome r))) mark) (free_on outcome mark r rs free) one in
    subst (λ (h : Key → Option (List ℕ)). MarksStand h i (settled_in outcome (r ∷ rs) mark)) (sym (view-append (outcome_changes i r (outcome r)) (come_changes i outcome rs) f)) rest

-- no row has a mark yet
abbrev pub no_marks : ℤ → Option RuleMark
no_marks r = None

found_row : (outcome : ℤ → Outcome) (rows : List ℤ) (s : ℤ) → find int_cmp s (map (λ r. (r, Settled (outcome r))) rows) ≡ cond (list_any (int_eq s) rows) (Some (Settled (outcome s))) None
found_row outcome [] s = refl
found_row outcome (r ∷ rs) s = go (int_eq s r) refl (found_row outcome rs s)
  where
    go : (b : Bool) → int_eq s r ≡ b → find int_cmp s (map (λ r. (r, Settled (outcome r))) rs) ≡ cond (list_any (int_eq s) rs) (Some (Settled (outcome s))) None
        → cond b (Some (Settled (outcome r))) (find int_cmp s (map (λ r. (r, Settled (outcome r))) rs)) ≡ cond (b || list_any (int_eq s) rs) (Some (Settled (outcome s))) None
    go true h rest = ap (λ (x : ℤ). Some (Settled (outcome x))) (sym (int_from_eq s r h))
    go false h rest = rest

-- what a row of a new index has
pub new_mark : (outcome : ℤ → Outcome) (rows : List ℤ) (s : ℤ) → get (new_rules outcome rows).marks s ≡ cond (list_any (int_eq s) rows) (Some (Settled (outcome s))) None
new_mark outcome rows s = get-from_entries int_cmp_total (map (λ r. (r, Settled (outcome r))) rows) s ∙ found_row outcome rows s

pub created_stands : (f : Key → Option (List ℕ)) (i : List ℕ) (outcome : ℤ → Outcome) (rows : List ℤ) → ((s : ℤ) → list_any (int_eq s) rows ≡ true → IsRow s) → MarksStand f i no_marks
    → MarksStand (view (come_changes i outcome rows) f) i (get (new_rules outcome rows).marks)
created_stands f i outcome rows row stand =
    same_marks (view (come_changes i outcome rows) f) i (settled_in outcome rows no_marks) (get (new_rules outcome rows).marks) (λ s. settled_at outcome rows no_marks s ∙ sym (new_mark outcome rows s))
    (made_each f i outcome rows no_marks (λ s there. (row s there, inl refl)) stand)
