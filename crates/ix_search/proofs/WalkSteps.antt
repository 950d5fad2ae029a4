-- The steps of scoring rows by the documents of a cursor.
use Rattle.std.proofs.Common.{ℕ, ℤ, ◌≡◌, ◌+◌, ◌<◌, ◌≤◌, ◌^◌, ◌⊎◌, inl, inr, Bool, true, false, cond, Option, Some, None, refl, sym, ap, subst, ◌∙◌, arith}
use Rattle.std.specs.Prelude.{nat_lt}
use Rattle.std.specs.Ordering.{int_cmp, int_eq}
use Rattle.std.specs.FinMap.{get, empty, get-empty}
use Rattle.std.proofs.lemmas.Bool.{cases_lt, lt-ltb, ltb-true}
use Rattle.ct_base.specs.declared.numbers.DocId.{DocId}
use Rattle.ct_entry.specs.Maps.{Rows}
use Rattle.ct_entry.specs.laws.Maps.{get_row-insert}
use Rattle.ct_entry.specs.laws.Parts.{int_from_eq, int_same}
use Rattle.ix_cursor.specs.Cursors.{IsFirstScored, from_found, score_found}
use Rattle.ix_search.specs.Walking.{if_some, with_score, AreOneToOne, AreScoresBefore, AreScores}

module _ (row : ℕ → Option ℤ) (score : ℕ → ℕ) where
  -- before the first document
  pub scores_begin : (scores : Rows ℕ) → scores ≡ empty → AreScoresBefore row score 0 scores
  scores_begin scores none = record {
    rows = λ d r before at. absurd (omega (arith, before));
    others = λ r other. ap (λ (m : Rows ℕ). get m r) none ∙ get-empty int_cmp r;
  }

  module _ (one : AreOneToOne row) (to : ℕ) (scores : Rows ℕ) (far : AreScoresBefore row score to scores) where
    -- documents without a score may be passed
    pub scores_pass : (next : ℕ) → to ≤ next → next ≤ 2 ^ 32 → ((d : ℕ) → to ≤ d → d < next → score d ≡ 0) → AreScoresBefore row score next scores
    scores_pass next le room none = record {
      rows = λ d r before at. by_place d r before at (cases_lt d to);
      others = λ r other. far.others r (λ d before at. other d (omega (arith, before, le)) at);
    }
      where
        by_place : (d : ℕ) (r : ℤ) → d < next → row d ≡ Some r → (d < to) ⊎ (to ≤ d) → get scores r ≡ if_some (score d)
        by_place d r before at (inl early) = far.rows d r early at
        by_place d r before at (inr late) =
            far.others r (λ e early there. let same = one e d r (omega (arith, early, le, room)) (omega (arith, before, room)) there at in omega (arith, same, early, late))
            ∙ sym (ap if_some (none d late before))

    -- and the next document be scored
    pub scores_next : to < 2 ^ 32 → 0 < score to → AreScoresBefore row score (to + 1) (with_score (row to) (score to) scores)
    scores_next room above = record {
      rows = λ d r before at. by_place d r at (cases_lt d to) before;
      others = λ r other. apart r (λ there. other to (omega arith) there) (row to) refl ∙ far.others r (λ d before at. other d (omega (arith, before)) at);
    }
      where
        -- a score of another row, or of none, leaves this one's
        apart : (r : ℤ) → (row to ≡ Some r → ⊥) → (p : Option ℤ) → row to ≡ p → get (with_score p (score to) scores) r ≡ get scores r
        apart r other None at = refl
        apart r other (Some s) at = get_row-insert scores s (score to) r ∙ go (int_eq r s) refl
          where
            go : (b : Bool) → int_eq r s ≡ b → cond b (Some (score to)) (get scores r) ≡ get scores r
            go true h = absurd (other (at ∙ ap (λ (z : ℤ). Some z) (sym (int_from_eq r s h))))
            go false h = refl

        its_own : (r : ℤ) → row to ≡ Some r → get (with_score (row to) (score to) scores) r ≡ if_some (score to)
        its_own r at =
            ap (λ (o : Option ℤ). get (with_score o (score to) scores) r) at
            ∙ get_row-insert scores r (score to) r
            ∙ ap (λ (b : Bool). cond b (Some (score to)) (get scores r)) (int_same r)
            ∙ sym (ap (λ (b : Bool). cond b (Some (score to)) None) (lt-ltb 0 (score to) above))

        by_place : (d : ℕ) (r : ℤ) → row d ≡ Some r → (d < to) ⊎ (to ≤ d) → d < to + 1 → get (with_score (row to) (score to) scores) r ≡ if_some (score d)
        by_place d r at (inl early) before =
            apart r (λ there. let same = one to d r room (omega (arith, early, room)) there at in omega (arith, same, early)) (row to) refl ∙ far.rows d r early at
        by_place d r at (inr late) before =
            let same : to ≡ d = omega (arith, late, before) in
            its_own r (ap row same ∙ at) ∙ ap (λ (n : ℕ). if_some (score n)) same

-- one step of the walk, by what the cursor found and what the call made of the scores
pub step : (row : ℕ → Option ℤ) (score left : ℕ → ℕ) (to x found : ℕ) (scores next : Rows ℕ) → AreOneToOne row → AreScoresBefore row score to scores
    → ((d : ℕ) → to ≤ d → d < 2 ^ 32 → left d ≡ score d) → to ≤ x → x < 2 ^ 32 → 0 < left x → ((d : ℕ) → to ≤ d → d < x → left d ≡ 0)
    → found ≡ left x → next ≡ with_score (row x) found scores → AreScoresBefore row score (x + 1) next
step row score left to x found scores next one far same le room above none is made =
    let here : left x ≡ score x = same x le room in
    subst (AreScoresBefore row score (x + 1)) (sym (made ∙ ap (λ (n : ℕ). with_score (row x) n scores) (is ∙ here)))
    (scores_next row score one x scores
    (scores_pass row score one to scores far x le (omega (arith, room)) (λ d late before. sym (same d late (omega (arith, before, room))) ∙ none d late before))
    room (subst (λ (n : ℕ). 0 < n) here above))

-- and the last one
pub last : (row : ℕ → Option ℤ) (score left : ℕ → ℕ) (to : ℕ) (scores : Rows ℕ) → AreOneToOne row → AreScoresBefore row score to scores
    → ((d : ℕ) → to ≤ d → d < 2 ^ 32 → left d ≡ score d) → to ≤ 2 ^ 32 → ((d : ℕ) → d < 2 ^ 32 → to ≤ d → left d ≡ 0) → AreScores row score scores
last row score left to scores one far same room none =
    scores_pass row score one to scores far (2 ^ 32) room (omega arith) (λ d late before. sym (same d late before) ∙ none d before late)

-- ---- by what the cursor found

pub first_after : (left : ℕ → ℕ) (to : ℕ) (found : Option DocId) (x : DocId) → found ≡ Some x → IsFirstScored left to found → to ≤ x.0
first_after left to found x is first = (subst (IsFirstScored left to) is first).0

pub left_on : (left next : ℕ → ℕ) (found : Option DocId) (x : DocId) → found ≡ Some x → ((d : ℕ) → d < 2 ^ 32 → next d ≡ from_found found left d) → (d : ℕ) → x.0 + 1 ≤ d → d < 2 ^ 32 → next d ≡ left d
left_on left next found x is on d late low = on d low ∙ ap (λ (o : Option DocId). from_found o left d) is ∙ go (nat_lt d x.0) refl
  where
    go : (b : Bool) → nat_lt d x.0 ≡ b → cond b 0 (left d) ≡ left d
    go true h = let before = ltb-true d x.0 h in absurd (omega (arith, before, late))
    go false h = refl

pub found_step : (row : ℕ → Option ℤ) (score left : ℕ → ℕ) (to : ℕ) (found : Option DocId) (x : DocId) (given : ℕ) (scores next : Rows ℕ) → found ≡ Some x → IsFirstScored left to found → AreOneToOne row → AreScoresBefore row score to scores
    → ((d : ℕ) → to ≤ d → d < 2 ^ 32 → left d ≡ score d) → given ≡ score_found found left → x.0 < 2 ^ 32 → next ≡ with_score (row x.0) given scores → AreScoresBefore row score (x.0 + 1) next
found_step row score left to found x given scores next is first one far same has room made =
    let f : IsFirstScored left to (Some x) = subst (IsFirstScored left to) is first in
    step row score left to x.0 given scores next one far same f.0 room f.1 f.2 (has ∙ ap (λ (o : Option DocId). score_found o left) is) made

pub found_last : (row : ℕ → Option ℤ) (score left : ℕ → ℕ) (to : ℕ) (found : Option DocId) (scores : Rows ℕ) → found ≡ None → IsFirstScored left to found → AreOneToOne row → AreScoresBefore row score to scores
    → ((d : ℕ) → to ≤ d → d < 2 ^ 32 → left d ≡ score d) → to ≤ 2 ^ 32 → AreScores row score scores
found_last row score left to found scores is first one far same room = last row score left to scores one far same room (subst (IsFirstScored left to) is first)
