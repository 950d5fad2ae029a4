-- Documents that come one after the other keep the rows of each term those of a posting list.
use Rattle.std.specs.Prelude.{ℕ, ◌≡◌, ◌<◌, ◌^◌, nat_le, Bool, true, false, cond, List, [], ◌∷◌, ◌++◌, Option, Some, None, refl}
use Rattle.std.specs.Bool.{if◌then◌else◌}
use Rattle.std.specs.Ordering.{nat_cmp}
use Rattle.std.specs.Cmp.Lexicographic.{slice_cmp}
use Rattle.std.specs.FinMap.{get, empty, get-empty}
use Rattle.std.proofs.Common.{sym, ap, subst, ◌∙◌, inl, inr}
use Rattle.std.proofs.lemmas.Bool.{leb-false, lt-leb}
use Rattle.ct_entry.specs.Keys.{same_list}
use Rattle.ct_entry.specs.laws.Keys.{list_from_same}
use Rattle.ct_entry.specs.laws.Lists.{in_either}
use Rattle.ct_entry.specs.laws.Maps.{get_name-insert}
use Rattle.ix_rows.specs.Taking.{last_number}
use Rattle.ix_rows.specs.Posts.{Rises}
use Rattle.ix_rows.specs.Growing.{Growing, nothing_yet, with_grown_document, grown_all, with_last_document, with_room}
use Rattle.ix_rows.specs.RowMaps.{TermRowsView, or_nothing, growing_at, with_posting}
use Rattle.ix_rows.specs.GrowingLists.{IsGrown, AreGrown}

module _ {D : Type 0} (number : D → ℕ) (places : D → List ℕ) where
  grown_all-append : (g : Growing) (xs : List D) (x : D) → grown_all number places g (xs ++ x ∷ []) ≡ with_grown_document (grown_all number places g xs) (number x) (places x)
  grown_all-append g [] x = refl
  grown_all-append g (y ∷ ys) x = grown_all-append (with_grown_document g (number y) (places y)) ys x

  -- the last document that came
  last_came : (g : Growing) (xs : List D) → Rises number g.last xs → (grown_all number places g xs).last ≡ last_number number g.last xs
  last_came g [] up = refl
  last_came g (x ∷ xs) up =
      let now : (with_grown_document g (number x) (places x)).last ≡ number x = ap (λ (b : Bool). (if b then g else with_last_document (with_room g (number x) (places x)) (number x) (places x)).last) (lt-leb (number x) g.last up.0) in
      last_came (with_grown_document g (number x) (places x)) xs (subst (λ (n : ℕ). Rises number n xs) (sym now) up.2) ∙ ap (λ (n : ℕ). last_number number n xs) now

  rises-behind : (before : ℕ) (xs : List D) (x : D) → Rises number before xs → last_number number before xs < number x → number x < 2 ^ 32 → Rises number before (xs ++ x ∷ [])
  rises-behind before [] x up more small = (more, small, tt)
  rises-behind before (y ∷ ys) x up more small = (up.0, up.1, rises-behind (number y) ys x up.2 more small)

  module _ (IsTerm : List ℕ → Type 0) (IsGood : D → Type 0) where
    abbrev Is : List ℕ → Growing → Type 0
    Is = IsGrown number places IsTerm IsGood

    -- one document more
    is_grown_more : (t : List ℕ) (g : Growing) (x : D) → Is t g → IsGood x → number x < 2 ^ 32 → Is t (with_grown_document g (number x) (places x))
    is_grown_more t g x is good small = go (nat_le (number x) g.last) refl
      where
        go : (b : Bool) → nat_le (number x) g.last ≡ b → Is t (if b then g else with_last_document (with_room g (number x) (places x)) (number x) (places x))
        go true e = is
        go false e =
            let last : g.last ≡ last_number number 0 is.list = ap (λ (h : Growing). h.last) is.same ∙ last_came nothing_yet is.list is.rises in
            let more : last_number number 0 is.list < number x = subst (λ (n : ℕ). n < number x) last (leb-false (number x) g.last e) in
            record {
              term = is.term;
              list = is.list ++ x ∷ [];
              same =
                  ap (λ (b : Bool). if b then g else with_last_document (with_room g (number x) (places x)) (number x) (places x)) (sym e)
                  ∙ ap (λ (h : Growing). with_grown_document h (number x) (places x)) is.same ∙ sym (grown_all-append nothing_yet is.list x);
              rises = rises-behind 0 is.list x is.rises more small;
              good = λ y h. elim (in_either y is.list (x ∷ []) h) [ inl a ↦ is.good y a | inr b ↦ elim b [ inl same ↦ subst IsGood (sym same) good | inr none ↦ absurd none ] ];
            }

    pub none_grown : AreGrown number places IsTerm IsGood empty
    none_grown t g is = let wrong : None ≡ Some g = sym (get-empty (slice_cmp nat_cmp) t) ∙ is in cc

    -- A DOCUMENT COMES to a term
    pub are_grown_more : (m : TermRowsView) (t : List ℕ) (x : D) → AreGrown number places IsTerm IsGood m → IsTerm t → IsGood x → number x < 2 ^ 32
        → AreGrown number places IsTerm IsGood (with_posting m t (number x) (places x))
    are_grown_more m t x are term good small u h is = go (same_list u t) refl (sym (get_name-insert m t (with_grown_document (growing_at m t) (number x) (places x)) u) ∙ is)
      where
        begins : (o : Option Growing) → get m t ≡ o → Is t (or_nothing o)
        begins None none = record { term = term; list = []; same = refl; rises = tt; good = λ y i. absurd i }
        begins (Some g) some = are t g some

        go : (b : Bool) → same_list u t ≡ b → cond b (Some (with_grown_document (growing_at m t) (number x) (places x))) (get m u) ≡ Some h → Is u h
        go true e has =
            let same : with_grown_document (growing_at m t) (number x) (places x) ≡ h = cc in
            subst (Is u) same (subst (λ (v : List ℕ). Is v (with_grown_document (growing_at m t) (number x) (places x))) (sym (list_from_same u t e)) (is_grown_more t (growing_at m t) x (begins (get m t) refl) good small))
        go false e has = are u h has
