-- Steps of a walk over the terms of an index.
use Rattle.std.proofs.Common.{◌≡◌, ℕ, zero, suc, Bool, false, List, [], ◌∷◌, ◌++◌, take, drop, Option, Some, None, MatchOption, refl, sym, ap, subst, ◌∙◌, append_assoc, append-nil}
use Rattle.std.specs.Prelude.{is_some}
use Rattle.ct_keep.specs.Content.{Content}
use Rattle.ct_entry.specs.Keys.{HasKeysOnly}
use Rattle.ct_entry.specs.Changes.{spell}
use Rattle.ct_entry.specs.Each.{each}
use Rattle.ct_entry.specs.laws.Changes.{spell-append}
use Rattle.ix_repack.specs.declared.terms.Term.{Term}
use Rattle.ix_repack.specs.declared.terms.Term.TheVariants.{Word, Section}
use Rattle.ix_repack.specs.Terms.{all_terms, terms_from, IsTermOrStart, next_stored}
use Rattle.ix_repack.specs.Repacking.{stays, IndexRows, HasIndexRows, HasTermRows, term_changes}
use Rattle.ix_repack.specs.Walking.{handled_terms, last_term, has_some, has_more, AreRepacked}
use Rattle.ix_repack.specs.laws.Terms.{next_begins}

-- none of none
abbrev no_terms : List Term
no_terms = []

take_none : (n : ℕ) → take n no_terms ≡ no_terms
take_none zero = refl
take_none (suc n) = refl

drop_none : (n : ℕ) → drop n no_terms ≡ no_terms
drop_none zero = refl
drop_none (suc n) = refl

-- the rows of a term are among those of the index
pub rows_of_term : (m : Content) (i : List ℕ) (rows : IndexRows) → HasIndexRows m i rows → (t : Term) → IsTermOrStart (Some t) → HasTermRows m i rows t
rows_of_term m i rows has (Word t) is = has.words t is
rows_of_term m i rows has (Section t) is = has.sections t is

module _ (m : Content) (mapped : Bool) (i : List ℕ) (rows : IndexRows) where
  -- So many terms at most are left behind a place: with their changes all is added, and it is known which is the last, and whether there are more behind it.
  pub record TermsLeft (whole : List (List ℕ × Option (List ℕ))) (last : Option Term) (more : Bool) (batch : List (List ℕ × Option (List ℕ))) (place : Option Term) (n : ℕ) : Type 0 where
    pub is : IsTermOrStart place
    pub all : batch ++ spell (each (term_changes i (stays mapped m i) rows) (handled_terms n place (all_terms i m))) ≡ whole
    pub end : last_term place (handled_terms n place (all_terms i m)) ≡ last
    pub behind : has_more n place (all_terms i m) ≡ more

  -- where all terms are left
  abbrev pub LeftOf : List (List ℕ × Option (List ℕ)) → Option Term → ℕ → List (List ℕ × Option (List ℕ)) → Option Term → ℕ → Type 0
  LeftOf old start most =
      TermsLeft (old ++ spell (each (term_changes i (stays mapped m i) rows) (handled_terms most start (all_terms i m)))) (last_term start (handled_terms most start (all_terms i m))) (has_more most start (all_terms i m))

  pub all_left : (old : List (List ℕ × Option (List ℕ))) (start : Option Term) (most : ℕ) → IsTermOrStart start → LeftOf old start most old start most
  all_left old start most is = record { is = is; all = refl; end = refl; behind = refl }

  module _ (only : HasKeysOnly m) where
    begins : (place : Option Term) → IsTermOrStart place → (o : Option Term) → next_stored i place m ≡ o
        → MatchOption o (terms_from place (all_terms i m) ≡ []) (λ t. IsTermOrStart (Some t) × (terms_from place (all_terms i m) ≡ t ∷ terms_from (Some t) (all_terms i m)))
    begins place is o e =
        subst (λ (o : Option Term). MatchOption o (terms_from place (all_terms i m) ≡ []) (λ t. IsTermOrStart (Some t) × (terms_from place (all_terms i m) ≡ t ∷ terms_from (Some t) (all_terms i m)))) e
        (next_begins m only i place is)

    pub next_is_term : (place : Option Term) → IsTermOrStart place → (t : Term) → next_stored i place m ≡ Some t → IsTermOrStart (Some t)
    next_is_term place is t next = (begins place is (Some t) next).0

    pub next_proper : (place : Option Term) → IsTermOrStart place → IsTermOrStart (next_stored i place m)
    next_proper place is = go (next_stored i place m) (next_begins m only i place is)
      where
        go : (o : Option Term) → MatchOption o (terms_from place (all_terms i m) ≡ []) (λ t. IsTermOrStart (Some t) × (terms_from place (all_terms i m) ≡ t ∷ terms_from (Some t) (all_terms i m))) → IsTermOrStart o
        go None b = tt
        go (Some t) b = b.0

    pub one_handled : (whole : List (List ℕ × Option (List ℕ))) (last : Option Term) (more : Bool) (batch new : List (List ℕ × Option (List ℕ))) (place : Option Term) (t : Term) (n k : ℕ) → n ≡ suc k
        → TermsLeft whole last more batch place n → next_stored i place m ≡ Some t → new ≡ batch ++ spell (term_changes i (stays mapped m i) rows t) → TermsLeft whole last more new (Some t) k
    one_handled whole last more batch new place t n k count left next added =
        let b = begins place left.is (Some t) next in
        let changes = λ (ts : List Term). each (term_changes i (stays mapped m i) rows) ts in
        let list : handled_terms n place (all_terms i m) ≡ t ∷ handled_terms k (Some t) (all_terms i m) = ap (λ (n : ℕ). handled_terms n place (all_terms i m)) count ∙ ap (take (suc k)) b.1 in
        let rest : drop n (terms_from place (all_terms i m)) ≡ drop k (terms_from (Some t) (all_terms i m)) = ap (λ (n : ℕ). drop n (terms_from place (all_terms i m))) count ∙ ap (drop (suc k)) b.1 in
        record {
          is = b.0;
          all =
              ap (λ (ws : List (List ℕ × Option (List ℕ))). ws ++ spell (changes (handled_terms k (Some t) (all_terms i m)))) added
              ∙ append_assoc batch (spell (term_changes i (stays mapped m i) rows t)) (spell (changes (handled_terms k (Some t) (all_terms i m))))
              ∙ ap (λ (ws : List (List ℕ × Option (List ℕ))). batch ++ ws) (sym (spell-append (term_changes i (stays mapped m i) rows t) (changes (handled_terms k (Some t) (all_terms i m)))))
              ∙ ap (λ (ts : List Term). batch ++ spell (changes ts)) (sym list)
              ∙ left.all;
          end = ap (last_term place) (sym list) ∙ left.end;
          behind = ap has_some (sym rest) ∙ left.behind;
        }

    -- where nothing is left of the handled terms, all is added
    ends : (whole : List (List ℕ × Option (List ℕ))) (last : Option Term) (more : Bool) (batch : List (List ℕ × Option (List ℕ))) (place : Option Term) (n : ℕ) → TermsLeft whole last more batch place n
        → handled_terms n place (all_terms i m) ≡ [] → (batch ≡ whole) × (place ≡ last)
    ends whole last more batch place n left none = (
      sym (append-nil batch) ∙ ap (λ (ts : List Term). batch ++ spell (each (term_changes i (stays mapped m i) rows) ts)) (sym none) ∙ left.all,
      ap (last_term place) (sym none) ∙ left.end,
    )

    -- there is no next term
    pub none_next : (old : List (List ℕ × Option (List ℕ))) (start : Option Term) (most : ℕ) (batch : List (List ℕ × Option (List ℕ))) (place : Option Term) (n : ℕ) → LeftOf old start most batch place n
        → next_stored i place m ≡ None → AreRepacked m i mapped rows start most old batch (record { last = place; more = false })
    none_next old start most batch place n left next =
        let b = begins place left.is None next in
        let e = ends _ _ _ batch place n left (ap (take n) b ∙ take_none n) in
        record { changes = e.0; last = e.1; more = sym (ap has_some (ap (drop n) b ∙ drop_none n)) ∙ left.behind }

    -- so many were handled
    pub all_handled : (old : List (List ℕ × Option (List ℕ))) (start : Option Term) (most : ℕ) (batch : List (List ℕ × Option (List ℕ))) (place : Option Term) (n : ℕ) → n ≡ 0 → LeftOf old start most batch place n
        → AreRepacked m i mapped rows start most old batch (record { last = place; more = is_some (next_stored i place m) })
    all_handled old start most batch place n count left =
        let now = subst (LeftOf old start most batch place) count left in
        let e = ends _ _ _ batch place 0 now refl in
        record { changes = e.0; last = e.1; more = sym (some_is (next_stored i place m) refl) ∙ now.behind }
      where
        some_is : (o : Option Term) → next_stored i place m ≡ o → has_some (terms_from place (all_terms i m)) ≡ is_some (next_stored i place m)
        some_is None next = ap has_some (begins place left.is None next) ∙ sym (ap is_some next)
        some_is (Some t) next = ap has_some (begins place left.is (Some t) next).1 ∙ sym (ap is_some next)
