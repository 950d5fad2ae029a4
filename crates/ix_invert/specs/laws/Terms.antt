-- What an inversion has under one term: what the texts have under it, in their order.
use Rattle.std.specs.Prelude.{ℕ, ◌≡◌, ◌==◌, ◌+◌, ◌≤◌, Bool, true, false, cond, List, [], ◌∷◌, ◌++◌, refl}
use Rattle.std.proofs.Common.{ap, sym, ◌∙◌, is_lt, arith}
use Rattle.std.specs.List.{filter, AllByRecursion}
use Rattle.std.specs.List.Sorted.{ties}
use Rattle.std.specs.Ordering.{nat_cmp, ordering_then}
use Rattle.std.specs.Cmp.Lexicographic.{slice_cmp}
use Rattle.std.specs.declared.cmp.Ordering.{Ordering}
use Rattle.std.specs.declared.cmp.Ordering.TheVariants.{Less, Equal, Greater}
use Rattle.std.proofs.lemmas.Cmp.{nat_list_cmp_total, nat_cmp_total, tied_itself}
use Rattle.std.proofs.lemmas.Bool.{le-ltb}
use Rattle.std.proofs.lemmas.List.Kept.{IsSortedBy-filter}
use Rattle.ix_invert.specs.declared.postings.Posting.{Posting}
use Rattle.ix_invert.specs.Inverting.{all_postings}
use Rattle.ix_invert.specs.Promises.{IsOfOneTerm, NumbersItsOwn, TermsStandInTurn}
use Rattle.ix_invert.specs.laws.Unique.{less, less_weak, NoneBefore, Ascends, SameTies, ascends, kept_head, passed_head, one_order}

-- ---- the documents of texts that follow one another

-- each stands at this document or a later one
abbrev AreFrom : ℕ → List Posting → Type 0
AreFrom n ps = AllByRecursion (λ p. n ≤ p.doc.0) ps

-- none stands behind one of a later document
abbrev DocumentsClimb : List Posting → Type 0
DocumentsClimb [] = Unit {0}
DocumentsClimb (p ∷ ps) = AreFrom p.doc.0 ps × DocumentsClimb ps

are_from_earlier : (m n : ℕ) (ps : List Posting) → m ≤ n → AreFrom n ps → AreFrom m ps
are_from_earlier m n [] low are = tt
are_from_earlier m n (p ∷ ps) low are = let first = are.0 in (omega (arith, first, low), are_from_earlier m n ps low are.1)

-- postings of one document, and behind them those of later ones
module _ (n : ℕ) (qs : List Posting) (later : AreFrom n qs) (climb : DocumentsClimb qs) where
  from_joined : (m : ℕ) (ps : List Posting) → m ≤ n → AllByRecursion (λ p. p.doc.0 ≡ n) ps → AreFrom m (ps ++ qs)
  from_joined m [] low own = are_from_earlier m n qs low later
  from_joined m (p ∷ ps) low own = let is = own.0 in (omega (arith, is, low), from_joined m ps low own.1)

  climb_joined : (ps : List Posting) → AllByRecursion (λ p. p.doc.0 ≡ n) ps → DocumentsClimb (ps ++ qs)
  climb_joined [] own = climb
  climb_joined (p ∷ ps) own = let is = own.0 in (from_joined p.doc.0 ps (omega (arith, is)) own.1, climb_joined ps own.1)

module _ (has : ℕ → List ℕ → List Posting) (own : NumbersItsOwn has) where
  all_from : (first : ℕ) (texts : List (List ℕ)) → AreFrom first (all_postings has first texts) × DocumentsClimb (all_postings has first texts)
  all_from first [] = (tt, tt)
  all_from first (text ∷ texts) =
      let rest = all_from (first + 1) texts in
      let later = are_from_earlier first (first + 1) (all_postings has (first + 1) texts) (omega arith) rest.0 in (
        from_joined first (all_postings has (first + 1) texts) later rest.1 first (has first text) (omega arith) (own first text),
        climb_joined first (all_postings has (first + 1) texts) later rest.1 (has first text) (own first text),
      )

-- ---- postings of one term

not_before : (n m : ℕ) → n ≤ m → is_lt (nat_cmp m n) ≡ false
not_before n m low = ap (λ (b : Bool). is_lt (cond b Less (cond (m == n) Equal Greater))) (le-ltb m n low) ∙ go (m == n)
  where
    go : (b : Bool) → is_lt (cond b Equal Greater) ≡ false
    go true = refl
    go false = refl

-- of two postings of one term the order is that of their documents
not_less : (a b : Posting) → a.stream ≡ b.stream → a.token ≡ b.token → a.doc.0 ≤ b.doc.0 → less b a ≡ false
not_less a b stream token low =
    ap (λ (o : Ordering). is_lt (ordering_then o (ordering_then (slice_cmp nat_cmp b.token a.token) (nat_cmp b.doc.0 a.doc.0)))) (ap (λ (s : ℕ). nat_cmp b.stream s) stream ∙ tied_itself nat_cmp_total b.stream)
    ∙ ap (λ (o : Ordering). is_lt (ordering_then o (nat_cmp b.doc.0 a.doc.0))) (ap (λ (t : List ℕ). slice_cmp nat_cmp b.token t) token ∙ tied_itself nat_list_cmp_total b.token)
    ∙ not_before a.doc.0 b.doc.0 low

module _ (test : Posting → Bool) (one : IsOfOneTerm test) where
  none_before_term : (a : Posting) → test a ≡ true → (bs : List Posting) → AreFrom a.doc.0 bs → NoneBefore a (filter test bs)
  none_before_term a is [] later = tt
  none_before_term a is (b ∷ bs) later = go (test b) refl (none_before_term a is bs later.1)
    where
      go : (t : Bool) → test b ≡ t → NoneBefore a (filter test bs) → NoneBefore a (cond t (b ∷ filter test bs) (filter test bs))
      go true at rest = let same = one a b is at in (not_less a b same.0 same.1 later.0, rest)
      go false at rest = rest

  term_ascends : (bs : List Posting) → DocumentsClimb bs → Ascends (filter test bs)
  term_ascends [] climb = tt
  term_ascends (b ∷ bs) climb = go (test b) refl (term_ascends bs climb.1)
    where
      go : (t : Bool) → test b ≡ t → Ascends (filter test bs) → Ascends (cond t (b ∷ filter test bs) (filter test bs))
      go true at rest = (none_before_term b at bs climb.0, rest)
      go false at rest = rest

-- two tests, in either order
filtered_twice : (p q : Posting → Bool) (bs : List Posting) → filter p (filter q bs) ≡ filter q (filter p bs)
filtered_twice p q [] = refl
filtered_twice p q (b ∷ bs) = go (p b) (q b) refl refl (filtered_twice p q bs)
  where
    go : (s t : Bool) → p b ≡ s → q b ≡ t → filter p (filter q bs) ≡ filter q (filter p bs)
        → filter p (cond t (b ∷ filter q bs) (filter q bs)) ≡ filter q (cond s (b ∷ filter p bs) (filter p bs))
    go true true at too rest = kept_head p b (filter q bs) at ∙ ap (λ (l : List Posting). b ∷ l) rest ∙ sym (kept_head q b (filter p bs) too)
    go true false at too rest = rest ∙ sym (passed_head q b (filter p bs) too)
    go false true at too rest = passed_head p b (filter q bs) at ∙ rest
    go false false at too rest = rest

-- UNDER ONE TERM an inversion of texts has what they have, in their order
pub terms_stand_in_turn : TermsStandInTurn
terms_stand_in_turn has own first texts given is test one =
    one_order (filter test given) (filter test all) (ascends (filter test given) (IsSortedBy-filter less less_weak test given is.in_order)) (term_ascends test one all (all_from has own first texts).1) same
  where
    all : List Posting
    all = all_postings has first texts

    same : SameTies (filter test given) (filter test all)
    same x = filtered_twice (ties less x) test given ∙ ap (filter test) (is.ties x) ∙ filtered_twice test (ties less x) all
