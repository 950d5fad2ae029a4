-- What the functions of `src/laws.rt` promise of all inversions.
use Rattle.std.specs.Prelude.{ℕ, ◌≡◌, Bool, true, List, codes, refl}
use Rattle.std.specs.List.{filter, AllByRecursion}
use Rattle.ix_invert.specs.declared.postings.Posting.{Posting}
use Rattle.ix_invert.specs.Inverting.{all_postings, bytes_of, IsInversion}

-- Postings have one inversion. So what an inversion gives hangs on its texts, their numbers and the piece alone, and not on how many threads were asked for.
abbrev pub EachHasOneInversion : Type 0
EachHasOneInversion = (all one another : List Posting) → IsInversion all one → IsInversion all another → one ≡ another

-- what a text has as a document is that document's
abbrev pub NumbersItsOwn : (ℕ → List ℕ → List Posting) → Type 0
NumbersItsOwn has = (number : ℕ) (text : List ℕ) → AllByRecursion (λ p. p.doc.0 ≡ number) (has number text)

-- postings that pass the test are of one stream and one token
abbrev pub IsOfOneTerm : (Posting → Bool) → Type 0
IsOfOneTerm test = (a b : Posting) → test a ≡ true → test b ≡ true → (a.stream ≡ b.stream) × (a.token ≡ b.token)

-- Under one term an inversion of texts has what they have, in their order. So the posting list of a term, and all that is made of it, is the same from the inversion as from one text after the other.
abbrev pub TermsStandInTurn : Type 0
TermsStandInTurn = (has : ℕ → List ℕ → List Posting) → NumbersItsOwn has → (first : ℕ) (texts : List (List ℕ)) (given : List Posting)
    → IsInversion (all_postings has first texts) given
    → (test : Posting → Bool) → IsOfOneTerm test → filter test given ≡ filter test (all_postings has first texts)

-- computed example: what a text of two tokens has as the document 7
two_of_seven : AllByRecursion (λ p. p.doc.0 ≡ 7) (bytes_of 1 7 (codes "ba"))
two_of_seven = (refl, (refl, tt))
