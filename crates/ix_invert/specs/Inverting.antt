-- What several texts have as documents, and in which order it is given.
use Rattle.std.specs.Prelude.{ℕ, ◌≡◌, ◌+◌, List, [], ◌∷◌, ◌++◌, codes, refl, IsPermutation, IsSorted}
use Rattle.std.specs.List.Sorted.{IsStable}
use Rattle.std.specs.declared.cmp.Ordering.{Ordering}
use Rattle.std.specs.declared.cmp.Ordering.TheVariants.{Less, Equal, Greater}
use Rattle.std.specs.Ordering.{nat_cmp, ordering_then}
use Rattle.std.specs.Cmp.Lexicographic.{slice_cmp}
use Rattle.ix_invert.specs.declared.postings.Posting.{Posting}

-- What the texts have, one text after the other, the first as the document `first`, each later one as the next document.
-- What a text has as a document is `has number text`.
abbrev pub all_postings : (ℕ → List ℕ → List Posting) → ℕ → List (List ℕ) → List Posting
all_postings has first [] = []
all_postings has first (text ∷ texts) = has first text ++ all_postings has (first + 1) texts

-- the order: by the stream, the bytes of the token, the document
abbrev pub posting_cmp : Posting → Posting → Ordering
posting_cmp a b = ordering_then (nat_cmp a.stream b.stream) (ordering_then (slice_cmp nat_cmp a.token b.token) (nat_cmp a.doc.0 b.doc.0))

-- THE INVERSION of postings: each of them once and no other, in order; those that tie as they stood
pub record IsInversion (all given : List Posting) : Type 0 where
  pub each_once : IsPermutation all given
  pub in_order : IsSorted posting_cmp given
  pub ties : IsStable posting_cmp all given

-- ---- computed examples

abbrev pub posting : ℕ → List ℕ → ℕ → ℕ → Posting
posting stream token doc p = record { stream = stream; token = token; doc = record { 0 = doc }; places = record { first = p; last = p } ∷ [] }

-- texts of which each byte is a token
abbrev pub bytes_of : ℕ → ℕ → List ℕ → List Posting
bytes_of p doc [] = []
bytes_of p doc (b ∷ bs) = posting 0 (b ∷ []) doc p ∷ bytes_of (p + 1) doc bs

in_turn : all_postings (bytes_of 1) 1 (codes "ba" ∷ codes "a" ∷ [])
    ≡ posting 0 (codes "b") 1 1 ∷ posting 0 (codes "a") 1 2 ∷ posting 0 (codes "a") 2 1 ∷ []
in_turn = refl

by_token : posting_cmp (posting 0 (codes "a") 2 1) (posting 0 (codes "b") 1 1) ≡ Less
by_token = refl

by_document : posting_cmp (posting 0 (codes "a") 2 1) (posting 0 (codes "a") 1 2) ≡ Greater
by_document = refl

by_stream : posting_cmp (posting 255 (codes "a") 1 1) (posting 0 (codes "b") 1 1) ≡ Greater
by_stream = refl

places_do_not_count : posting_cmp (posting 0 (codes "a") 1 1) (posting 0 (codes "a") 1 2) ≡ Equal
places_do_not_count = refl
