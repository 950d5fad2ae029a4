-- The steps of going over items without keeping them.
use Rattle.std.proofs.Common.{◌≡◌, ℕ, suc, ◌+◌, List, [], ◌∷◌, ◌++◌, refl, sym, ◌∙◌, subst}
use Rattle.ix_posting.specs.Forms.{PlaceForm}
use Rattle.ix_posting.specs.Places.{IsForm, IsHeadAt, ArePlacesAt, IsDocumentAt, AreDocumentsAt}
use Rattle.ix_posting.specs.Passed.{last_number, HasPlacesAt, HasDocumentAt, HasDocumentsAt}
use Rattle.ix_posting.specs.laws.Items.{AreItems, HasRead, read_none, read_more, read_all, none_more}
use Rattle.ix_posting.specs.laws.Documents.{documents}
use Rattle.ix_posting.specs.declared.rows.RowDocument.{RowDocument}

-- Some items were gone over from `at` on, up to `place`, and `left` more stand there.
pub record HasPassed {X S : Type 0} (Many : S → ℕ → ℕ → List X → ℕ → Type 0) (s : S) (at count : ℕ) (last : S) (place left : ℕ) : Type 0 where
  pub read : List X
  pub so_far : HasRead Many s at count read last place left

pub passed_none : {X S : Type 0} (Many : S → ℕ → ℕ → List X → ℕ → Type 0) (s : S) (at count : ℕ) (last : S) (left : ℕ) → last ≡ s → left ≡ count → HasPassed Many s at count last at left
passed_none {S = S} Many s at count last left is all =
    subst (λ (x : S). HasPassed Many s at count x at left) (sym is) (subst (λ (n : ℕ). HasPassed Many s at count s at n) (sym all) (record { read = []; so_far = read_none Many s at count }))

module _ {X S : Type 0} (One : S → ℕ → X → ℕ → Type 0) (Many : S → ℕ → ℕ → List X → ℕ → Type 0) (after : X → S) (items : AreItems One Many after) where
  pub passed_more : (s : S) (at count : ℕ) (last : S) (place left k : ℕ) (x : X) (mid : ℕ) → HasPassed Many s at count last place left → left ≡ suc k → One last place x mid → HasPassed Many s at count (after x) mid k
  passed_more s at count last place left k x mid far more one =
      record { read = far.read ++ x ∷ []; so_far = read_more One Many after items s at count far.read last place left k x mid far.so_far more one }

  pub passed_all : (s : S) (at count : ℕ) (last : S) (place left : ℕ) → HasPassed Many s at count last place left → left ≡ 0 → (xs : List X) × Many s at count xs place
  passed_all s at count last place left far none = (far.read, read_all One Many after items s at count far.read last place left far.so_far none)

  pub none_passed : (s : S) (at count : ℕ) (last : S) (place left k : ℕ) → HasPassed Many s at count last place left → left ≡ suc k → ((x : X) (mid : ℕ) → One last place x mid → ⊥) → (xs : List X) (next : ℕ) → Many s at count xs next → ⊥
  none_passed s at count last place left k far more none = none_more One Many after items s at count far.read last place left k far.so_far more none

-- ---- documents, with the number of the last

module _ {P : Type 0} (form : PlaceForm P) (lawful : IsForm form) (bytes : List ℕ) where
  last-push : (before : ℕ) (ds : List (RowDocument P)) (d : RowDocument P) → last_number before (ds ++ d ∷ []) ≡ d.document
  last-push before [] d = refl
  last-push before (x ∷ ds) d = last-push x.document ds d

  pub record DocumentsPassed (at count last place left : ℕ) : Type 0 where
    pub read : List (RowDocument P)
    pub is_last : last ≡ last_number 0 read
    pub so_far : HasRead (AreDocumentsAt form bytes) 0 at count read last place left

  pub documents_none : (at count left : ℕ) → left ≡ count → DocumentsPassed at count 0 at left
  documents_none at count left all = subst (λ (n : ℕ). DocumentsPassed at count 0 at n) (sym all) (record { read = []; is_last = refl; so_far = read_none (AreDocumentsAt form bytes) 0 at count })

  pub documents_more : (at count last place left k number mid : ℕ) → DocumentsPassed at count last place left → left ≡ suc k → HasDocumentAt form bytes last place number mid → DocumentsPassed at count number mid k
  documents_more at count last place left k number mid far more one = record {
    read = far.read ++ one.0 ∷ [];
    is_last = sym one.1 ∙ sym (last-push 0 far.read one.0);
    so_far =
        subst (λ (n : ℕ). HasRead (AreDocumentsAt form bytes) 0 at count (far.read ++ one.0 ∷ []) n mid k) one.1
        (read_more (IsDocumentAt form bytes) (AreDocumentsAt form bytes) (λ d. d.document) (documents form lawful bytes) 0 at count far.read last place left k one.0 mid far.so_far more one.2);
  }

  pub documents_all : (at count last place left : ℕ) → DocumentsPassed at count last place left → left ≡ 0 → HasDocumentsAt form bytes at count last place
  documents_all at count last place left far none =
      (far.read, far.is_last, read_all (IsDocumentAt form bytes) (AreDocumentsAt form bytes) (λ d. d.document) (documents form lawful bytes) 0 at count far.read last place left far.so_far none)

  pub no_documents : (at count last place left k : ℕ) → DocumentsPassed at count last place left → left ≡ suc k → ((d : RowDocument P) (mid : ℕ) → IsDocumentAt form bytes last place d mid → ⊥) → (ds : List (RowDocument P)) (next : ℕ) → AreDocumentsAt form bytes 0 at count ds next → ⊥
  no_documents at count last place left k far more none =
      none_more (IsDocumentAt form bytes) (AreDocumentsAt form bytes) (λ d. d.document) (documents form lawful bytes) 0 at count far.read last place left k far.so_far more none

-- what a document begins with, and so many places, are a document
pub document_passed : {P : Type 0} (form : PlaceForm P) (bytes : List ℕ) (before at number count start next : ℕ) → IsHeadAt bytes before at number count start → HasPlacesAt form bytes start count next → HasDocumentAt form bytes before at number next
document_passed form bytes before at number count start next head its =
    let many = its.1.many in (
      record { document = number; places = its.0 },
      refl,
      record {
        start = start;
        head = subst (λ (n : ℕ). IsHeadAt bytes before at number n start) (sym many) head;
        places = subst (λ (n : ℕ). ArePlacesAt form bytes form.origin start n its.0 next) (sym many) its.1;
      },
    )
