-- Where all terms of a kind are put anew, the rows are packed; and clean, where only documents that are rows of the table are kept.
use Rattle.std.specs.Prelude.{ℕ, ℤ, ◌≡◌, Bool, true, false, cond, ◌||◌, List, [], ◌∷◌, Option, Some, is_some, refl}
use Rattle.std.proofs.Common.{sym, ap, subst, ◌∙◌, inl, inr}
use Rattle.ct_entry.specs.declared.kinds.Kind.{Kind}
use Rattle.ct_entry.specs.Keys.{Key, same_list, IsDocument}
use Rattle.ct_entry.specs.Changes.{view}
use Rattle.ct_entry.specs.Each.{is_any_of}
use Rattle.ct_entry.specs.Lists.{IsIn, AreApart}
use Rattle.ct_entry.specs.laws.Keys.{list_same}
use Rattle.ct_entry.specs.laws.Lists.{in_filter}
use Rattle.ix_posting.specs.declared.rows.RowDocument.{RowDocument}
use Rattle.ix_posting.specs.Forms.{PlaceForm}
use Rattle.ix_posting.specs.Lists.{posting_list}
use Rattle.ix_posting.specs.Rows.{IsPostingRowOf, posting_bytes_of}
use Rattle.ix_rows.specs.Posts.{Rises}
use Rattle.ix_rows.specs.Spelling.{greedy}
use Rattle.ix_rows.specs.Stores.{Tidiness, Packed, Clean, StoreStands, IsTidy}
use Rattle.ix_rows.specs.PlacedRows.{document_number, row_document_cost}
use Rattle.ix_rows.specs.laws.PlacedRows.{HasPlaces, row_laws}
use Rattle.ix_rows.specs.laws.Spelling.{posting_list-greedy}
use Rattle.ix_rows.specs.laws.Stores.{store_packed, store_clean}
use Rattle.ix_rows.specs.laws.Tidies.{tidy_batch, tidy_rows, some_terms}
use Rattle.ix_repack.specs.Repacking.{repacked, kept_documents}

any_of : (t : List ℕ) (ts : List (List ℕ)) → IsIn t ts → is_any_of t ts ≡ true
any_of t [] h = absurd h
any_of t (u ∷ ts) h = elim h [
  | inl e ↦ ap (λ (b : Bool). b || is_any_of t ts) (subst (λ (v : List ℕ). same_list t v ≡ true) e (list_same t))
  | inr r ↦ ap (λ (b : Bool). same_list t u || b) (any_of t ts r) ∙ or_true (same_list t u)
]
  where
    or_true : (b : Bool) → (b || true) ≡ true
    or_true true = refl
    or_true false = refl

in_rises : {P : Type 0} (before : ℕ) (x : RowDocument P) (xs : List (RowDocument P)) → Rises document_number before xs → IsIn x xs → IsDocument x.document
in_rises before x [] up h = absurd h
in_rises before x (y ∷ ys) up h = elim h [ inl e ↦ subst (λ (z : RowDocument _). IsDocument z.document) (sym e) up.1 | inr r ↦ in_rises y.document x ys up.2 r ]

module _ {P : Type 0} (form : PlaceForm P) (kind : Kind) (IsTerm : List ℕ → Type 0) (f : Key → Option (List ℕ)) (i : List ℕ) (want : ℤ → List ℕ → ℕ → Option (RowDocument P)) (row : ℕ → Option ℤ) (given : ℕ)
    (tidiness : Tidiness) (waste : ℕ) (rows : List ℕ → List (List (RowDocument P))) (ts : List (List ℕ))
    (stand : StoreStands document_number (posting_bytes_of form) (IsPostingRowOf form) IsTerm (row_document_cost form kind i) f kind i want row given tidiness waste rows)
    (apart : AreApart ts) (terms : (t : List ℕ) → IsIn t ts → IsTerm t) (keep : ℕ → Bool) (mapped : (d : ℕ) (r : ℤ) → row d ≡ Some r → keep d ≡ true) where
  -- what is put, and the rows after it
  abbrev pub changes : List (Key × Option (List ℕ))
  changes = tidy_batch document_number (posting_bytes_of form) (IsPostingRowOf form) (HasPlaces form) (row_laws form) IsTerm (row_document_cost form kind i) f kind i want row given tidiness waste rows ts stand apart terms keep

  abbrev pub rows_after : List ℕ → List (List (RowDocument P))
  rows_after = tidy_rows document_number (posting_bytes_of form) (IsPostingRowOf form) (HasPlaces form) (row_laws form) IsTerm (row_document_cost form kind i) f kind i want row given tidiness waste rows ts stand apart terms keep

  abbrev pub StandsAfter : Tidiness → ℕ → Type 0
  StandsAfter t w = StoreStands document_number (posting_bytes_of form) (IsPostingRowOf form) IsTerm (row_document_cost form kind i) (view changes f) kind i want row given t w rows_after

  -- of some terms
  pub after_some : StandsAfter tidiness waste
  after_some = some_terms document_number (posting_bytes_of form) (IsPostingRowOf form) (HasPlaces form) (row_laws form) IsTerm (row_document_cost form kind i) f kind i want row given tidiness waste rows ts stand apart terms keep mapped

  module _ (others : (t : List ℕ) → IsTerm t → (IsIn t ts → ⊥) → rows t ≡ []) where
    abbrev Tidy : Tidiness → List (List (RowDocument P)) → Type 0
    Tidy t rs = IsTidy document_number (posting_bytes_of form) t row rs

    -- a term is put anew, or has no rows
    of_each : (Q : List (List (RowDocument P)) → Type 0) → ((t : List ℕ) → IsTerm t → Q (repacked form keep (rows t))) → Q [] → (t : List ℕ) → IsTerm t → Q (rows_after t)
    of_each Q here none t is = go (is_any_of t ts) refl
      where
        go : (b : Bool) → is_any_of t ts ≡ b → Q (cond b (repacked form keep (rows t)) (rows t))
        go true e = here t is
        go false e = subst Q (sym (others t is (λ h. let wrong : true ≡ false = sym (any_of t ts h) ∙ e in cc))) none

    are_packed : (rs : List (List (RowDocument P))) → Tidy Packed (repacked form keep rs)
    are_packed rs = sym (ap (greedy document_number (posting_bytes_of form)) (posting_list-greedy document_number (posting_bytes_of form) (kept_documents form keep (posting_list rs))))

    -- OF ALL TERMS
    pub after_all : StandsAfter Packed waste
    after_all =
        store_packed document_number (posting_bytes_of form) (IsPostingRowOf form) IsTerm (row_document_cost form kind i) (view changes f) kind i want row given tidiness waste rows_after after_some
        (of_each (Tidy Packed) (λ t is. are_packed (rows t)) refl)

    module _ (clean : (d : ℕ) → IsDocument d → keep d ≡ true → is_some (row d) ≡ true) where
      are_clean : (t : List ℕ) → IsTerm t → (x : RowDocument P) → IsIn x (posting_list (repacked form keep (rows t))) → is_some (row x.document) ≡ true
      are_clean t is x h =
          let xs = posting_list (rows t) in
          let there = in_filter (λ (x : RowDocument P). keep x.document) x xs (subst (IsIn x) (posting_list-greedy document_number (posting_bytes_of form) (kept_documents form keep xs)) h) in
          clean x.document (in_rises 0 x xs (stand.are t is).rise there.0) there.1

      -- with those documents alone that are rows of the table
      pub after_all_clean : StandsAfter Clean 0
      after_all_clean =
          store_clean document_number (posting_bytes_of form) (IsPostingRowOf form) IsTerm (row_document_cost form kind i) (view changes f) kind i want row given tidiness waste rows_after after_some
          (of_each (Tidy Clean) (λ t is. (are_packed (rows t), are_clean t is)) (refl, λ x h. absurd h))
