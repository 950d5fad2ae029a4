-- Rows as their bytes.
use Rattle.std.specs.Prelude.{ℕ, ◌≡◌, List, refl}
use Rattle.std.specs.Coded.{Coded, Coded-set, coded_list, coded×, coded_ℕ, code_by}
use Rattle.std.proofs.Common.{sym, ◌∙◌}
use Rattle.std.proofs.Math.Logic.{∥∥₁_elim, ∥∥₁_prop}
use mathlib.Core.HLevel.{Σ_prop_path}
use Rattle.ix_posting.specs.Forms.{PlaceForm}
use Rattle.ix_posting.specs.Rows.{IsPostingRowOf, posting_bytes_of}
use Rattle.ix_posting.specs.Places.{IsForm}
use Rattle.ix_posting.specs.laws.Rows.{rows_one}
use Rattle.ix_posting.specs.declared.rows.RowDocument.{RowDocument}

abbrev pub coded_document : {P : Type 0} → Coded P → Coded (RowDocument P)
coded_document {P} code = code_by (ℕ × List P) (coded× coded_ℕ (coded_list code)) (λ d. (d.document, d.places)) (λ p. record { document = p.0; places = p.1 }) (λ _. refl)

module _ {P : Type 0} (form : PlaceForm P) where
  -- the row that bytes spell
  abbrev pub SpeltRow : List ℕ → Type 0
  SpeltRow bytes = (row : List (RowDocument P)) × ∥ IsPostingRowOf form row × (posting_bytes_of form row ≡ bytes) ∥₁

  -- a row, of which it is only told that it is one
  abbrev pub IsMereRow : List (RowDocument P) → Type 0
  IsMereRow row = ∥ IsPostingRowOf form row ∥₁

  -- two rows are equal in one way at most
  pub same_row : IsForm form → (a b : List (RowDocument P)) → IsProp (a ≡ b)
  same_row lawful a b = Coded-set (coded_list (coded_document lawful.code)) a b

  -- bytes spell one row at most
  pub one_row : IsForm form → (bytes : List ℕ) → IsProp (SpeltRow bytes)
  one_row lawful bytes x y =
      Σ_prop_path (λ _. ∥∥₁_prop) (∥∥₁_elim x.1 (same_row lawful x.0 y.0) (λ h. ∥∥₁_elim y.1 (same_row lawful x.0 y.0) (λ k. rows_one form lawful x.0 y.0 h.0 k.0 (h.1 ∙ sym k.1))))
