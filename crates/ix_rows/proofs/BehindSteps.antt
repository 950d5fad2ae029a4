-- A row behind a document, by its first and its last document.
use Rattle.std.proofs.Common.{ℕ, ◌≡◌, ◌<◌, ◌≤◌, List, [], ◌∷◌, Option, Some, None, refl, ap, ◌∙◌, arith}
use Rattle.ix_posting.specs.Forms.{PlaceForm}
use Rattle.ix_posting.specs.Rows.{DocumentsRise}
use Rattle.ix_posting.specs.Passed.{last_number as last_of}
use Rattle.ix_posting.specs.RowPlaces.{first_number}
use Rattle.ix_posting.specs.declared.rows.RowDocument.{RowDocument}
use Rattle.ix_rows.specs.PlacedRows.{document_number}
use Rattle.ix_rows.specs.Taking.{last_number}

abbrev or_zero : Option ℕ → ℕ
or_zero None = 0
or_zero (Some n) = n

module _ {P : Type 0} where
  same_last : (before : ℕ) (ds : List (RowDocument P)) → last_of before ds ≡ last_number document_number before ds
  same_last before [] = refl
  same_last before (d ∷ ds) = same_last d.document ds

  pub last_behind : (before n last : ℕ) (row : List (RowDocument P)) → first_number row ≡ Some n → last ≡ last_of 0 row → last ≡ last_number document_number before row
  last_behind before n last [] is same = let wrong : None ≡ Some n = is in cc
  last_behind before n last (d ∷ ds) is same = same ∙ same_last d.document ds

  pub rises_behind : (form : PlaceForm P) (before n : ℕ) (row : List (RowDocument P)) → first_number row ≡ Some n → before < n → DocumentsRise form 0 row → DocumentsRise form before row
  rises_behind form before n [] is behind rise = tt
  rises_behind form before n (d ∷ ds) is behind rise = let same : d.document ≡ n = ap or_zero is in (omega (arith, same, behind), rise.1, rise.2, rise.3, rise.4, rise.5)

  pub not_behind : (form : PlaceForm P) (before n : ℕ) (row : List (RowDocument P)) → first_number row ≡ Some n → n ≤ before → DocumentsRise form before row → ⊥
  not_behind form before n [] is early rise = let wrong : None ≡ Some n = is in cc
  not_behind form before n (d ∷ ds) is early rise = let same : d.document ≡ n = ap or_zero is in let first = rise.0 in omega (arith, same, early, first)
