-- A list that has passed the documents before a number.
use Rattle.std.proofs.Common.{ℕ, ◌≡◌, nat_lt, Bool, true, false, List, [], ◌∷◌, refl}
use Rattle.std.specs.Bool.{if◌then◌else◌}
use Rattle.std.proofs.lemmas.Bool.{ltb-false, le-leb}
use Rattle.ix_posting.specs.declared.rows.RowDocument.{RowDocument}
use Rattle.ix_lists.specs.Documents.{from_on, first_document}
use Rattle.ix_cursor.specs.Passing.{none_before}

pub list_passes : {P : Type 0} (to : ℕ) (ds : List (RowDocument P)) → none_before to (first_document (from_on to ds)) ≡ true
list_passes to [] = refl
list_passes to (d ∷ ds) = go (list_passes to ds) (nat_lt d.document to) refl
  where
    go : none_before to (first_document (from_on to ds)) ≡ true → (t : Bool) → nat_lt d.document to ≡ t → none_before to (first_document (if t then from_on to ds else d ∷ ds)) ≡ true
    go rest true e = rest
    go rest false e = le-leb to d.document (ltb-false d.document to e)
