-- What is read of the map and the queue of an index.
use Rattle.std.specs.Prelude.{ℕ, ℤ, ◌≡◌, ◌==◌, List, [], ◌∷◌, length, Option, Some, None, is_some, Bool, true, codes, pos, refl}
use Rattle.std.specs.Bool.{if◌then◌else◌}
use Rattle.std.specs.Int.{from_be_bytes, w32}
use Rattle.std.specs.Option.{option_and_then}
use Rattle.ct_entry.specs.declared.kinds.Kind.TheVariants as kind
use Rattle.ct_entry.specs.Keys.{Key, key, row_part, document_part}
use Rattle.ct_entry.specs.Listings.{row_of}

-- the document that four bytes spell; none where there aren't four
abbrev pub document_of : List ℕ → Option ℕ
document_of bytes = if length bytes == 4 then Some (from_be_bytes w32 bytes) else None

-- the document that a row of an index is; none where it has no entry, or one that isn't four bytes long
abbrev pub document_at : (Key → Option (List ℕ)) → List ℕ → ℤ → Option ℕ
document_at f i r = option_and_then document_of (f (key kind.RowDocuments i (row_part r)))

-- the row that a document of an index is; none where it has no entry, or one that isn't eight bytes long
abbrev pub row_at_document : (Key → Option (List ℕ)) → List ℕ → ℕ → Option ℤ
row_at_document f i d = option_and_then row_of (f (key kind.DocumentRows i (document_part d)))

-- whether the row waits
abbrev pub waits_at : (Key → Option (List ℕ)) → List ℕ → ℤ → Bool
waits_at f i r = is_some (f (key kind.Pending i (row_part r)))

-- computed examples
the_document_300 : document_of (0 ∷ 0 ∷ 1 ∷ 44 ∷ []) ≡ Some 300
the_document_300 = refl

no_document : document_at (λ k. None) (codes "di") (pos 7) ≡ None
no_document = refl

the_row_seven : row_at_document (λ k. Some (0x80 ∷ 0 ∷ 0 ∷ 0 ∷ 0 ∷ 0 ∷ 0 ∷ 7 ∷ [])) (codes "di") 1 ≡ Some (pos 7)
the_row_seven = refl

no_row_in_four_bytes : row_at_document (λ k. Some (0 ∷ 0 ∷ 0 ∷ 7 ∷ [])) (codes "di") 1 ≡ None
no_row_in_four_bytes = refl

an_entry_waits : waits_at (λ k. Some []) (codes "di") (pos 7) ≡ true
an_entry_waits = refl
