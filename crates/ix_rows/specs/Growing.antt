-- The rows of a term while its documents come, in rising order: what is kept of them is their bytes.
use Rattle.std.specs.Prelude.{ℕ, ◌≡◌, ◌+◌, ◌-◌, ◌==◌, ◌||◌, Bool, nat_le, List, [], ◌∷◌, ◌++◌, length, refl}
use Rattle.std.specs.Bool.{if◌then◌else◌}
use Rattle.std.specs.Coded.{Coded, code_by, coded×, coded_list, coded_ℕ}
use Rattle.ct_bytes.specs.Varints.{varint}
use Rattle.ix_rows.specs.Spelling.{row_bytes_limit}

-- The rows that are full, each by its first document and its bytes; and of the row that still grows its first and its last document, how many
-- documents it has, none at the beginning, and the bytes of these.
pub record Growing : Type 0 where
  pub full : List (ℕ × List ℕ)
  pub first : ℕ
  pub last : ℕ
  pub count : ℕ
  pub body : List ℕ

abbrev pub growing_code : Coded Growing
growing_code =
    code_by (List (ℕ × List ℕ) × (ℕ × (ℕ × (ℕ × List ℕ)))) (coded× (coded_list (coded× coded_ℕ (coded_list coded_ℕ))) (coded× coded_ℕ (coded× coded_ℕ (coded× coded_ℕ (coded_list coded_ℕ)))))
    (λ g. (g.full, (g.first, (g.last, (g.count, g.body))))) (λ p. record { full = p.0; first = p.1.0; last = p.1.1.0; count = p.1.1.1.0; body = p.1.1.1.1 }) (λ _. refl)

-- no document yet
abbrev pub not_begun : List (ℕ × List ℕ) → Growing
not_begun full = record { full = full; first = 0; last = 0; count = 0; body = [] }

abbrev pub nothing_yet : Growing
nothing_yet = not_begun []

-- the row that grows, by its first document and its bytes: how many documents it has, and these
abbrev pub growing_row : Growing → ℕ × List ℕ
growing_row g = (g.first, varint g.count ++ g.body)

-- all rows
abbrev pub grown_rows : Growing → List (ℕ × List ℕ)
grown_rows g = if g.count == 0 then g.full else g.full ++ growing_row g ∷ []

-- whether the row that grows would be within the limit with one document more; `places` are the bytes of the document's places
abbrev pub row_has_room : Growing → ℕ → List ℕ → Bool
row_has_room g d places = nat_le (length (varint (g.count + 1)) + length g.body + length (varint (d - g.last)) + length places) row_bytes_limit

-- the row that grows is full
abbrev pub with_closed_row : Growing → Growing
with_closed_row g = not_begun (g.full ++ growing_row g ∷ [])

-- the row that grows begins anew where it has a document, and no room for this one
abbrev pub with_room : Growing → ℕ → List ℕ → Growing
with_room g d places = if (g.count == 0) || row_has_room g d places then g else with_closed_row g

-- with this document behind its last one
abbrev pub with_last_document : Growing → ℕ → List ℕ → Growing
with_last_document g d places =
    record { full = g.full; first = if g.count == 0 then d else g.first; last = d; count = g.count + 1; body = g.body ++ (varint (d - g.last) ++ places) }

-- A document comes, with the bytes of its places. One that isn't greater than the last is none.
abbrev pub with_grown_document : Growing → ℕ → List ℕ → Growing
with_grown_document g d places = if nat_le d g.last then g else with_last_document (with_room g d places) d places

-- ---- documents one after the other

module _ {D : Type 0} (number : D → ℕ) (places : D → List ℕ) where
  abbrev pub grown_all : Growing → List D → Growing
  grown_all g [] = g
  grown_all g (x ∷ xs) = grown_all (with_grown_document g (number x) (places x)) xs

-- computed examples: the documents 1 and 2 with the position 1 each, of which 1 and 1 are the bytes: how many, and the step to it
two_documents : grown_rows (with_grown_document (with_grown_document nothing_yet 1 (1 ∷ 1 ∷ [])) 2 (1 ∷ 1 ∷ [])) ≡ (1, 2 ∷ 1 ∷ 1 ∷ 1 ∷ 1 ∷ 1 ∷ 1 ∷ []) ∷ []
unfolding varint
two_documents = refl

not_twice : with_grown_document (with_grown_document nothing_yet 2 (1 ∷ 1 ∷ [])) 2 (1 ∷ 7 ∷ []) ≡ with_grown_document nothing_yet 2 (1 ∷ 1 ∷ [])
unfolding varint
not_twice = refl

no_rows_yet : grown_rows nothing_yet ≡ []
no_rows_yet = refl
