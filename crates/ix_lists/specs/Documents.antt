-- Documents in rising order, as they are and in rows.
use Rattle.std.specs.Prelude.{ℕ, ◌≡◌, nat_lt, eqb, List, [], ◌∷◌, ◌++◌, Option, Some, None, drop, length, ◌<◌, refl}
use Rattle.std.specs.Bool.{if◌then◌else◌}
use Rattle.ix_posting.specs.declared.rows.RowDocument.{RowDocument}
use Rattle.ix_posting.specs.Lists.{posting_list}
use Rattle.ix_posting.specs.Rows.{WordDocument, SpanDocument}

module _ {P : Type 0} where
  -- the places in a document
  abbrev pub places_at : List (RowDocument P) → ℕ → List P
  places_at [] d = []
  places_at (x ∷ xs) d = if eqb x.document d then x.places else places_at xs d

  -- what is left of rising documents where those before a number are passed
  abbrev pub from_on : ℕ → List (RowDocument P) → List (RowDocument P)
  from_on to [] = []
  from_on to (d ∷ ds) = if nat_lt d.document to then from_on to ds else d ∷ ds

  -- the places in the first document, if that is the one
  abbrev pub first_places : List (RowDocument P) → ℕ → List P
  first_places [] d = []
  first_places (x ∷ xs) d = if eqb x.document d then x.places else []

  -- the number of the first document; None where there is none
  abbrev pub first_document : List (RowDocument P) → Option ℕ
  first_document [] = None
  first_document (d ∷ ds) = Some d.document

-- the documents of a row from a place on; there may be no place
abbrev pub from_place : {D : Type 0} → Option (List D) → List D
from_place None = []
from_place (Some ds) = ds

-- the documents that are left: those from a place on, and those of the rows behind the ones that were taken
abbrev pub left_in : {D : Type 0} → List (List D) → Option (List D) → ℕ → List D
left_in rows place taken = from_place place ++ posting_list (drop taken rows)

-- the first document of a place and of the rows behind it stands at the place, if there is any
abbrev pub IsShown : {D : Type 0} → Option (List D) → List (List D) → Type 0
IsShown None rows = rows ≡ []
IsShown (Some ds) rows = 0 < length ds

-- ---- computed examples: the documents 2 and 5 in one row, and 7 in the next

abbrev at_1 : ℕ → WordDocument
at_1 document = record { document = document; places = 1 ∷ [] }

abbrev three_documents : List WordDocument
three_documents = posting_list ((at_1 2 ∷ at_1 5 ∷ []) ∷ (at_1 7 ∷ []) ∷ [])

from_3 : from_on 3 three_documents ≡ at_1 5 ∷ at_1 7 ∷ []
from_3 = refl

the_first_from_3 : first_document (from_on 3 three_documents) ≡ Some 5
the_first_from_3 = refl

none_from_8 : first_document (from_on 8 three_documents) ≡ None
none_from_8 = refl

in_7 : places_at three_documents 7 ≡ 1 ∷ []
in_7 = refl

in_6 : places_at three_documents 6 ≡ []
in_6 = refl

-- a section stands at the words 1 to 3 of the documents 2 and 5

abbrev words_1_to_3 : ℕ → SpanDocument
words_1_to_3 d = record { document = d; places = record { first = 1; last = 3 } ∷ [] }

in_5 : places_at (words_1_to_3 2 ∷ words_1_to_3 5 ∷ []) 5 ≡ record { first = 1; last = 3 } ∷ []
in_5 = refl

-- the first document is the one that is asked for, or there are no places
not_first : first_places (words_1_to_3 2 ∷ words_1_to_3 5 ∷ []) 5 ≡ []
not_first = refl

-- one row was taken, as far as the document 5
left_from_5 : left_in ((at_1 2 ∷ at_1 5 ∷ []) ∷ (at_1 7 ∷ []) ∷ []) (Some (at_1 5 ∷ [])) 1 ≡ at_1 5 ∷ at_1 7 ∷ []
left_from_5 = refl
