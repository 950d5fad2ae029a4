-- The positions that several tokens have in a document.
use Rattle.std.specs.Prelude.{ℕ, ◌≡◌, List, [], ◌∷◌, refl}
use Rattle.ix_posting.specs.Rows.{WordDocument}
use Rattle.q_tree.specs.Documents.{put_all}
use Rattle.ix_lists.specs.Documents.{places_at}

-- rising and each once
abbrev pub union_at : List (List WordDocument) → ℕ → List ℕ
union_at [] d = []
union_at (r ∷ rs) d = put_all (places_at r d) (union_at rs d)

-- ---- computed examples: two tokens stand at 1 and 4, and at 2 and 4, of the document 3

abbrev in_3 : List ℕ → List WordDocument
in_3 ps = record { document = 3; places = ps } ∷ []

each_position_once : union_at (in_3 (1 ∷ 4 ∷ []) ∷ in_3 (2 ∷ 4 ∷ []) ∷ []) 3 ≡ 1 ∷ 2 ∷ 4 ∷ []
each_position_once = refl

in_no_other_document : union_at (in_3 (1 ∷ 4 ∷ []) ∷ []) 4 ≡ []
in_no_other_document = refl
