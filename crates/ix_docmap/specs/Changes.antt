-- What changes of the map and the queue put into a batch.
use Rattle.std.specs.Prelude.{ℕ, ℤ, ◌+◌, List, [], ◌∷◌, ◌++◌, Option, Some, None, pos, ◌≡◌, codes, refl}
use Rattle.std.specs.Int.{to_be_bytes, w32}
use Rattle.ct_bytes.specs.RowKeys.{row_bytes}
use Rattle.ct_entry.specs.declared.kinds.Kind.TheVariants as kind
use Rattle.ct_entry.specs.Keys.{Key, key, row_part, document_part}
use Rattle.ct_entry.specs.Changes.{put_value, drop_key, spell}
use Rattle.ct_entry.specs.Each.{each, numbered}

-- the row waits
abbrev pub queue_changes : List ℕ → ℤ → List (Key × Option (List ℕ))
queue_changes i r = put_value (key kind.Pending i (row_part r)) [] ∷ []

-- the row waits no more
abbrev pub unqueue_changes : List ℕ → ℤ → List (Key × Option (List ℕ))
unqueue_changes i r = drop_key (key kind.Pending i (row_part r)) ∷ []

-- the row is this document
abbrev pub mark_changes : List ℕ → ℕ → ℤ → List (Key × Option (List ℕ))
mark_changes i d r = put_value (key kind.DocumentRows i (document_part d)) (row_bytes r) ∷ put_value (key kind.RowDocuments i (row_part r)) (to_be_bytes w32 d) ∷ []

-- the row is this document no more
abbrev pub unmark_changes : List ℕ → ℕ → ℤ → List (Key × Option (List ℕ))
unmark_changes i d r = drop_key (key kind.DocumentRows i (document_part d)) ∷ drop_key (key kind.RowDocuments i (row_part r)) ∷ []

-- a row that goes: it is no document any more if it was one, and else it waits no more
abbrev pub gone_changes : List ℕ → ℤ → Option ℕ → List (Key × Option (List ℕ))
gone_changes i r None = unqueue_changes i r
gone_changes i r (Some d) = unmark_changes i d r

-- a row whose text is another now: it is no document any more if it was one, and waits
abbrev pub changed_changes : List ℕ → ℤ → Option ℕ → List (Key × Option (List ℕ))
changed_changes i r None = []
changed_changes i r (Some d) = unmark_changes i d r ++ queue_changes i r

-- a row that waits becomes this document
abbrev pub map_settle_changes : List ℕ → ℕ × ℤ → List (Key × Option (List ℕ))
map_settle_changes i p = unqueue_changes i p.1 ++ mark_changes i p.0 p.1

-- rows that wait become the next documents
abbrev pub map_changes : List ℕ → ℕ → List ℤ → List (Key × Option (List ℕ))
map_changes i given rows = each (map_settle_changes i) (numbered (given + 1) rows)

-- computed examples: a row that waits goes, or gets another text; and the row 7 becomes the document 1
row_seven : spell (map_settle_changes (codes "di") (1, pos 7))
    ≡ (0x23 ∷ 2 ∷ 0x64 ∷ 0x69 ∷ 0x80 ∷ 0 ∷ 0 ∷ 0 ∷ 0 ∷ 0 ∷ 0 ∷ 7 ∷ [], None)
    ∷ (0x21 ∷ 2 ∷ 0x64 ∷ 0x69 ∷ 0 ∷ 0 ∷ 0 ∷ 1 ∷ [], Some (0x80 ∷ 0 ∷ 0 ∷ 0 ∷ 0 ∷ 0 ∷ 0 ∷ 7 ∷ []))
    ∷ (0x22 ∷ 2 ∷ 0x64 ∷ 0x69 ∷ 0x80 ∷ 0 ∷ 0 ∷ 0 ∷ 0 ∷ 0 ∷ 0 ∷ 7 ∷ [], Some (0 ∷ 0 ∷ 0 ∷ 1 ∷ [])) ∷ []
unfolding row_bytes
row_seven = refl

it_waited : gone_changes (codes "di") (pos 7) None ≡ drop_key (key kind.Pending (codes "di") (row_part (pos 7))) ∷ []
it_waited = refl

it_waits_on : changed_changes (codes "di") (pos 7) None ≡ []
it_waits_on = refl

-- the row 7, which is the document 1, goes, or gets another text
abbrev lost : List (List ℕ × Option (List ℕ))
lost =
    (0x21 ∷ 2 ∷ 0x64 ∷ 0x69 ∷ 0 ∷ 0 ∷ 0 ∷ 1 ∷ [], None)
    ∷ (0x22 ∷ 2 ∷ 0x64 ∷ 0x69 ∷ 0x80 ∷ 0 ∷ 0 ∷ 0 ∷ 0 ∷ 0 ∷ 0 ∷ 7 ∷ [], None) ∷ []

its_document_goes : spell (gone_changes (codes "di") (pos 7) (Some 1)) ≡ lost
unfolding row_bytes
its_document_goes = refl

it_waits_again : spell (changed_changes (codes "di") (pos 7) (Some 1)) ≡ lost ++ (0x23 ∷ 2 ∷ 0x64 ∷ 0x69 ∷ 0x80 ∷ 0 ∷ 0 ∷ 0 ∷ 0 ∷ 0 ∷ 0 ∷ 7 ∷ [], Some []) ∷ []
unfolding row_bytes
it_waits_again = refl
