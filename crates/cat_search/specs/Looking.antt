-- How many texts a search reads.
use Rattle.std.specs.Prelude.{ℕ, ℤ, pos, ◌≡◌, ◌+◌, ◌≤◌, Bool, List, [], ◌∷◌, length, filter, codes, refl}
use Rattle.std.specs.Bool.{if◌then◌else◌}
use Rattle.std.proofs.Common.{ap, ◌∙◌, arith}
use Rattle.ct_keep.specs.KeeperViews.{Counts, KeeperView}
use Rattle.ct_keep.specs.Looks.{no_looks}
use Rattle.tb_table.specs.Tables.{Table}
use Rattle.q_tree.specs.declared.flats.Flat.{Flat}
use Rattle.q_tree.specs.ReducedQueries.{Reduced, reduced_of}
use Rattle.ix_kinds.specs.Rows.{row_keys_of}
use Rattle.ix_kinds.specs.Indextypes.{IndexOf}
use Rattle.cat_index.specs.Catalogues.{CatalogueBody, docs_catalogue}
use Rattle.cat_search.specs.Queries.{key_term, red_hat}
use Rattle.cat_search.specs.Meeting.{row_words}
use Rattle.cat_search.specs.Words.{is_exact, has_slot_word}

-- So many texts were read at most, and no row of postings or of sections. Rules may have been handed out: they stand behind the entries of catalogues.
pub record ReadsTexts (most : ℕ) (old new : Counts) : Type 0 where
  pub texts : new.texts ≤ old.texts + most
  pub rows : new.rows ≤ old.rows

-- whether a row has, in the main stream of its document, a key that a slot of the query takes
abbrev pub has_slot_key : Table → IndexOf CatalogueBody → Reduced → ℤ → Bool
has_slot_key t x q r = has_slot_word q (row_words t x r)

-- the rows that have one, in the order of their keys
abbrev pub slot_key_rows : Table → IndexOf CatalogueBody → Reduced → List ℤ
slot_key_rows t x q = filter (has_slot_key t x q) (row_keys_of t)

-- HOW MANY TEXTS A QUERY MAY READ: none where each of its phrases has one slot, else one for each such row
abbrev pub slot_rows : Table → IndexOf CatalogueBody → Reduced → ℕ
slot_rows t x q = if is_exact q then 0 else length (slot_key_rows t x q)

-- no more were read between two views of a keeper
abbrev pub ReadsSlotTexts : {K : Type 0} → (K → KeeperView) → K → K → Flat → Table → IndexOf CatalogueBody → Type 0
ReadsSlotTexts view old new flat t x = ReadsTexts (slot_rows t x (reduced_of flat)) (view old).counts (view new).counts

-- computed examples: two texts of at most three
two_texts : ReadsTexts 3 no_looks (record no_looks { texts = 2 })
two_texts = record { texts = omega arith; rows = omega arith }

-- a query of one word reads no text, however many rows have it
no_text : (t : Table) (x : IndexOf CatalogueBody) → slot_rows t x (key_term (codes "red")) ≡ 0
no_text t x = refl

-- a row before others, where a slot of the phrase `red hat` takes one of its words
abbrev before : ℤ → List (List ℕ) → List ℤ → List ℤ
before r words rows = if has_slot_word red_hat words then r ∷ rows else rows

-- of a row with `hat` alone and one with `blue` alone the first may meet `red hat`, as far as its slots tell
with_a_word : (t : Table) → row_keys_of t ≡ pos 1 ∷ pos 2 ∷ [] → row_words t docs_catalogue (pos 1) ≡ codes "hat" ∷ [] → row_words t docs_catalogue (pos 2) ≡ codes "blue" ∷ []
    → slot_key_rows t docs_catalogue red_hat ≡ pos 1 ∷ []
with_a_word t keys one two =
    ap (filter (has_slot_key t docs_catalogue red_hat)) keys
    ∙ ap (λ (ws : List (List ℕ)). before (pos 1) ws (before (pos 2) (row_words t docs_catalogue (pos 2)) [])) one
    ∙ ap (λ (ws : List (List ℕ)). pos 1 ∷ before (pos 2) ws []) two
