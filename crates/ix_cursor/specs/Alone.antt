-- The entries of a document, by which a query scores it alone.
use Rattle.std.specs.Prelude.{ℕ, ◌≡◌, ◌≤◌, ◌<◌, ◌^◌, nat_lt, eqb, bytes_eq, ◌&&◌, Bool, false, List, [], ◌∷◌, length, map, refl}
use Rattle.std.specs.Bool.{if◌then◌else◌}
use Rattle.std.specs.List.{list_any}
use Rattle.ct_base.specs.declared.numbers.Pair.{Pair}
use Rattle.ix_posting.specs.Forms.{PlacesRise, pair_form, no_pair}
use Rattle.tx_document.specs.declared.entries.Entry.{Entry}
use Rattle.q_tree.specs.Documents.{DocEntry, entry_positions, entry_pairs}
use Rattle.q_tree.specs.Scores.{DocPostings}

-- an entry as queries see it
abbrev pub doc_entry : Entry → DocEntry
doc_entry e = record { stream = e.stream; token = e.token; places = e.places }

abbrev pub doc_entries : List Entry → List DocEntry
doc_entries es = map doc_entry es

-- ---- which entries a document may have

-- It stands somewhere, at fewer than 2 ^ 32 places, each after the one before it.
pub record IsDocumentEntry (e : Entry) : Type 0 where
  pub some : 1 ≤ length e.places
  pub few : length e.places < 2 ^ 32
  pub rise : PlacesRise pair_form no_pair e.places

abbrev pub has_entry : ℕ → List ℕ → List Entry → Bool
has_entry stream token es = list_any (λ (e : Entry). eqb e.stream stream && bytes_eq e.token token) es

-- THE ENTRIES OF A DOCUMENT: no two are of one stream and token.
abbrev pub AreDocumentEntries : List Entry → Type 0
AreDocumentEntries [] = Unit {0}
AreDocumentEntries (e ∷ es) = IsDocumentEntry e × (has_entry e.stream e.token es ≡ false) × AreDocumentEntries es

-- ---- as the one document of a store

-- its number is 1
abbrev pub of_document_1 : {X : Type 0} → ℕ → List X → List X
of_document_1 d xs = if eqb 1 d then xs else []

abbrev pub postings_alone : List Entry → ℕ → DocPostings
postings_alone es d = record {
  positions = λ stream slot. of_document_1 d (entry_positions stream slot (doc_entries es));
  spans = λ name. of_document_1 d (entry_pairs name (doc_entries es));
}

-- where pairs begin, each number that is greater than those before it
abbrev pub rising_firsts : ℕ → List Pair → List ℕ
rising_firsts before [] = []
rising_firsts before (p ∷ ps) = if nat_lt before p.first then p.first ∷ rising_firsts p.first ps else rising_firsts before ps

-- ---- computed examples

-- two pairs that begin at 2, and one that begins at 5
begins_twice : rising_firsts 0 (record { first = 2; last = 3 } ∷ record { first = 2; last = 9 } ∷ record { first = 5; last = 5 } ∷ []) ≡ 2 ∷ 5 ∷ []
begins_twice = refl

in_document_1 : of_document_1 {X = ℕ} 1 (7 ∷ []) ≡ 7 ∷ []
in_document_1 = refl

in_no_other : of_document_1 {X = ℕ} 2 (7 ∷ []) ≡ []
in_no_other = refl
