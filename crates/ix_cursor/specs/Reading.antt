-- What was read for a query, as the postings of each document.
use Rattle.std.specs.Prelude.{ℕ, ◌≡◌, eqb, ◌&&◌, List, [], ◌∷◌, map, codes, refl}
use Rattle.std.specs.Bool.{if◌then◌else◌}
use Rattle.std.specs.Prelude.{bytes_eq}
use Rattle.q_tree.specs.declared.flats.Slot.{Slot}
use Rattle.q_tree.specs.declared.flats.Slot.TheVariants.{Takes}
use Rattle.q_tree.specs.Slots.{same_slot}
use Rattle.q_tree.specs.Scores.{DocPostings}
use Rattle.ix_posting.specs.Lists.{posting_list}
use Rattle.ix_posting.specs.Rows.{DocumentsRise, WordDocument, SpanDocument}
use Rattle.ix_posting.specs.Forms.{number_form, pair_form}
use Rattle.ix_lists.specs.Documents.{places_at}
use Rattle.ix_cursor.specs.declared.reading.SlotFeed.{SlotFeed}
use Rattle.ix_cursor.specs.declared.reading.SectionFeed.{SectionFeed}
use Rattle.ix_cursor.specs.declared.reading.Feeds.{Feeds}
use Rattle.ix_cursor.specs.Unions.{union_at}

-- the rows that were read for each token that a slot takes in a stream; of a slot that wasn't read there are none
abbrev pub tokens_read : List SlotFeed → ℕ → Slot → List (List (List WordDocument))
tokens_read [] stream slot = []
tokens_read (f ∷ fs) stream slot = if eqb f.stream stream && same_slot f.slot slot then f.tokens else tokens_read fs stream slot

-- the rows that were read for a section
abbrev pub rows_read : List SectionFeed → List ℕ → List (List SpanDocument)
rows_read [] name = []
rows_read (f ∷ fs) name = if bytes_eq f.section name then f.rows else rows_read fs name

-- the documents of each token, one row after the other
abbrev pub documents_of : List (List (List WordDocument)) → List (List WordDocument)
documents_of tokens = map {B = List WordDocument} (λ rows. posting_list rows) tokens

-- THE POSTINGS OF A DOCUMENT among what was read: the positions of all tokens of a slot, rising and each once, and the pairs of a section
abbrev pub postings_read : Feeds → ℕ → DocPostings
postings_read f d = record {
  positions = λ stream slot. union_at (documents_of (tokens_read f.slots stream slot)) d;
  spans = λ name. places_at (posting_list (rows_read f.sections name)) d;
}

-- ---- in which order documents were read

-- the documents of each token rise from one row to the next
abbrev pub TokensRise : List (List (List WordDocument)) → Type 0
TokensRise [] = Unit {0}
TokensRise (rows ∷ tokens) = DocumentsRise number_form 0 (posting_list rows) × TokensRise tokens

abbrev pub SlotFeedsRise : List SlotFeed → Type 0
SlotFeedsRise [] = Unit {0}
SlotFeedsRise (f ∷ fs) = TokensRise f.tokens × SlotFeedsRise fs

-- so do those of each section
abbrev pub SectionFeedsRise : List SectionFeed → Type 0
SectionFeedsRise [] = Unit {0}
SectionFeedsRise (f ∷ fs) = DocumentsRise pair_form 0 (posting_list f.rows) × SectionFeedsRise fs

pub record FeedsRise (f : Feeds) : Type 0 where
  pub slots : SlotFeedsRise f.slots
  pub sections : SectionFeedsRise f.sections

-- ---- computed example: two tokens of a slot, of which one stands at 1 and 4 in the document 2, and the other at 2 and 4

abbrev a_slot : Slot
a_slot = Takes (codes "a" ∷ codes "b" ∷ []) []

abbrev two_tokens : Feeds
two_tokens = record {
  slots = record {
    stream = 0;
    slot = a_slot;
    tokens = ((record { document = 2; places = 1 ∷ 4 ∷ [] } ∷ []) ∷ []) ∷ ((record { document = 2; places = 2 ∷ 4 ∷ [] } ∷ []) ∷ []) ∷ [];
  } ∷ [];
  sections = [];
}

each_once : (postings_read two_tokens 2).positions 0 a_slot ≡ 1 ∷ 2 ∷ 4 ∷ []
each_once = refl

in_no_other_stream : (postings_read two_tokens 2).positions 1 a_slot ≡ []
in_no_other_stream = refl
