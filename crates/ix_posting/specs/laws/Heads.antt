-- What documents begin with: the step to the document, and how many places it has.
use Rattle.std.proofs.Common.{◌≡◌, ℕ, ◌+◌, ◌-◌, ◌<◌, ◌≤◌, ◌^◌, List, ◌++◌, length}
use Rattle.ct_bytes.specs.Varints.{varint}
use Rattle.ct_bytes.specs.laws.Varints.{varint_at_one}
use Rattle.ix_posting.specs.Places.{StandsAt, IsHeadAt}
use Rattle.ix_posting.specs.laws.Standing.{joined, first_part, second_part, varint_stands, varint_is}
use Rattle.ix_posting.specs.laws.Numbers.{number_alone}

abbrev pub document_head : ℕ → ℕ → ℕ → List ℕ
document_head before document count = varint (document - before) ++ varint count

pub head_whole : (bytes : List ℕ) (before at document count next : ℕ) → IsHeadAt bytes before at document count next → StandsAt bytes at (document_head before document count) next
head_whole bytes before at document count next is =
    joined bytes at (varint (document - before)) is.mid (varint count) next is.number.stands (varint_stands bytes is.mid count next is.places)

pub head_parts : (bytes : List ℕ) (before at document count next : ℕ) → before < document → document < 2 ^ 32 → 1 ≤ count → count < 2 ^ 32 → StandsAt bytes at (document_head before document count) next → IsHeadAt bytes before at document count next
head_parts bytes before at document count next rises small some few is = record {
  mid = at + length (varint (document - before));
  number = record { follows = rises; alone = small; stands = first_part bytes at (varint (document - before)) (varint count) next is };
  places = varint_is bytes (at + length (varint (document - before))) count next few (second_part bytes at (varint (document - before)) (varint count) next is);
  some = some;
}

-- a place has one head of a document after the one before it
pub head_alone : (bytes : List ℕ) (before at d m i e n j : ℕ) → IsHeadAt bytes before at d m i → IsHeadAt bytes before at e n j → (d ≡ e) × (m ≡ n) × (i ≡ j)
head_alone bytes before at d m i e n j first second =
    let number = number_alone bytes before at d first.mid e second.mid first.number second.number in
    let places = varint_at_one bytes second.mid m i n j (rw number.1 at first.places) second.places in
    (number.0, places.0, places.1)
