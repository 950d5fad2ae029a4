-- How many bytes rows of one document have at most.
use Rattle.ix_posting.specs.Forms.{PlaceForm, places_bytes, number_form, pair_form, no_pair}
use Rattle.ix_posting.specs.Rows.{posting_bytes_of, posting_bytes, span_row_bytes}
use Rattle.std.proofs.Common.{ℕ, ◌+◌, ◌*◌, ◌≤◌, List, [], ◌∷◌, ◌++◌, length, arith, length-append}
use Rattle.std.specs.Prelude.{◌-◌}
use Rattle.std.proofs.lemmas.List.{length-map}
use Rattle.ct_base.specs.declared.numbers.Pair.{Pair}
use Rattle.ct_bytes.specs.Varints.{varint}
use Rattle.ct_bytes.specs.laws.Varints.{varint_length}
use Rattle.ct_keep.specs.Content.{value_limit}
use Rattle.tx_document.specs.declared.entries.Entry.{Entry}
use Rattle.ix_rows.specs.Firsts.{first_positions}
use Rattle.ix_context.specs.Documents.{document_with}
use Rattle.ix_context.specs.laws.Postings.{most_places}

length-numbers_le : (before : ℕ) (ns : List ℕ) → length (places_bytes number_form before ns) ≤ 5 * length ns
length-numbers_le before [] = omega arith
length-numbers_le before (n ∷ ns) =
    let both = length-append (varint (n - before)) (places_bytes number_form n ns) in
    let one = varint_length (n - before) in
    let rest = length-numbers_le n ns in
    omega (arith, both, one, rest)

length-pairs_le : (before : Pair) (ps : List Pair) → length (places_bytes pair_form before ps) ≤ 10 * length ps
length-pairs_le before [] = omega arith
length-pairs_le before (p ∷ ps) =
    let both = length-append (varint (p.first - before.first) ++ varint (p.last - p.first)) (places_bytes pair_form p ps) in
    let steps = length-append (varint (p.first - before.first)) (varint (p.last - p.first)) in
    let step = varint_length (p.first - before.first) in
    let extent = varint_length (p.last - p.first) in
    let rest = length-pairs_le p ps in
    omega (arith, both, steps, step, extent, rest)

-- what a row of one document has besides its places
length-lone_le : {P : Type 0} (form : PlaceForm P) (d : ℕ) (ps : List P) → length (posting_bytes_of form (document_with d ps ∷ [])) ≤ 15 + length (places_bytes form form.origin ps)
length-lone_le form d ps =
    let count = varint_length 1 in
    let number = varint_length (d - 0) in
    let places = varint_length (length ps) in
    simp length-append (omega (arith, count, number, places))

-- the values of rows of one document are bounded, where there are few places
pub length-word_le : (d : ℕ) (e : Entry) → length e.places ≤ most_places → length (posting_bytes (document_with d (first_positions e.places) ∷ [])) ≤ value_limit
length-word_le d e few =
    let long = length-lone_le number_form d (first_positions e.places) in
    let places = length-numbers_le 0 (first_positions e.places) in
    let same = length-map e.places (λ (p : Pair). p.first) in
    omega (arith, long, places, same, few)

pub length-section_le : (d : ℕ) (e : Entry) → length e.places ≤ most_places → length (span_row_bytes (document_with d e.places ∷ [])) ≤ value_limit
length-section_le d e few =
    let long = length-lone_le pair_form d e.places in
    let places = length-pairs_le no_pair e.places in
    omega (arith, long, places, few)
