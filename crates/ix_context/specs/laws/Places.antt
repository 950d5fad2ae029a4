-- The place that ends the entry of an index: how long it is, and that code holds one.
use Rattle.std.proofs.Common.{◌≡◌, ℕ, ◌+◌, ◌/◌, ◌≤◌, ◌<◌, List, length, refl, ap, ◌∙◌, inl, inr, arith, length-append}
use Rattle.std.proofs.lemmas.Bool.{cases_lt}
use Rattle.ct_base.specs.laws.Names.{name_length}
use Rattle.ct_bytes.specs.Varints.{varint, text_bytes}
use Rattle.ct_bytes.specs.laws.Varints.{varint_last, varint_more}
use Rattle.ix_context.specs.declared.places.Place.{Place}
use Rattle.ix_context.specs.declared.places.Place.TheVariants.{Start, Word, Section}
use Rattle.ix_context.specs.Places.{IsPlace, AtStart, BehindWord, BehindSection, IsPlaceRead, place_bytes}

-- a text of at most 255 bytes has at most two bytes in front
two_bytes : (n : ℕ) → n ≤ 255 → length (varint n) ≤ 2
unfolding varint
two_bytes n small = elim (cases_lt n 128) [
  | inl last ↦ rw (varint_last 4 n last) (omega arith)
  | inr large ↦ let low : n / 128 < 128 = omega arith in rw (varint_more 3 n large, varint_last 3 (n / 128) low) (omega arith)
]

short_text : (text : List ℕ) → length text ≤ 255 → length (text_bytes text) ≤ 257
short_text text short =
    let both = length-append (varint (length text)) text in
    let count = two_bytes (length text) short in
    omega (arith, both, count, short)

-- A PLACE HAS AT MOST 258 BYTES.
pub length-place_le : (place : List ℕ) → IsPlace place → length place ≤ 258
length-place_le place (AtStart is) = let l : length place ≡ 2 = ap length is in omega (arith, l)
length-place_le place (BehindWord stream token low is_token is) =
    let l : length place ≡ 1 + length (text_bytes token) = ap length is ∙ omega arith in
    let short = short_text token is_token.short in
    omega (arith, l, short)
length-place_le place (BehindSection name named is) =
    let l : length place ≡ 1 + length (text_bytes name) = ap length is ∙ omega arith in
    let few = (name_length name named).1 in
    let short = short_text name (omega (arith, few)) in
    omega (arith, l, short)

-- a place as code holds it is one
pub place_read_is : (place : Place) → IsPlaceRead place → IsPlace (place_bytes place)
place_read_is Start is = AtStart refl
place_read_is (Word stream token) is = BehindWord stream token is.0 is.1 refl
place_read_is (Section name) named = BehindSection name named refl
