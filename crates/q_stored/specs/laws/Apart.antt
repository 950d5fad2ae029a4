-- No spelling of a part of a query begins another.
use Rattle.std.specs.Prelude.{ℕ, ◌≡◌, ◌/◌, ◌%◌, Bool, true, false, List, ◌∷◌, ◌++◌, refl}
use Rattle.std.proofs.Common.{arith, ap}
use Rattle.ct_base.specs.laws.Lists.{cons_parts}
use Rattle.ct_bytes.specs.Varints.{text_bytes}
use Rattle.ct_bytes.specs.laws.Varints.{text_apart}
use Rattle.tx_settings.specs.PrefsBytes.{listed}
use Rattle.tx_settings.specs.PrefsPromises.{NoneBegins}
use Rattle.tx_settings.specs.laws.Apart.{listed_apart, pair_apart}
use Rattle.q_tree.specs.declared.flats.PatternBit.TheVariants.{Chars, One, Many}
use Rattle.q_tree.specs.declared.flats.Slot.TheVariants.{Any, Takes}
use Rattle.q_tree.specs.declared.flats.Place.TheVariants.{Zone, Field, Sentence, Paragraph}
use Rattle.q_tree.specs.declared.flats.SumStep.TheVariants.{Number, Discrete, Occurrence, Plus, Minus as Less, Times}
use Rattle.q_tree.specs.declared.queries.Op.TheVariants.{And, Or, Not, Minus}
use Rattle.q_stored.specs.declared.heads.Head.TheVariants.{Term, Both, Weight, Above, Near, Within, Define}
use Rattle.q_stored.specs.QueryBytes.{bit_spelling, pattern_spelling, slot_spelling, term_spelling, place_spelling, step_spelling, head_spelling, order_byte}
use Rattle.q_stored.specs.Reading.{byte_spelling, order_spelling}

pub byte_apart : NoneBegins byte_spelling
byte_apart a b r s e = cons_parts a b r s e

one_order : (a b : Bool) → order_byte a ≡ order_byte b → a ≡ b
one_order true true e = refl
one_order true false e = cc
one_order false true e = cc
one_order false false e = refl

pub order_apart : NoneBegins order_spelling
order_apart a b r s e = let p = cons_parts (order_byte a) (order_byte b) r s e in (one_order a b p.0, p.1)

pub bits_apart : NoneBegins bit_spelling
bits_apart (Chars a1) (Chars a2) r s e = let t = text_apart a1 a2 r s (cons_parts _ _ _ _ e).1 in (ap Chars t.0, t.1)
bits_apart (Chars a1) One r s e = cc
bits_apart (Chars a1) Many r s e = cc
bits_apart One (Chars a2) r s e = cc
bits_apart One One r s e = (refl, (cons_parts _ _ _ _ e).1)
bits_apart One Many r s e = cc
bits_apart Many (Chars a2) r s e = cc
bits_apart Many One r s e = cc
bits_apart Many Many r s e = (refl, (cons_parts _ _ _ _ e).1)

pub patterns_apart : NoneBegins pattern_spelling
patterns_apart = listed_apart bit_spelling bits_apart

pub slots_apart : NoneBegins slot_spelling
slots_apart Any Any r s e = (refl, (cons_parts _ _ _ _ e).1)
slots_apart Any (Takes k2 p2) r s e = cc
slots_apart (Takes k1 p1) Any r s e = cc
slots_apart (Takes k1 p1) (Takes k2 p2) r s e =
    let keys = listed_apart text_bytes text_apart k1 k2 (listed pattern_spelling p1 ++ r) (listed pattern_spelling p2 ++ s) (pair_apart (listed text_bytes k1) (listed text_bytes k2) (listed pattern_spelling p1) (listed pattern_spelling p2) r s (cons_parts _ _ _ _ e).1) in
    let patterns = listed_apart pattern_spelling patterns_apart p1 p2 r s keys.1 in
    (λ i. Takes (keys.0 i) (patterns.0 i), patterns.1)

pub phrases_apart : NoneBegins (listed slot_spelling)
phrases_apart = listed_apart slot_spelling slots_apart

pub terms_apart : NoneBegins term_spelling
terms_apart = listed_apart (listed slot_spelling) phrases_apart

pub operands_apart : NoneBegins (listed term_spelling)
operands_apart = listed_apart term_spelling terms_apart

pub places_apart : NoneBegins place_spelling
places_apart (Zone a1) (Zone a2) r s e = let t = text_apart a1 a2 r s (cons_parts _ _ _ _ e).1 in (ap Zone t.0, t.1)
places_apart (Zone a1) (Field a2) r s e = cc
places_apart (Zone a1) Sentence r s e = cc
places_apart (Zone a1) Paragraph r s e = cc
places_apart (Field a1) (Zone a2) r s e = cc
places_apart (Field a1) (Field a2) r s e = let t = byte_apart a1 a2 r s (cons_parts _ _ _ _ e).1 in (ap Field t.0, t.1)
places_apart (Field a1) Sentence r s e = cc
places_apart (Field a1) Paragraph r s e = cc
places_apart Sentence (Zone a2) r s e = cc
places_apart Sentence (Field a2) r s e = cc
places_apart Sentence Sentence r s e = (refl, (cons_parts _ _ _ _ e).1)
places_apart Sentence Paragraph r s e = cc
places_apart Paragraph (Zone a2) r s e = cc
places_apart Paragraph (Field a2) r s e = cc
places_apart Paragraph Sentence r s e = cc
places_apart Paragraph Paragraph r s e = (refl, (cons_parts _ _ _ _ e).1)

whole_number : (m n : ℕ) → m / 256 ≡ n / 256 → m % 256 ≡ n % 256 → m ≡ n
whole_number m n high low = omega (arith, high, low)

number_apart : (m n : ℕ) (r s : List ℕ) → m / 256 ∷ m % 256 ∷ r ≡ n / 256 ∷ n % 256 ∷ s → (m ≡ n) × (r ≡ s)
number_apart m n r s e =
    let first = cons_parts (m / 256) (n / 256) (m % 256 ∷ r) (n % 256 ∷ s) e in
    let second = cons_parts (m % 256) (n % 256) r s first.1 in
    (whole_number m n first.0 second.0, second.1)

pub steps_apart : NoneBegins step_spelling
steps_apart (Number a1) (Number a2) r s e = let t = number_apart a1 a2 r s (cons_parts _ _ _ _ e).1 in (ap Number t.0, t.1)
steps_apart (Number a1) Discrete r s e = cc
steps_apart (Number a1) Occurrence r s e = cc
steps_apart (Number a1) Plus r s e = cc
steps_apart (Number a1) Less r s e = cc
steps_apart (Number a1) Times r s e = cc
steps_apart Discrete (Number a2) r s e = cc
steps_apart Discrete Discrete r s e = (refl, (cons_parts _ _ _ _ e).1)
steps_apart Discrete Occurrence r s e = cc
steps_apart Discrete Plus r s e = cc
steps_apart Discrete Less r s e = cc
steps_apart Discrete Times r s e = cc
steps_apart Occurrence (Number a2) r s e = cc
steps_apart Occurrence Discrete r s e = cc
steps_apart Occurrence Occurrence r s e = (refl, (cons_parts _ _ _ _ e).1)
steps_apart Occurrence Plus r s e = cc
steps_apart Occurrence Less r s e = cc
steps_apart Occurrence Times r s e = cc
steps_apart Plus (Number a2) r s e = cc
steps_apart Plus Discrete r s e = cc
steps_apart Plus Occurrence r s e = cc
steps_apart Plus Plus r s e = (refl, (cons_parts _ _ _ _ e).1)
steps_apart Plus Less r s e = cc
steps_apart Plus Times r s e = cc
steps_apart Less (Number a2) r s e = cc
steps_apart Less Discrete r s e = cc
steps_apart Less Occurrence r s e = cc
steps_apart Less Plus r s e = cc
steps_apart Less Less r s e = (refl, (cons_parts _ _ _ _ e).1)
steps_apart Less Times r s e = cc
steps_apart Times (Number a2) r s e = cc
steps_apart Times Discrete r s e = cc
steps_apart Times Occurrence r s e = cc
steps_apart Times Plus r s e = cc
steps_apart Times Less r s e = cc
steps_apart Times Times r s e = (refl, (cons_parts _ _ _ _ e).1)

pub sums_apart : NoneBegins (listed step_spelling)
sums_apart = listed_apart step_spelling steps_apart

-- each head by each other one
pub heads_apart : NoneBegins head_spelling
heads_apart (Term a1) (Term a2) r s e = let t = terms_apart a1 a2 r s (cons_parts _ _ _ _ e).1 in (ap Term t.0, t.1)
heads_apart (Term a1) (Both And) r s e = cc
heads_apart (Term a1) (Both Or) r s e = cc
heads_apart (Term a1) (Both Not) r s e = cc
heads_apart (Term a1) (Both Minus) r s e = cc
heads_apart (Term a1) (Weight a2) r s e = cc
heads_apart (Term a1) (Above a2) r s e = cc
heads_apart (Term a1) (Near a2 b2 c2) r s e = cc
heads_apart (Term a1) (Within a2) r s e = cc
heads_apart (Term a1) (Define a2 b2) r s e = cc
heads_apart (Both And) (Term a2) r s e = cc
heads_apart (Both And) (Both And) r s e = (refl, (cons_parts _ _ _ _ e).1)
heads_apart (Both And) (Both Or) r s e = cc
heads_apart (Both And) (Both Not) r s e = cc
heads_apart (Both And) (Both Minus) r s e = cc
heads_apart (Both And) (Weight a2) r s e = cc
heads_apart (Both And) (Above a2) r s e = cc
heads_apart (Both And) (Near a2 b2 c2) r s e = cc
heads_apart (Both And) (Within a2) r s e = cc
heads_apart (Both And) (Define a2 b2) r s e = cc
heads_apart (Both Or) (Term a2) r s e = cc
heads_apart (Both Or) (Both And) r s e = cc
heads_apart (Both Or) (Both Or) r s e = (refl, (cons_parts _ _ _ _ e).1)
heads_apart (Both Or) (Both Not) r s e = cc
heads_apart (Both Or) (Both Minus) r s e = cc
heads_apart (Both Or) (Weight a2) r s e = cc
heads_apart (Both Or) (Above a2) r s e = cc
heads_apart (Both Or) (Near a2 b2 c2) r s e = cc
heads_apart (Both Or) (Within a2) r s e = cc
heads_apart (Both Or) (Define a2 b2) r s e = cc
heads_apart (Both Not) (Term a2) r s e = cc
heads_apart (Both Not) (Both And) r s e = cc
heads_apart (Both Not) (Both Or) r s e = cc
heads_apart (Both Not) (Both Not) r s e = (refl, (cons_parts _ _ _ _ e).1)
heads_apart (Both Not) (Both Minus) r s e = cc
heads_apart (Both Not) (Weight a2) r s e = cc
heads_apart (Both Not) (Above a2) r s e = cc
heads_apart (Both Not) (Near a2 b2 c2) r s e = cc
heads_apart (Both Not) (Within a2) r s e = cc
heads_apart (Both Not) (Define a2 b2) r s e = cc
heads_apart (Both Minus) (Term a2) r s e = cc
heads_apart (Both Minus) (Both And) r s e = cc
heads_apart (Both Minus) (Both Or) r s e = cc
heads_apart (Both Minus) (Both Not) r s e = cc
heads_apart (Both Minus) (Both Minus) r s e = (refl, (cons_parts _ _ _ _ e).1)
heads_apart (Both Minus) (Weight a2) r s e = cc
heads_apart (Both Minus) (Above a2) r s e = cc
heads_apart (Both Minus) (Near a2 b2 c2) r s e = cc
heads_apart (Both Minus) (Within a2) r s e = cc
heads_apart (Both Minus) (Define a2 b2) r s e = cc
heads_apart (Weight a1) (Term a2) r s e = cc
heads_apart (Weight a1) (Both And) r s e = cc
heads_apart (Weight a1) (Both Or) r s e = cc
heads_apart (Weight a1) (Both Not) r s e = cc
heads_apart (Weight a1) (Both Minus) r s e = cc
heads_apart (Weight a1) (Weight a2) r s e = let t = byte_apart a1 a2 r s (cons_parts _ _ _ _ e).1 in (ap Weight t.0, t.1)
heads_apart (Weight a1) (Above a2) r s e = cc
heads_apart (Weight a1) (Near a2 b2 c2) r s e = cc
heads_apart (Weight a1) (Within a2) r s e = cc
heads_apart (Weight a1) (Define a2 b2) r s e = cc
heads_apart (Above a1) (Term a2) r s e = cc
heads_apart (Above a1) (Both And) r s e = cc
heads_apart (Above a1) (Both Or) r s e = cc
heads_apart (Above a1) (Both Not) r s e = cc
heads_apart (Above a1) (Both Minus) r s e = cc
heads_apart (Above a1) (Weight a2) r s e = cc
heads_apart (Above a1) (Above a2) r s e = let t = byte_apart a1 a2 r s (cons_parts _ _ _ _ e).1 in (ap Above t.0, t.1)
heads_apart (Above a1) (Near a2 b2 c2) r s e = cc
heads_apart (Above a1) (Within a2) r s e = cc
heads_apart (Above a1) (Define a2 b2) r s e = cc
heads_apart (Near a1 b1 c1) (Term a2) r s e = cc
heads_apart (Near a1 b1 c1) (Both And) r s e = cc
heads_apart (Near a1 b1 c1) (Both Or) r s e = cc
heads_apart (Near a1 b1 c1) (Both Not) r s e = cc
heads_apart (Near a1 b1 c1) (Both Minus) r s e = cc
heads_apart (Near a1 b1 c1) (Weight a2) r s e = cc
heads_apart (Near a1 b1 c1) (Above a2) r s e = cc
heads_apart (Near a1 b1 c1) (Near a2 b2 c2) r s e =
    let span = cons_parts b1 b2 (order_byte c1 ∷ listed term_spelling a1 ++ r) (order_byte c2 ∷ listed term_spelling a2 ++ s) (cons_parts _ _ _ _ e).1 in
    let order = order_apart c1 c2 (listed term_spelling a1 ++ r) (listed term_spelling a2 ++ s) span.1 in
    let operands = operands_apart a1 a2 r s order.1 in
    (λ i. Near (operands.0 i) (span.0 i) (order.0 i), operands.1)
heads_apart (Near a1 b1 c1) (Within a2) r s e = cc
heads_apart (Near a1 b1 c1) (Define a2 b2) r s e = cc
heads_apart (Within a1) (Term a2) r s e = cc
heads_apart (Within a1) (Both And) r s e = cc
heads_apart (Within a1) (Both Or) r s e = cc
heads_apart (Within a1) (Both Not) r s e = cc
heads_apart (Within a1) (Both Minus) r s e = cc
heads_apart (Within a1) (Weight a2) r s e = cc
heads_apart (Within a1) (Above a2) r s e = cc
heads_apart (Within a1) (Near a2 b2 c2) r s e = cc
heads_apart (Within a1) (Within a2) r s e = let t = places_apart a1 a2 r s (cons_parts _ _ _ _ e).1 in (ap Within t.0, t.1)
heads_apart (Within a1) (Define a2 b2) r s e = cc
heads_apart (Define a1 b1) (Term a2) r s e = cc
heads_apart (Define a1 b1) (Both And) r s e = cc
heads_apart (Define a1 b1) (Both Or) r s e = cc
heads_apart (Define a1 b1) (Both Not) r s e = cc
heads_apart (Define a1 b1) (Both Minus) r s e = cc
heads_apart (Define a1 b1) (Weight a2) r s e = cc
heads_apart (Define a1 b1) (Above a2) r s e = cc
heads_apart (Define a1 b1) (Near a2 b2 c2) r s e = cc
heads_apart (Define a1 b1) (Within a2) r s e = cc
heads_apart (Define a1 b1) (Define a2 b2) r s e =
    let phrases = terms_apart a1 a2 (listed step_spelling b1 ++ r) (listed step_spelling b2 ++ s) (pair_apart (term_spelling a1) (term_spelling a2) (listed step_spelling b1) (listed step_spelling b2) r s (cons_parts _ _ _ _ e).1) in
    let sum = sums_apart b1 b2 r s phrases.1 in
    (λ i. Define (phrases.0 i) (sum.0 i), sum.1)
