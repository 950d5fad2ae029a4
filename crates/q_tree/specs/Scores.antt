-- The score of a query on a document.
use Rattle.std.specs.Prelude.{ℕ, ℤ, pos, zero, suc, ◌≡◌, ◌+◌, ◌-◌, ◌*◌, ◌/◌, min, max, nat_lt, eqb, Bool, List, [], ◌∷◌, length, map, Option, Some, None, codes, refl}
use Rattle.std.specs.Bool.{if◌then◌else◌}
use Rattle.ct_base.specs.declared.numbers.Pair.{Pair}
use Rattle.ix_spans.specs.Occurrences.{Slots, phrase_starts, term_score, term_pairs, distinct, near_holds, is_pair_inside}
use Rattle.q_tree.specs.declared.flats.Slot.{Slot}
use Rattle.q_tree.specs.declared.flats.Slot.TheVariants.{Any, Takes}
use Rattle.q_tree.specs.declared.flats.Place.TheVariants.{Zone, Field, Sentence, Paragraph}
use Rattle.q_tree.specs.declared.flats.SumStep.{SumStep}
use Rattle.q_tree.specs.declared.flats.SumStep.TheVariants.{Number, Discrete, Occurrence, Plus, Minus as Less, Times}
use Rattle.q_tree.specs.declared.queries.Op.{Op}
use Rattle.q_tree.specs.declared.queries.Op.TheVariants.{Or, And, Not, Minus}
use Rattle.q_tree.specs.ReducedQueries.{Reduced, Term, Both, Weight, Above, Near, Within, Define}
use Rattle.q_tree.specs.Sums.{steps_value}

-- The postings of a document: the positions, rising, at which a stream has a key that a slot takes; and the pairs of the section of a name.
pub record DocPostings : Type 0 where
  pub positions : ℕ → Slot → List ℕ
  pub spans : List ℕ → List Pair

-- ---- what the operators make of scores

-- a NOT b: the first, where the second is 0
abbrev pub unless : ℕ → ℕ → ℕ
unless a b = if eqb b 0 then a else 0

-- AND and OR: the lesser and the greater; NOT as above; MINUS: the difference, at least 0
abbrev pub operated : Op → ℕ → ℕ → ℕ
operated And a b = min a b
operated Or a b = max a b
operated Not a b = unless a b
operated Minus a b = a - b

-- a * w: a weight in tenths, rounded up, at most 100
abbrev pub weighted : ℕ → ℕ → ℕ
weighted tenths a = min 100 ((a * tenths + 9) / 10)

-- a > n
abbrev pub if_above : ℕ → ℕ → ℕ
if_above n a = if nat_lt n a then a else 0

abbrev pub if_near : Bool → ℕ
if_near b = if b then 100 else 0

-- the greatest score over the pairs that lie within lo to hi, each as the new range
abbrev pub greatest_within : (ℕ → ℕ → ℕ) → ℕ → ℕ → List Pair → ℕ
greatest_within f lo hi [] = 0
greatest_within f lo hi (p ∷ ps) = max (if is_pair_inside lo hi p then f p.first p.last else 0) (greatest_within f lo hi ps)

-- a whole number as a score: at least 1, at most 100
abbrev pub clamped : ℤ → ℕ
clamped (pos n) = max 1 (min 100 n)
clamped n = 1

-- DEFINESCORE, of a term that occurs so often
abbrev pub defined : ℕ → List SumStep → ℕ
defined zero steps = 0
defined (suc k) steps = clamped (steps_value (suc k) steps)

-- ---- where phrases occur

-- the positions of a slot in a stream; Any takes every position
abbrev pub slot_positions : DocPostings → ℕ → Slot → Option (List ℕ)
slot_positions d stream Any = None
slot_positions d stream (Takes keys patterns) = Some (d.positions stream (Takes keys patterns))

abbrev pub phrase_slots : DocPostings → ℕ → List Slot → Slots
phrase_slots d stream phrase = map (slot_positions d stream) phrase

abbrev pub term_slots : DocPostings → ℕ → List (List Slot) → List Slots
term_slots d stream phrases = map (phrase_slots d stream) phrases

abbrev pub operand_slots : DocPostings → ℕ → List (List (List Slot)) → List (List Slots)
operand_slots d stream operands = map (term_slots d stream) operands

-- THE OCCURRENCES of a phrase in a stream within lo to hi, by the position of the first word
abbrev pub occurrences : List Slot → DocPostings → ℕ → ℕ → ℕ → List ℕ
occurrences phrase d stream lo hi = phrase_starts (phrase_slots d stream phrase) lo hi

-- NEAR: 100 where one occurrence of each operand can be chosen that stand near one another
abbrev pub near_score : List (List Slots) → ℕ → Bool → ℕ → ℕ → ℕ
near_score operands span ordered lo hi = if_near (near_holds (map (λ o. term_pairs o lo hi) operands) span ordered)

-- DEFINESCORE: by how many occurrences the phrases of a term have, where equal ones count once
abbrev pub define_score : List Slots → List SumStep → ℕ → ℕ → ℕ
define_score phrases sum lo hi = defined (length (distinct (term_pairs phrases lo hi))) sum

-- ---- the score

-- THE SCORE of a query on a document, over a stream and within lo to hi
abbrev pub score : Reduced → DocPostings → ℕ → ℕ → ℕ → ℕ
score (Term phrases) d s lo hi = term_score (term_slots d s phrases) lo hi
score (Both op a b) d s lo hi = operated op (score a d s lo hi) (score b d s lo hi)
score (Weight w a) d s lo hi = weighted w (score a d s lo hi)
score (Above n a) d s lo hi = if_above n (score a d s lo hi)
score (Near operands span ordered) d s lo hi = near_score (operand_slots d s operands) span ordered lo hi
score (Within (Field f) a) d s lo hi = score a d f lo hi
score (Within (Zone name) a) d s lo hi = greatest_within (λ l h. score a d s l h) lo hi (d.spans name)
score (Within Sentence a) d s lo hi = greatest_within (λ l h. score a d s l h) lo hi (d.spans (codes "sentence"))
score (Within Paragraph a) d s lo hi = greatest_within (λ l h. score a d s l h) lo hi (d.spans (codes "paragraph"))
score (Define phrases sum) d s lo hi = define_score (term_slots d s phrases) sum lo hi

-- the range of a whole document, which no word passes
abbrev pub last_position : ℕ
last_position = 4294967295

-- THE SCORE of a query on a document as a whole: over the main stream
abbrev pub whole_score : Reduced → DocPostings → ℕ
whole_score f d = score f d 0 1 last_position

-- ---- computed examples; those of whole queries are in `Examples.antt`

tenth_of_100 : weighted 1 100 ≡ 10
tenth_of_100 = refl

tenth_of_1 : weighted 1 1 ≡ 1
tenth_of_1 = refl

ten_times_20 : weighted 100 20 ≡ 100
ten_times_20 = refl

-- OCCURRENCE * 10 + 5, DISCRETE and 0 - 5, where a term occurs twice
sum_25 : defined 2 (Occurrence ∷ Number 10 ∷ Times ∷ Number 5 ∷ Plus ∷ []) ≡ 25
sum_25 = refl

sum_100 : defined 2 (Discrete ∷ []) ≡ 100
sum_100 = refl

at_least_1 : defined 2 (Number 0 ∷ Number 5 ∷ Less ∷ []) ≡ 1
at_least_1 = refl

-- a product that no 64 bits hold is clamped as it is
not_cut : defined 1 (Number 1000 ∷ Number 1000 ∷ Times ∷ Number 1000 ∷ Times ∷ Number 1000 ∷ Times ∷ Number 1000 ∷ Times ∷ Number 1000 ∷ Times ∷ Number 1000 ∷ Times ∷ Number 1000 ∷ Times ∷ Number 1000 ∷ Times ∷ []) ≡ 100
not_cut = refl

nowhere : defined 0 (Discrete ∷ []) ≡ 0
nowhere = refl
