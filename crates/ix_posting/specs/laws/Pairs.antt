-- Pairs as places.
use Rattle.std.proofs.Common.{◌≡◌, ℕ, ◌+◌, ◌-◌, ◌<◌, ◌≤◌, ◌^◌, List, ◌++◌, length, refl, ap, ◌∙◌, inl, inr, arith}
use Rattle.std.specs.Coded.{Coded, coded×, coded_ℕ, code_by}
use Rattle.ct_base.specs.declared.numbers.Pair.{Pair}
use Rattle.ct_bytes.specs.Varints.{varint, IsVarintAt}
use Rattle.ct_bytes.specs.laws.Varints.{varint_at_one}
use Rattle.ix_posting.specs.Forms.{ComesAfter, pair_form}
use Rattle.ix_posting.specs.Places.{IsForm, IsPlaceAt}
use Rattle.ix_posting.specs.laws.Standing.{joined, first_part, second_part, varint_stands, varint_is}

pub first-follows : (a b : Pair) → ComesAfter a b → a.first ≤ b.first
first-follows a b follows = elim follows [ inl greater ↦ omega arith | inr same ↦ omega (arith, same.0) ]

abbrev made : ℕ → ℕ → Pair
made m n = record { first = m; last = n }

pub same_pair : (p q : Pair) → p.first ≡ q.first → p.last ≡ q.last → p ≡ q
same_pair p q first last = ap (λ n. made n p.last) first ∙ ap (made q.first) last

-- The two varints of a pair.
pub record HasSteps (bytes : List ℕ) (before : Pair) (at : ℕ) (p : Pair) (next : ℕ) : Type 0 where
  pub mid : ℕ
  pub step : IsVarintAt bytes at (p.first - before.first) mid
  pub extent : IsVarintAt bytes mid (p.last - p.first) next

pub steps_of : (bytes : List ℕ) (before : Pair) (at : ℕ) (p : Pair) (next : ℕ) → IsPlaceAt pair_form bytes before at p next → HasSteps bytes before at p next
steps_of bytes before at p next is =
    let step : List ℕ = varint (p.first - before.first) in
    let extent : List ℕ = varint (p.last - p.first) in
    let ordered = is.alone.1 in
    let small = is.alone.2 in
    record {
      mid = at + length step;
      step = varint_is bytes at (p.first - before.first) (at + length step) (omega (arith, ordered, small)) (first_part bytes at step extent next is.stands);
      extent = varint_is bytes (at + length step) (p.last - p.first) next (omega (arith, small)) (second_part bytes at step extent next is.stands);
    }

pub pair_is : (bytes : List ℕ) (before : Pair) (at : ℕ) (p : Pair) (mid next : ℕ) → ComesAfter before p → 1 ≤ p.first → p.first ≤ p.last → p.last < 2 ^ 32
    → IsVarintAt bytes at (p.first - before.first) mid → IsVarintAt bytes mid (p.last - p.first) next → IsPlaceAt pair_form bytes before at p next
pair_is bytes before at p mid next follows some ordered small step extent = record {
  follows = follows;
  alone = (some, ordered, small);
  stands = joined bytes at (varint (p.first - before.first)) mid (varint (p.last - p.first)) next (varint_stands bytes at (p.first - before.first) mid step) (varint_stands bytes mid (p.last - p.first) next extent);
}

pair_alone : (bytes : List ℕ) (before : Pair) (at : ℕ) (p : Pair) (i : ℕ) (q : Pair) (j : ℕ) → IsPlaceAt pair_form bytes before at p i → IsPlaceAt pair_form bytes before at q j → (p ≡ q) × (i ≡ j)
pair_alone bytes before at p i q j first second =
    let one = steps_of bytes before at p i first in
    let other = steps_of bytes before at q j second in
    let step = varint_at_one bytes at (p.first - before.first) one.mid (q.first - before.first) other.mid one.step other.step in
    let extent = varint_at_one bytes other.mid (p.last - p.first) i (q.last - q.first) j (rw step.1 at one.extent) other.extent in
    let same_first : p.first ≡ q.first = omega (arith, step.0, first-follows before p first.follows, first-follows before q second.follows) in
    let same_last : p.last ≡ q.last = omega (arith, same_first, extent.0, first.alone.1, second.alone.1) in
    (same_pair p q same_first same_last, extent.1)

abbrev coded_pair : Coded Pair
coded_pair = code_by (ℕ × ℕ) (coded× coded_ℕ coded_ℕ) (λ p. (p.first, p.last)) (λ p. record { first = p.0; last = p.1 }) (λ _. refl)

pub pairs_are_read : IsForm pair_form
pairs_are_read = record { one = pair_alone; code = coded_pair }
