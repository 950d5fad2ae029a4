-- How a varint is read byte by byte.
use Rattle.std.proofs.Common.{◌≡◌, ℕ, zero, suc, ◌+◌, ◌-◌, ◌*◌, ◌/◌, ◌%◌, ◌^◌, ◌<◌, ◌≤◌, ◌⊎◌, List, [], ◌∷◌, ◌++◌, length, get_or, take, drop, refl, sym, ap, ◌∙◌, inl, inr, subst, append_assoc, length-append, arith, below_more}
use Rattle.std.proofs.lemmas.Bool.{cases_lt}
use Rattle.std.proofs.lemmas.List.{take_more, take-append-drop, length-take-le, drop-drop}
use Rattle.std.proofs.Math.Nat.{pow-suc}
use Rattle.std.proofs.Math.Numerals.{add-one}
use Rattle.std.specs.Prelude.{Some, None, Result, Ok, Err}
use Rattle.std.specs.Result.{OkIff, result_ok}
use Rattle.ct_bytes.specs.Varints.{varint, varint_in, IsVarintAt}
use Rattle.ct_bytes.specs.laws.Varints.{varint_last, varint_more, varint_apart, varint_length}

-- Bytes that more follow have been read, and whatever number the rest spells completes the number.
pub record HasRead (bytes : List ℕ) (i number weight : ℕ) : Type 0 where
  pub power : weight ≡ 128 ^ i
  pub below : number < weight
  pub high : (j : ℕ) → j < i → 128 ≤ get_or bytes j 0
  pub spelt : (more rest : ℕ) → i + more ≡ 4 → 0 < rest → varint (number + weight * rest) ≡ take i bytes ++ varint_in more rest

all_of : (more rest : ℕ) → more ≡ 4 → varint rest ≡ varint_in more rest
unfolding varint
all_of more rest e = ap (λ k. varint_in k rest) (sym e)

pub nothing_read : (bytes : List ℕ) → HasRead bytes 0 0 1
nothing_read bytes = record {
  power = refl;
  below = omega arith;
  high = λ j h. absurd (omega arith);
  spelt = λ more rest e h. let number : 0 + 1 * rest ≡ rest = omega arith in ap varint number ∙ all_of more rest (omega arith);
}

-- a byte that more follow, and the bytes after it
one_more : (more c rest : ℕ) → 128 ≤ c → c < 256 → 0 < rest → varint_in (suc more) (c % 128 + 128 * rest) ≡ c ∷ varint_in more rest
one_more more c rest high byte some =
    let low : 128 + (c % 128 + 128 * rest) % 128 ≡ c = omega arith in
    let up : (c % 128 + 128 * rest) / 128 ≡ rest = omega arith in
    varint_more more (c % 128 + 128 * rest) (omega arith) ∙ ap (λ b. b ∷ varint_in more ((c % 128 + 128 * rest) / 128)) low ∙ ap (λ n. c ∷ varint_in more n) up

regrouped : (number weight low rest : ℕ) → number + low * weight + weight * 128 * rest ≡ number + weight * (low + 128 * rest)
regrouped number weight low rest = omega arith

below_next : (number weight low : ℕ) → number < weight → low < 128 → number + low * weight < weight * 128
below_next number weight low below small = grind arith

next_power : (weight i : ℕ) → weight ≡ 128 ^ i → weight * 128 ≡ 128 ^ (i + 1)
next_power weight i power = rw (add-one, pow-suc, power) (omega arith)

pub read_more : (bytes : List ℕ) (i number weight c : ℕ) → HasRead bytes i number weight → i < length bytes → c ≡ get_or bytes i 0 → 128 ≤ c → c < 256 → HasRead bytes (i + 1) (number + c % 128 * weight) (weight * 128)
read_more bytes i number weight c read within at high byte = record {
  power = next_power weight i read.power;
  below = below_next number weight (c % 128) read.below (omega arith);
  high = below_more _ _ read.high (omega arith);
  spelt = λ more rest e some.
      ap varint (regrouped number weight (c % 128) rest) ∙
      read.spelt (suc more) (c % 128 + 128 * rest) (omega arith) (omega arith) ∙
      ap (λ x. take i bytes ++ x) (one_more more c rest high byte some) ∙
      sym (append_assoc (take i bytes) (c ∷ []) (varint_in more rest)) ∙
      ap (λ x. x ++ varint_in more rest) (ap (λ b. take i bytes ++ b ∷ []) at ∙ sym (take_more bytes i 0 within));
}

-- the last byte, which is 0 only where it is the only one
pub read_last : (bytes : List ℕ) (i number weight c : ℕ) → HasRead bytes i number weight → i ≤ 4 → i < length bytes → c ≡ get_or bytes i 0 → c < 128 → (0 < c) ⊎ (i ≡ 0) → varint (number + c % 128 * weight) ≡ take (i + 1) bytes
read_last bytes i number weight c read most within at low last = elim last [ inl some ↦ end some | inr first ↦ alone first ]
  where
    taken : take i bytes ++ c ∷ [] ≡ take (i + 1) bytes
    taken = ap (λ b. take i bytes ++ b ∷ []) at ∙ sym (take_more bytes i 0 within)

    end : 0 < c → varint (number + c % 128 * weight) ≡ take (i + 1) bytes
    end some =
        let same : c % 128 ≡ c = omega arith in
        let number_is : number + c % 128 * weight ≡ number + weight * c = rw same (omega arith) in
        ap varint number_is ∙ read.spelt (4 - i) c (omega arith) some ∙ ap (λ x. take i bytes ++ x) (varint_last (4 - i) c low) ∙ taken

    alone : i ≡ 0 → varint (number + c % 128 * weight) ≡ take (i + 1) bytes
    alone first =
        let one : weight ≡ 1 = read.power ∙ ap (λ k. 128 ^ k) first in
        let below : number < 1 = omega (arith, read.below) in
        let number_is : number + c % 128 * weight ≡ c = rw one (omega arith) in
        let nothing : take i bytes ≡ [] = ap (λ k. take k bytes) first in
        ap varint number_is ∙ all_of 4 c refl ∙ varint_last 4 c low ∙ ap (λ x. x ++ c ∷ []) (sym nothing) ∙ taken

pub is_at : (bytes : List ℕ) (i n : ℕ) → varint n ≡ take (i + 1) bytes → i < length bytes → n < 2 ^ 32 → IsVarintAt bytes 0 n (i + 1)
is_at bytes i n spelt within small = record {
  small = small;
  spelt = sym (ap (λ x. x ++ drop (i + 1) bytes) spelt ∙ take-append-drop (i + 1) bytes);
  end = sym (omega (arith, ap length spelt ∙ length-take-le (i + 1) bytes (omega arith)));
}

-- What the bytes before a place tell of the place, where a number's bytes and then others stand
abbrev Later : ℕ → ℕ → List ℕ → List ℕ → Type 0
Later n i s prefix = ((j : ℕ) → j < i → 128 ≤ get_or (prefix ++ s) j 0) → (i < length prefix) × (0 < n → 0 < get_or (prefix ++ s) i 0) × (0 < i → 0 < get_or (prefix ++ s) i 0)

alone_later : (n i : ℕ) (s : List ℕ) → n < 128 → Later n i s (n ∷ [])
alone_later n zero s small high = (omega arith, λ p. p, λ p. absurd (omega arith))
alone_later n (suc i) s small high = absurd (let first = high 0 (omega arith) in omega (arith, first))

more_later : (b n rest i : ℕ) (s prefix : List ℕ) → 0 < b → 0 < rest → ((i : ℕ) → Later rest i s prefix) → Later n i s (b ∷ prefix)
more_later b n rest zero s prefix byte some later high = (omega arith, λ _. byte, λ _. byte)
more_later b n rest (suc i) s prefix byte some later high =
    let t = later i (λ j h. high (suc j) (omega arith)) in
    (omega (arith, t.0), λ _. t.1 some, λ _. t.1 some)

last_later : (more n i : ℕ) (s : List ℕ) → n < 128 * 128 ^ more → Later n i s (varint_in more n)
last_later zero n i s small = alone_later n i s (omega arith)
last_later (suc more) n i s small = elim (cases_lt n 128) [
  | inl low ↦ subst (Later n i s) (sym (varint_last (suc more) n low)) (alone_later n i s low)
  | inr large ↦
      let rest_small : n / 128 < 128 * 128 ^ more = omega (arith, pow-suc 128 more) in
      subst (Later n i s) (sym (varint_more more n large)) (more_later _ n (n / 128) i s _ (omega arith) (omega arith) (λ k. last_later more (n / 128) k s rest_small))
]

-- The last byte comes after those that more follow, and it is 0 only where it is the only one.
later_at : (bytes : List ℕ) (n next i : ℕ) → IsVarintAt bytes 0 n next → ((j : ℕ) → j < i → 128 ≤ get_or bytes j 0) → (i < length (varint n)) × (0 < n → 0 < get_or bytes i 0) × (0 < i → 0 < get_or bytes i 0)
unfolding varint
later_at bytes n next i is = rw is.spelt (last_later 4 n i (drop next bytes) (omega (arith, is.small)))

-- Where no varint stands: where the bytes end early, where none of the first five is the last, where the last is
-- a superfluous 0, and where they spell a number that is too large
module _ (bytes : List ℕ) (n next i : ℕ) (is : IsVarintAt bytes 0 n next) where
  pub not_ended : ((j : ℕ) → j < i → 128 ≤ get_or bytes j 0) → length bytes ≤ i → ⊥
  not_ended high ended =
      let later = later_at bytes n next i is high in
      let long : length bytes ≡ length (varint n) + length (drop next bytes) = ap length is.spelt ∙ length-append (varint n) (drop next bytes) in
      omega (arith, later.0, long)

  pub not_longer : ((j : ℕ) → j < i → 128 ≤ get_or bytes j 0) → 5 ≤ i → ⊥
  not_longer high five = let later = later_at bytes n next i is high in omega (arith, later.0, varint_length n)

  pub not_zero : ((j : ℕ) → j < i → 128 ≤ get_or bytes j 0) → 0 < i → 0 ≡ get_or bytes i 0 → ⊥
  not_zero high end last =
      let later = later_at bytes n next i is high in
      omega (arith, later.2 end)

  pub not_large : (v : ℕ) → varint v ≡ take (i + 1) bytes → 2 ^ 32 ≤ v → ⊥
  not_large v spelt large =
      let whole : varint v ++ drop (i + 1) bytes ≡ varint n ++ drop next bytes = ap (λ x. x ++ drop (i + 1) bytes) spelt ∙ take-append-drop (i + 1) bytes ∙ is.spelt in
      let same = varint_apart v n (drop (i + 1) bytes) (drop next bytes) whole in
      omega (arith, same.0, is.small)

-- a cast that is tried
pub cast_ok : {E P : Type 0} (r : Result ℕ E) (n v : ℕ) → OkIff r P v → Some n ≡ result_ok r → P × (n ≡ v)
cast_ok (Ok x) n v iff is = (iff.0, cc (iff.1))
cast_ok (Err e) n v iff is = cc

pub cast_err : {E P : Type 0} (r : Result ℕ E) (v : ℕ) → OkIff r P v → None ≡ result_ok r → P → ⊥
cast_err (Ok x) v iff is = cc
cast_err (Err e) v iff is = iff

-- a varint at a place, and at the beginning of what stands from there on
pub at_place : (bytes rest : List ℕ) (at n len : ℕ) → rest ≡ drop at bytes → IsVarintAt rest 0 n len → IsVarintAt bytes at n (at + len)
at_place bytes rest at n len is prefix = record {
  small = prefix.small;
  spelt = sym is ∙ prefix.spelt ∙ ap (λ x. varint n ++ x) (ap (drop len) is ∙ drop-drop len at bytes);
  end = omega (arith, prefix.end);
}

pub at_its_place : (bytes rest : List ℕ) (at n next : ℕ) → rest ≡ drop at bytes → IsVarintAt bytes at n next → IsVarintAt rest 0 n (length (varint n))
at_its_place bytes rest at n next is place = record {
  small = place.small;
  spelt = is ∙ place.spelt ∙ ap (λ x. varint n ++ x) (ap (λ k. drop k bytes) place.end ∙ sym (drop-drop (length (varint n)) at bytes) ∙ ap (drop (length (varint n))) (sym is));
  end = omega arith;
}
